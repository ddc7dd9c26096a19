-- The eight bytes of a number, by the library's words and by the definitions.
--     signed_at   number k of a list of bytes that is cut in arrays of eight, with its sign
--     low_of      the bytes of a number
-- Assumes nothing.
use mathlib.Core.Path.{◌≡◌, refl, sym, ap, ◌∙◌}
use mathlib.Core.Bool.{Bool, true, false}
use mathlib.Core.List.{List, [], ◌∷◌}
use Prim.Native.Nat.{ℕ, zero, suc, ◌+◌, ◌-◌, ◌*◌, ◌/◌, ◌^◌, ◌≤◌, ◌<◌}
use native.Mathlib.Nat.{suc-mul}
use native.Mathlib.Omega.{arith}
use lib.Dec.{ltb, lit<}
use lib.ListN.{length, get_or, take, drop, length-drop}
use lib.Seq.{drop-drop, get_or-take, get_or-drop, length-take-le}
use mir.Syntax.{w8, w64}
use mir.Val.{Fits, to_z}
use mir.Facts.{to_z_pos, to_z-neg}
use borrow.Author.Tests.{ltb-true, ltb-false}
use Rattle.std.specs.Int.{to_le_bytes, from_le_bytes}
use Rattle.std.specs.Simd.{first_chunks}
use Rattle.encoding.specs.Bytes.{number_bytes, little_endian, signed, word_at, low_bytes}
use Rattle.encoding.proofs.Reading.{signed_low, signed_high}

word_of : (bs : List ℕ) → length bs ≡ number_bytes → from_le_bytes w64 bs ≡ little_endian bs
unfolding little_endian
word_of [] l = absurd (omega arith)
word_of (a ∷ []) l = absurd (omega arith)
word_of (a ∷ b ∷ []) l = absurd (omega arith)
word_of (a ∷ b ∷ c ∷ []) l = absurd (omega arith)
word_of (a ∷ b ∷ c ∷ d ∷ []) l = absurd (omega arith)
word_of (a ∷ b ∷ c ∷ d ∷ e ∷ []) l = absurd (omega arith)
word_of (a ∷ b ∷ c ∷ d ∷ e ∷ f ∷ []) l = absurd (omega arith)
word_of (a ∷ b ∷ c ∷ d ∷ e ∷ f ∷ g ∷ []) l = absurd (omega arith)
word_of (a ∷ b ∷ c ∷ d ∷ e ∷ f ∷ g ∷ h ∷ []) l = omega arith
word_of (a ∷ b ∷ c ∷ d ∷ e ∷ f ∷ g ∷ h ∷ x ∷ bs) l = absurd (omega arith)

signed_word : (n : ℕ) → n < 2 ^ 64 → to_z w64 n ≡ signed n
signed_word n h = go (ltb n (2 ^ 63)) refl
  where
    go : (low : Bool) → ltb n (2 ^ 63) ≡ low → to_z w64 n ≡ signed n
    go true e = let l : n < 2 ^ 63 = ltb-true n (2 ^ 63) e in to_z_pos w64 l ∙ sym (signed_low n l)
    go false e =
        let l : 2 ^ 63 ≤ n = ltb-false n (2 ^ 63) e in
        let left = 2 ^ 64 - suc n in
        let same : 2 ^ 64 - suc left ≡ n = omega arith in
        let less : left < 2 ^ 63 = omega arith in
        ap (to_z w64) (sym same) ∙ to_z-neg w64 left less ∙ sym (signed_high n l h)

signed_of : (bs : List ℕ) → length bs ≡ number_bytes → ((i : ℕ) → i < number_bytes → get_or bs i 0 < 256) → to_z w64 (from_le_bytes w64 bs) ≡ signed (little_endian bs)
signed_of bs l h =
    let below : from_le_bytes w64 bs < 2 ^ 64 = omega (arith, h 0 (lit< tt), h 1 (lit< tt), h 2 (lit< tt), h 3 (lit< tt), h 4 (lit< tt), h 5 (lit< tt), h 6 (lit< tt), h 7 (lit< tt)) in
    signed_word (from_le_bytes w64 bs) below ∙ ap signed (word_of bs l)

chunk_at : (n m : ℕ) (xs : List ℕ) (k : ℕ) → k < m → get_or (first_chunks n m xs) k [] ≡ take n (drop (k * n) xs)
chunk_at n zero xs k h = absurd (omega arith)
chunk_at n (suc m) xs zero h = let none : 0 ≡ 0 * n = omega arith in ap (λ (i : ℕ). take n (drop i xs)) none
chunk_at n (suc m) xs (suc k) h =
    let place : n + k * n ≡ suc k * n = omega (arith, suc-mul k n) in
    chunk_at n m (drop n xs) k (omega arith) ∙ ap (take n) (drop-drop (k * n) n xs ∙ ap (λ (i : ℕ). drop i xs) place)

pub signed_at : (bytes : List ℕ) (words : List (List ℕ)) (k : ℕ) → ((i : ℕ) → Fits w8 (get_or bytes i 0))
    → words ≡ first_chunks number_bytes (length bytes / number_bytes) bytes → k < length bytes / number_bytes
    → to_z w64 (from_le_bytes w64 (get_or words k [])) ≡ signed (word_at bytes k)
signed_at bytes words k fits e h =
    let chunk = ap (λ (ws : List (List ℕ)). get_or ws k []) e ∙ chunk_at number_bytes (length bytes / number_bytes) bytes k h in
    let word = take number_bytes (drop (k * number_bytes) bytes) in
    let long : length word ≡ number_bytes = length-take-le number_bytes _ (omega (arith, length-drop (k * number_bytes) bytes)) in
    ap (λ (b : List ℕ). to_z w64 (from_le_bytes w64 b)) chunk
    ∙ signed_of word long (λ i l. rw (get_or-take number_bytes (drop (k * number_bytes) bytes) i 0 l, get_or-drop (k * number_bytes) bytes i 0) (fits (k * number_bytes + i)).fits)

pub low_of : (n : ℕ) → to_le_bytes w64 n ≡ low_bytes number_bytes n
unfolding low_bytes
low_of n =
    let two : n / 256 / 256 ≡ n / 65536 = omega arith in
    let three : n / 65536 / 256 ≡ n / 16777216 = omega arith in
    let four : n / 16777216 / 256 ≡ n / 4294967296 = omega arith in
    let five : n / 4294967296 / 256 ≡ n / 1099511627776 = omega arith in
    let six : n / 1099511627776 / 256 ≡ n / 281474976710656 = omega arith in
    let seven : n / 281474976710656 / 256 ≡ n / 72057594037927936 = omega arith in
    rw (two, three, four, five, six, seven)
