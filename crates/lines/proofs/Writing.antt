-- Writers, one after the other: what the first wrote over the front of a buffer, and the second over the front of the rest, is
-- what both wrote. Assumes nothing.
use Prim.Native.Nat.{ℕ, suc, ◌+◌, ◌-◌, ◌≤◌, ◌<◌}
use native.Mathlib.Omega.{arith}
use mathlib.Core.Path.{◌≡◌, sym}
use mathlib.Core.List.{List, [], ◌∷◌, ◌++◌, append_assoc, append-nil}
use lib.ListN.{length, take, drop, set, get_or, length-append, length-drop}
use lib.Seq.{drop-cons, set_at, append_snoc, take_at, drop_at, take-length, drop-drop, drop-length}
use lib.IntN.{ℤ, pos}
use Rattle.lines.specs.Decimal.{digits, number, line_of}
use Rattle.lines.specs.Wrote.{Wrote}
use Rattle.lines.proofs.Digits.{last_digits, digits_append, digits_few, back_start, digit_set}
use Rattle.lines.proofs.Grammar.{number_append}

-- s over the front of a buffer
module _ {A : Type 0} where
  abbrev pub laid : List A → List A → List A
  laid s out = s ++ drop (length s) out

  pub length_laid : (s out : List A) → length s ≤ length out → length (laid s out) ≡ length out
  length_laid s out h = simp (length-append, length-drop) (omega arith)

  -- one element more
  pub laid_snoc : (s out : List A) (b : A) (n : ℕ) → length s ≡ n → n < length out → set (laid s out) n b ≡ laid (s ++ (b ∷ [])) out
  laid_snoc s out b n e h =
      let l : length s < length out = omega arith in
      let k : length (s ++ (b ∷ [])) ≡ suc (length s) = simp length-append (omega arith) in
      rw (drop-cons out (length s) b l, set_at s (get_or out (length s) b) (drop (suc (length s)) out) b n e, k)
      (sym (append_snoc s b (drop (suc (length s)) out)))

-- the rest of a buffer as it is lent, `&mut out[n..]`, and the buffer as the rest, now ys, comes back
abbrev pub lent : List ℕ → ℕ → List ℕ
lent out n = take (length out - n) (drop n out)

abbrev pub back : List ℕ → ℕ → List ℕ → List ℕ
back out n ys = take n out ++ (ys ++ drop (length out - n) (drop n out))

module _ (s a : List ℕ) (n : ℕ) (e : length s ≡ n) (h : length s ≤ length a) where
  drop_laid : drop n (laid s a) ≡ drop (length s) a
  drop_laid = drop_at s (drop (length s) a) n e

  take_laid : take n (laid s a) ≡ s
  take_laid = take_at s (drop (length s) a) n e

  rest_length : length (laid s a) - n ≡ length (drop (length s) a)
  rest_length = rw (length_laid s a h, length-drop) (omega arith)

  -- what is lent after s is the rest of the buffer as it was
  pub lent_laid : lent (laid s a) n ≡ drop (length s) a
  lent_laid = rw (drop_laid, rest_length) (take-length (drop (length s) a))

  -- and it comes back behind s
  pub back_laid : (ys : List ℕ) → back (laid s a) n ys ≡ s ++ ys
  back_laid ys = rw (take_laid, drop_laid, rest_length, drop-length (drop (length s) a), append-nil ys)

pub wrote_then : {s t a b ys : List ℕ} {n m : ℕ} → Wrote s a b n → Wrote t (lent b n) ys m → Wrote (s ++ t) a (back b n ys) (n + m)
wrote_then {s} {t} {a} {b} {ys} {n} {m} p q =
    let e = sym p.count in
    let l : lent b n ≡ drop (length s) a = rw p.bytes (lent_laid s a n e p.room) in
    let r : length t ≤ length (drop (length s) a) = rw l at q.room in
    let y : ys ≡ t ++ drop (length t) (drop (length s) a) = rw l at q.bytes in
    record {
      room = simp length-append (omega (arith, length-drop (length s) a));
      bytes = rw (p.bytes, back_laid s a n e p.room ys, y, drop-drop (length t) (length s) a, length-append s t) (sym (append_assoc s t _));
      count = rw (length-append s t) (omega arith);
    }

-- there is room for the second writer where there is room for both
pub room_then : {s a b : List ℕ} {n : ℕ} → Wrote s a b n → (t : List ℕ) → length (s ++ t) ≤ length a → length t ≤ length (lent b n)
room_then {s} {a} {b} {n} p t h =
    rw (p.bytes, lent_laid s a n (sym p.count) p.room, length-drop (length s) a) (omega (arith, length-append s t))

-- ---- the parts of a line

pub line_parts : (key : List ℕ) (z : ℤ) → key ++ (61 ∷ []) ++ number z [] ++ (10 ∷ []) ≡ line_of key z
line_parts key z = simp (append_assoc, number_append z [] (10 ∷ []))

pub line_size : (key : List ℕ) (z : ℤ) → length (line_of key z) ≡ length key + 1 + length (number z []) + 1
line_size key z = rw (← line_parts key z) (simp length-append)

-- the same of a number with no sign
pub natural_size : (key : List ℕ) (n : ℕ) → length (line_of key (pos n)) ≡ length key + length (digits n []) + 2
natural_size key n = omega (arith, line_size key (pos n))

pub ruleset line_sizes = (natural_size, digits_few)

-- ---- digits, written from the last to the first

pub digits_written : (n rest k i : ℕ) (out out' : List ℕ) → i ≡ 0 → k ≡ length (digits n []) → length (digits n []) ≤ length out
    → last_digits i rest (drop i out') ≡ digits n (drop k out) → Wrote (digits n []) out out' k
unfolding last_digits
digits_written n rest k i out out' z e h w =
    let w' : out' ≡ digits n (drop k out) = rw z at w in
    record { room = h; bytes = rw (w', e) (sym (digits_append 19 n [] (drop (length (digits n [])) out))); count = e }

pub ruleset digits_back = (back_start, digit_set, digits_written)
