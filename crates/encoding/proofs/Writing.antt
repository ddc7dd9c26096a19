-- Numbers written as bytes.
--     length_low, length_bytes    the bytes of one number, and of a list of numbers
--     encode_more                 one number more
--     bytes_then                  further numbers, after those at the front
--     read_written                bytes that were written are read as the same number
--     word_written                and each number of a list that was written, whatever stands behind it
-- Assumes nothing.
use mathlib.Core.Path.{◌≡◌, refl, ap, ◌∙◌}
use mathlib.Core.List.{List, [], ◌∷◌, ◌++◌, append_assoc, append-nil}
use Prim.Native.Nat.{ℕ, zero, suc, ◌+◌, ◌*◌, ◌/◌, ◌-◌, ◌^◌, ◌<◌}
use native.Mathlib.Nat.{pow-suc}
use native.Mathlib.Numerals.{add-one}
use native.Mathlib.Omega.{arith}
use lib.ListN.{length, get_or, take, drop, length-append, length-take}
use lib.Seq.{take-suc, take-append_seam, take_at, drop_at, drop-append-add, drop-drop}
use borrow.Rule.Slice.PartMut.{put_mid}
use Rattle.lists.specs.Slices.{laid}
use Rattle.encoding.specs.Bytes.{number_bytes, little_endian, word_at, low_bytes, bytes_of}
use Rattle.encoding.proofs.Laid.{laid_then}

pub length_low : (k n : ℕ) → length (low_bytes k n) ≡ k
unfolding low_bytes
length_low zero n = refl
length_low (suc k) n = ap suc (length_low k (n / 256))

bytes_one : (n : ℕ) → bytes_of (n ∷ []) ≡ low_bytes number_bytes n
unfolding bytes_of
bytes_one n = append-nil (low_bytes number_bytes n)

pub bytes_append : (a b : List ℕ) → bytes_of (a ++ b) ≡ bytes_of a ++ bytes_of b
unfolding bytes_of
bytes_append [] b = refl
bytes_append (n ∷ a) b = rw (bytes_append a b, append_assoc)

pub bytes_more : (values : List ℕ) (k : ℕ) → k < length values → bytes_of (take (k + 1) values) ≡ bytes_of (take k values) ++ low_bytes number_bytes (get_or values k 0)
bytes_more values k h = rw (add-one, take-suc values k 0 h, bytes_append, bytes_one)

pub length_bytes : (ns : List ℕ) → length (bytes_of ns) ≡ length ns * number_bytes
unfolding bytes_of
length_bytes [] = refl
length_bytes (n ∷ ns) = length-append (low_bytes number_bytes n) (bytes_of ns) ∙ omega (arith, length_low number_bytes n, length_bytes ns)

-- the bytes of one number more, written after those of the first k
pub encode_more : (values old out part : List ℕ) (k : ℕ) → k < length values → out ≡ laid (bytes_of (take k values)) old → part ≡ low_bytes number_bytes (get_or values k 0)
    → put_mid (k * number_bytes) (k * number_bytes + number_bytes - k * number_bytes) out part ≡ laid (bytes_of (take (k + 1) values)) old
encode_more values old out part k h e f =
    let front = bytes_of (take k values) in
    let size : length front ≡ k * number_bytes = omega (arith, length_bytes (take k values), length-take k values) in
    let width : k * number_bytes + number_bytes - k * number_bytes ≡ number_bytes = omega arith in
    let low = length_low number_bytes (get_or values k 0) in
    rw (f, e, width, ← size, bytes_more values k h, length-append, low, append_assoc, take-append_seam, drop_at front (drop (length front) old) (length front) refl, drop-drop)

-- the bytes of further numbers, written after those that stand at the front
pub bytes_then : (ns ms old out out' : List ℕ) (k : ℕ) → length ns * number_bytes ≡ k → out ≡ laid (bytes_of ns) old
    → out' ≡ take k out ++ laid (bytes_of ms) (drop k out) → out' ≡ laid (bytes_of (ns ++ ms)) old
bytes_then ns ms old out out' k l e f =
    f ∙ rw e (laid_then (bytes_of ns) old k (length_bytes ns ∙ l) (bytes_of ms) ∙ rw (bytes_append ns ms))

pub read_written : (k n : ℕ) → n < 256 ^ k → little_endian (low_bytes k n) ≡ n
unfolding little_endian low_bytes
read_written zero n h = omega arith
read_written (suc k) n h = omega (arith, read_written k (n / 256) (omega (arith, pow-suc 256 k)))

number_there : (ns rest : List ℕ) (k : ℕ) → k < length ns → take number_bytes (drop (k * number_bytes) (bytes_of ns ++ rest)) ≡ low_bytes number_bytes (get_or ns k 0)
unfolding bytes_of
number_there [] rest k h = absurd (omega arith)
number_there (n ∷ ns) rest zero h = rw append_assoc (take_at (low_bytes number_bytes n) (bytes_of ns ++ rest) number_bytes (length_low number_bytes n))
number_there (n ∷ ns) rest (suc k) h =
    let e : suc k * number_bytes ≡ length (low_bytes number_bytes n) + k * number_bytes = omega (arith, length_low number_bytes n) in
    rw (append_assoc, e, drop-append-add) (number_there ns rest k (omega arith))

pub word_written : (ns rest : List ℕ) (k : ℕ) → k < length ns → get_or ns k 0 < 2 ^ 63 → word_at (bytes_of ns ++ rest) k ≡ get_or ns k 0
word_written ns rest k h small = ap little_endian (number_there ns rest k h) ∙ read_written number_bytes (get_or ns k 0) (omega (arith, small))
