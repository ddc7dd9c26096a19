-- How many bytes a number of a range takes, and records of such numbers.
--     digits_sized                   a number below a power of ten
--     natural_sized, signed_sized    a number of a range from 0, and of one from below 0
--     fields_sized                   a run of fields, by the sizes of its numbers
--     records_sized                  n records, by the size of each
--     ranged_sized                   n records whose fields are in their ranges
-- Assumes nothing.
use Prim.Native.Nat.{ℕ, zero, suc, ◌+◌, ◌*◌, ◌/◌, ◌%◌, ◌^◌, ◌≤◌, ◌<◌}
use native.Mathlib.Nat.{suc-mul}
use native.Mathlib.Omega.{arith}
use mathlib.Core.Path.{◌≡◌}
use mathlib.Core.Bool.{true}
use mathlib.Core.Logic.{⊎_elim}
use mathlib.Core.List.{List, [], ◌∷◌}
use lib.Dec.{leb}
use lib.IntN.{ℤ, pos, negsuc}
use lib.ListN.{length, drop, get_or, length-append, length-drop}
use borrow.Author.Tests.{leb-true}
use Rattle.std.proofs.lemmas.List.{drop-drop, get_or-drop}
use Rattle.lines.specs.Decimal.{digits_then, number}
use Rattle.lines.proofs.Digits.{below_or, digits_last, digits_turn, tens}
use Rattle.lists.specs.Signed.{at, in_range}
use Rattle.lists.specs.Within.{Within}
use Rattle.lists.proofs.Search.{never}
use Rattle.lists.proofs.Signed.{range_most}
use Rattle.forms.specs.Form.{Field, times, field_text, write_fields, write_records}
use Rattle.forms.proofs.Grammar.{both, field_size}
use Rattle.forms.proofs.Writing.{write_append}

-- ---- a number

pub digits_sized : (k more n : ℕ) (t : List ℕ) → n < 10 ^ suc k → length (digits_then more n t) ≤ suc k + length t
unfolding digits_then
digits_sized zero more n t h = rw (digits_last more n t h) (omega arith)
digits_sized (suc k) zero n t h = omega arith
digits_sized (suc k) (suc more) n t h =
    ⊎_elim
    (λ l. rw (digits_last (suc more) n t l) (omega arith))
    (λ g. rw (digits_turn more n t g) (let i = digits_sized k more (n / 10) ((48 + n % 10) ∷ t) (tens k n h) in omega arith))
    (below_or n 10)

pub natural_sized : (k high : ℕ) (z : ℤ) → high < 10 ^ suc k → in_range (pos 0) (pos high) z ≡ true → length (number z []) ≤ suc k
natural_sized k high (pos n) h e = let l = range_most (pos n) high e in omega (arith, digits_sized k 19 n [] (omega arith))
natural_sized k high (negsuc n) h e = never e

-- the minus is a byte more
pub signed_sized : (k low high : ℕ) (z : ℤ) → suc low < 10 ^ suc k → high < 10 ^ suc (suc k) → in_range (negsuc low) (pos high) z ≡ true
    → length (number z []) ≤ suc (suc k)
signed_sized k low high (pos n) l h e =
    let b = leb-true n high (both true (leb n high) e).1 in
    omega (arith, digits_sized (suc k) 19 n [] (omega arith))
signed_sized k low high (negsuc n) l h e =
    let b = leb-true n low (both (leb n low) true e).0 in
    omega (arith, digits_sized k 19 (suc n) [] (omega arith))

-- ---- fields

-- how many bytes fields take at most whose numbers take so many
unfoldable pub sized : List Field → List ℕ → ℕ
sized [] ks = 0
sized (f ∷ fs) [] = length f.prefix + 1 + sized fs []
sized (f ∷ fs) (k ∷ ks) = length f.prefix + k + 1 + sized fs ks

pub fields_sized : (fs : List Field) (ks : List ℕ) (zs : List ℤ) → ((i : ℕ) → i < length fs → length (number (at zs i) []) ≤ get_or ks i 0)
    → length (write_fields fs zs) ≤ sized fs ks
unfolding write_fields sized
fields_sized [] ks zs h = omega arith
fields_sized (f ∷ fs) ks [] h = omega arith
fields_sized (f ∷ fs) [] (z ∷ zs) h =
    omega (
      arith,
      length-append (field_text f z) (write_fields fs zs),
      field_size f z,
      h 0 (omega arith),
      fields_sized fs [] zs (λ i l. h (suc i) (omega arith)),
    )
fields_sized (f ∷ fs) (k ∷ ks) (z ∷ zs) h =
    omega (
      arith,
      length-append (field_text f z) (write_fields fs zs),
      field_size f z,
      h 0 (omega arith),
      fields_sized fs ks zs (λ i l. h (suc i) (omega arith)),
    )

-- ---- records

pub records_sized : (form : List Field) (most n : ℕ) (zs : List ℤ) → n * length form ≤ length zs
    → ((k p : ℕ) → k < n → p ≡ k * length form → length (write_fields form (drop p zs)) ≤ most) → length (write_records form n zs) ≤ n * most
unfolding times write_fields
records_sized form most zero zs c h = omega arith
records_sized form most (suc n) zs c h =
    let w = length form in
    let long : n * w + w ≤ length zs = rw suc-mul at c in
    let first : length (write_fields form zs) ≤ most = h 0 0 (omega arith) (omega arith) in
    let rest = records_sized form most n (drop w zs) (omega (arith, length-drop w zs)) (λ k p l e. rw (drop-drop p w zs) (h (suc k) (w + p) (omega arith) (rw suc-mul (omega arith)))) in
    rw (write_append form (times n form) zs (omega arith), suc-mul) (omega (arith, length-append (write_fields form zs) (write_fields (times n form) (drop w zs)), first, rest))

-- each field is in its range, and a number of that range takes at most so many bytes
pub ranged_sized : {limit : ℕ} {low high zs : List ℤ} (form : List Field) (ks : List ℕ) (n : ℕ) → Within limit low high zs → length form ≡ length low
    → n ≤ length zs / length low → n * length form ≤ length zs
    → ((f : ℕ) (z : ℤ) → f < length low → in_range (at low f) (at high f) z ≡ true → length (number z []) ≤ get_or ks f 0)
    → length (write_records form n zs) ≤ n * sized form ks
ranged_sized {limit} {low} {high} {zs} form ks n w same few whole h =
    records_sized form (sized form ks) n zs whole
    (λ k p l e. fields_sized form ks (drop p zs) (λ f m. rw (get_or-drop p zs f (pos 0), e, same) (h f (at zs (k * length low + f)) (omega arith) (w.field k f (omega arith) (omega arith)))))
