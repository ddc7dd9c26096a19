-- How many bytes fields take: a sum that stays at the greatest number once it is there. Assumes nothing.
use Prim.Native.Nat.{ℕ, ◌+◌, ◌≤◌, min}
use native.Mathlib.Omega.{arith}
use mathlib.Core.Path.{◌≡◌, ap, ◌∙◌}
use mathlib.Core.List.{List, [], ◌++◌}
use lib.IntN.{ℤ, pos, negsuc}
use lib.ListN.{length, length-append}
use lib.Signed.{lt_z}
use mir.Val.{bool_byte}
use borrow.Author.Tests.{le-ltb}
use Rattle.std.specs.Prelude.{nat_abs}
use Rattle.lines.specs.Decimal.{digits, number}
use Rattle.forms.specs.Form.{Field, field_text}
use Rattle.forms.specs.Places.{greatest}
use Rattle.forms.proofs.Grammar.{field_size}

-- a minus and the digits
pub number_size : (z : ℤ) → length (number z []) ≡ bool_byte (lt_z z (pos 0)) + length (digits (nat_abs z) [])
number_size (pos n) = rw (le-ltb n 0 (omega arith)) (omega arith)
number_size (negsuc n) = omega arith

pub field_bytes : (f : Field) (z : ℤ) → length f.prefix + bool_byte (lt_z z (pos 0)) + length (digits (nat_abs z) []) + 1 ≡ length (field_text f z)
field_bytes f z = omega (arith, field_size f z, number_size z)

-- ---- sums

pub length_start : (q whole : List ℕ) → q ≡ whole → (0 ≤ greatest) × (min (0 + length q) greatest ≡ min (length whole) greatest)
length_start q whole e = let l = ap length e in (omega arith, omega arith)

-- t and then r are left, and t is added
pub length_added : (t r : List ℕ) (n whole : ℕ) (q : List ℕ) → q ≡ t ++ r → min (n + length q) greatest ≡ whole
    → (min (n + length t) greatest ≤ greatest) × (min (min (n + length t) greatest + length r) greatest ≡ whole)
length_added t r n whole q e h =
    let l : length q ≡ length t + length r = ap length e ∙ length-append t r in
    (omega arith, omega arith)

-- the same, where t is told at most as the greatest
pub length_told : (t r : List ℕ) (n whole : ℕ) (q : List ℕ) → q ≡ t ++ r → min (n + length q) greatest ≡ whole
    → (min (n + min (length t) greatest) greatest ≤ greatest) × (min (min (n + min (length t) greatest) greatest + length r) greatest ≡ whole)
length_told t r n whole q e h =
    let l : length q ≡ length t + length r = ap length e ∙ length-append t r in
    (omega arith, omega arith)

-- nothing is left
pub length_end : (n whole : ℕ) (q : List ℕ) → q ≡ [] → n ≤ greatest → min (n + length q) greatest ≡ whole → n ≡ whole
length_end n whole q e h w =
    let l : length q ≡ 0 = ap length e in
    omega arith
