-- Signed differences: from their bits, and where numbers are out of range.
--     of_bits, shift_far     the shift of a difference, by the arm of a `match` that its bits take
--     diff_fits              the difference of two coordinates fits
--     range_abs              the size of a coordinate
--     facing_by_shifts       the face of a step, an axis at a time
--     slope_by_shift         its slope by the shift along y
--     slope_most             a slope is at most 2
-- Assumes nothing.
use mathlib.Core.Path.{◌≡◌, refl, sym, ap, ◌∙◌}
use mathlib.Core.Bool.{Bool, true, false, cond, ◌&&◌}
use Prim.Native.Nat.{ℕ, zero, suc, ◌+◌, ◌≤◌, ◌<◌}
use native.Mathlib.Omega.{arith}
use lib.Dec.{eqb, leb, ltb}
use lib.IntN.{ℤ, pos, negsuc, neg_ℤ, nat_abs, ◌+ℤ◌, ◌-ℤ◌}
use lib.Signed.{mag}
use borrow.Author.Tests.{leb-true}
use mir.Syntax.{Width, w64}
use mir.Val.{to_z, of_z, SFits}
use mir.Facts.{to_z-of_z}
use Rattle.lists.specs.Signed.{in_range}
use Rattle.lists.proofs.Search.{both}
use Rattle.faces.specs.Ports.{NoFace}
use Rattle.faces.specs.Step.{Level, Falling, shift, level_face, face_of, slope_of, is_coordinate, shift_between, facing_between, slope_between}
use Rattle.faces.specs.declared.step.Shift.{Shift}
use Rattle.faces.specs.declared.step.Shift.TheVariants.{Back, Same, Ahead, Far}

pub of_bits : {w : Width} {z : ℤ} {n : ℕ} → SFits w z → of_z w z ≡ n → z ≡ to_z w n
of_bits {w} f e = sym (to_z-of_z f) ∙ ap (to_z w) e

-- where it has none of an arm's bits
pub shift_far : (d : ℤ) → (of_z w64 d ≡ 18446744073709551615 → ⊥) → (of_z w64 d ≡ 0 → ⊥) → (of_z w64 d ≡ 1 → ⊥) → Far ≡ shift d
shift_far (pos zero) h₁ h₂ h₃ = absurd (h₂ refl)
shift_far (pos (suc zero)) h₁ h₂ h₃ = absurd (h₃ refl)
shift_far (pos (suc (suc n))) h₁ h₂ h₃ = refl
shift_far (negsuc zero) h₁ h₂ h₃ = absurd (h₁ refl)
shift_far (negsuc (suc n)) h₁ h₂ h₃ = refl

-- ---- sizes

-- from - (m + 1) to m + 1: a bound on the size
pub range_abs : (z : ℤ) (m : ℕ) → in_range (negsuc m) (pos (suc m)) z ≡ true → nat_abs z ≤ suc m
range_abs (pos n) m e = leb-true n (suc m) e
range_abs (negsuc n) m e = let h = leb-true n m (both (leb n m) true e).0 in omega arith

nat_abs_neg : (z : ℤ) → nat_abs (neg_ℤ z) ≡ nat_abs z
nat_abs_neg (pos zero) = refl
nat_abs_neg (pos (suc n)) = refl
nat_abs_neg (negsuc n) = refl

mag_cond : (c : Bool) {x y m : ℕ} → x ≤ m → y ≤ m → mag (cond c (negsuc x) (pos y)) ≤ m
mag_cond true p q = p
mag_cond false p q = q

mag_add : (a b : ℤ) → mag (a +ℤ b) ≤ nat_abs a + nat_abs b
mag_add (pos a) (pos b) = omega arith
mag_add (pos a) (negsuc b) = mag_cond (ltb a (suc b)) (omega arith) (omega arith)
mag_add (negsuc a) (pos b) = mag_cond (ltb b (suc a)) (omega arith) (omega arith)
mag_add (negsuc a) (negsuc b) = omega arith

-- the difference of two numbers of a size below 2 ^ 62 fits
pub diff_fits : (a b : ℤ) → nat_abs a < 4611686018427387904 → nat_abs b < 4611686018427387904 → SFits w64 (a -ℤ b)
diff_fits a b p q = record { sfits = omega (arith, mag_add a (neg_ℤ b), nat_abs_neg b) }

-- ---- axis by axis

level_far : (vertical : ℕ) (x : Shift) → level_face vertical x Far ≡ NoFace
level_far vertical Back = refl
level_far vertical Same = refl
level_far vertical Ahead = refl
level_far vertical Far = refl

far_x : (y z : Shift) → face_of Far y z ≡ NoFace
far_x Back z = refl
far_x Same z = refl
far_x Ahead z = refl
far_x Far z = refl

far_z : (x y : Shift) → face_of x y Far ≡ NoFace
far_z x Back = level_far _ x
far_z x Same = level_far _ x
far_z x Ahead = level_far _ x
far_z x Far = refl

-- six tests, two to an axis
by_axis : (a b c a' b' c' : Bool) (x y z : Shift)
    → cond ((a && (b && c)) && (a' && (b' && c'))) (face_of x y z) NoFace ≡ face_of (cond (a && a') x Far) (cond (b && b') y Far) (cond (c && c') z Far)
by_axis false b c a' b' c' x y z = sym (far_x (cond (b && b') y Far) (cond (c && c') z Far))
by_axis true false c a' b' c' x y z = refl
by_axis true true false a' b' c' x y z = sym (far_z (cond a' x Far) (cond b' y Far))
by_axis true true true false b' c' x y z = sym (far_x (cond b' y Far) (cond c' z Far))
by_axis true true true true false c' x y z = refl
by_axis true true true true true false x y z = sym (far_z x y)
by_axis true true true true true true x y z = refl

pub facing_by_shifts : (x y z x' y' z' : ℤ) → facing_between x y z x' y' z' ≡ face_of (shift_between x x') (shift_between y y') (shift_between z z')
unfolding facing_between shift_between
facing_by_shifts x y z x' y' z' =
    by_axis (is_coordinate x) (is_coordinate y) (is_coordinate z) (is_coordinate x') (is_coordinate y') (is_coordinate z')
    (shift (x' -ℤ x)) (shift (y' -ℤ y)) (shift (z' -ℤ z))

-- a face that is found stands behind six tests, two of them of y
faced_on_y : (a b c a' b' c' : Bool) (face : ℕ) → eqb (cond ((a && (b && c)) && (a' && (b' && c'))) face NoFace) NoFace ≡ false → (b && b') ≡ true
faced_on_y false b c a' b' c' face e = cc
faced_on_y true false c a' b' c' face e = cc
faced_on_y true true false a' b' c' face e = cc
faced_on_y true true true false b' c' face e = cc
faced_on_y true true true true false c' face e = cc
faced_on_y true true true true true c' face e = refl

module _ (x y z x' y' z' : ℤ) where
  -- both numbers along y are coordinates where there is a face
  on_y : (t : Bool) → eqb (facing_between x y z x' y' z') NoFace ≡ t → cond t Level (slope_of (shift (y' -ℤ y))) ≡ cond t Level (slope_of (shift_between y y'))
  unfolding facing_between shift_between
  on_y true e = refl
  on_y false e =
      let faced = faced_on_y (is_coordinate x) (is_coordinate y) (is_coordinate z) (is_coordinate x') (is_coordinate y') (is_coordinate z')
      (face_of (shift (x' -ℤ x)) (shift (y' -ℤ y)) (shift (z' -ℤ z))) e in
      rw faced

  pub slope_by_shift : slope_between x y z x' y' z' ≡ cond (eqb (facing_between x y z x' y' z') NoFace) Level (slope_of (shift_between y y'))
  unfolding slope_between
  slope_by_shift = on_y (eqb (facing_between x y z x' y' z') NoFace) refl

  pub slope_most : slope_between x y z x' y' z' ≤ Falling
  unfolding slope_between
  slope_most = go (eqb (facing_between x y z x' y' z') NoFace) (shift (y' -ℤ y))
    where
      go : (t : Bool) (s : Shift) → cond t Level (slope_of s) ≤ Falling
      go true s = omega arith
      go false Back = omega arith
      go false Same = omega arith
      go false Ahead = omega arith
      go false Far = omega arith
