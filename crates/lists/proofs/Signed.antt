-- Signed numbers of a list: a cast after the check, ranges as bounds of natural numbers, and the tests of order and of sameness.
-- Assumes nothing.
use mathlib.Core.Path.{◌≡◌, refl, sym, ap, subst}
use mathlib.Core.Bool.{Bool, true, false}
use Prim.Native.Nat.{ℕ, suc, ◌-◌, ◌≤◌}
use native.Mathlib.Omega.{arith}
use lib.Dec.{T, leb, eqb}
use lib.IntN.{ℤ, pos, negsuc, nat_abs}
use lib.Signed.{non_neg, lt_z}
use borrow.Author.Tests.{leb-true, eqb-true, eqb-false, eq-eqb, ne_eqb, ltb-true, ltb-false, lt-ltb, le-ltb}
use mir.Syntax.{w64}
use mir.Val.{to_z, of_z, SFits, Fits}
use mir.Facts.{to_z-of_z, Fits-nat_abs}
use Rattle.lists.specs.Signed.{in_range, eq_z}
use Rattle.lists.proofs.Search.{never, both}

-- a number that is not negative can be cast to an unsigned type as wide
pub cast_ok : (z : ℤ) → SFits w64 z → T (non_neg z) → T (non_neg (to_z w64 (of_z w64 z))) × Fits w64 (nat_abs (to_z w64 (of_z w64 z)))
cast_ok z f t = subst (λ (v : ℤ). T (non_neg v) × Fits w64 (nat_abs v)) (sym (to_z-of_z f)) (t, Fits-nat_abs tt f)

-- from 0 up: a natural number
pub range_non_neg : (z high : ℤ) → in_range (pos 0) high z ≡ true → T (non_neg z)
range_non_neg (pos n) high e = tt
range_non_neg (negsuc n) high e = never e

pub range_most : (z : ℤ) (h : ℕ) → in_range (pos 0) (pos h) z ≡ true → nat_abs z ≤ h
range_most (pos n) h e = leb-true n h (both (leb 0 n) (leb n h) e).1
range_most (negsuc n) h e = never e

-- two numbers are the same where their bits are
same_test : (m n p q : ℕ) → (m ≡ n → p ≡ q) → (p ≡ q → m ≡ n) → (b : Bool) → eqb p q ≡ b → eqb m n ≡ b
same_test m n p q f g true e = eq-eqb m n (g (eqb-true p q e))
same_test m n p q f g false e = ne_eqb m n (λ h. eqb-false p q e (f h))

pub eq_z_bits : (a b : ℤ) → SFits w64 a → SFits w64 b → eqb (of_z w64 a) (of_z w64 b) ≡ eq_z a b
eq_z_bits (pos a) (pos b) f g = refl
eq_z_bits (pos a) (negsuc b) f g = ne_eqb _ _ (λ (e : a ≡ 18446744073709551616 - suc b). omega (arith, f.sfits, g.sfits))
eq_z_bits (negsuc a) (pos b) f g = ne_eqb _ _ (λ (e : 18446744073709551616 - suc a ≡ b). omega (arith, f.sfits, g.sfits))
eq_z_bits (negsuc a) (negsuc b) f g =
    same_test (18446744073709551616 - suc a) (18446744073709551616 - suc b) a b (λ e. omega (arith, f.sfits, g.sfits)) (λ e. omega arith) (eqb a b) refl

-- ---- order and sameness

pub lt_z_self : (a : ℤ) → lt_z a a ≡ false
lt_z_self (pos a) = le-ltb a a (omega arith)
lt_z_self (negsuc a) = le-ltb a a (omega arith)

pub lt_z_trans : (a b c : ℤ) → lt_z a b ≡ true → lt_z b c ≡ true → lt_z a c ≡ true
lt_z_trans (pos a) (pos b) (pos c) e f = lt-ltb a c (omega (arith, ltb-true a b e, ltb-true b c f))
lt_z_trans (pos a) (pos b) (negsuc c) e f = f
lt_z_trans (pos a) (negsuc b) c e f = never e
lt_z_trans (negsuc a) b (pos c) e f = refl
lt_z_trans (negsuc a) (pos b) (negsuc c) e f = never f
lt_z_trans (negsuc a) (negsuc b) (negsuc c) e f = lt-ltb c a (omega (arith, ltb-true b a e, ltb-true c b f))

-- neither is less
pub lt_z_neither : (a b : ℤ) → lt_z a b ≡ false → lt_z b a ≡ false → a ≡ b
lt_z_neither (pos a) (pos b) e f = ap pos (omega (arith, ltb-false a b e, ltb-false b a f))
lt_z_neither (pos a) (negsuc b) e f = never (sym f)
lt_z_neither (negsuc a) (pos b) e f = never (sym e)
lt_z_neither (negsuc a) (negsuc b) e f = ap negsuc (omega (arith, ltb-false b a e, ltb-false a b f))

pub eq_z_same : (a b : ℤ) → eq_z a b ≡ true → a ≡ b
eq_z_same (pos a) (pos b) e = ap pos (eqb-true a b e)
eq_z_same (pos a) (negsuc b) e = never e
eq_z_same (negsuc a) (pos b) e = never e
eq_z_same (negsuc a) (negsuc b) e = ap negsuc (eqb-true a b e)

pub eq_z_self : (a : ℤ) → eq_z a a ≡ true
eq_z_self (pos a) = eq-eqb a a refl
eq_z_self (negsuc a) = eq-eqb a a refl
