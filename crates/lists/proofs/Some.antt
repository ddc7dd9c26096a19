-- Whether a test holds at some place below n.
--     some_at, some_found, some_none     what holds at a place holds at some, and the other way; what holds nowhere does not
--     and_true                           both of two tests
-- Assumes nothing.
use Rattle.std.specs.Prelude.{Option, Some, None}
use mathlib.Core.Path.{◌≡◌, refl, sym, ap, ◌∙◌}
use mathlib.Core.Bool.{Bool, true, false, ◌&&◌}
use Prim.Native.Nat.{ℕ, ◌<◌}
use native.Mathlib.Omega.{arith}
use Rattle.lists.specs.First.{first_from, is_found, some}
use Rattle.lists.proofs.Search.{never, none_found, first_nothing, found_at}

module _ (test : ℕ → Bool) (n : ℕ) where
  pub some_at : (p : ℕ) → p < n → test p ≡ true → some test n ≡ true
  some_at p h e = go (first_from test 0 n) refl
    where
      go : (x : Option ℕ) → first_from test 0 n ≡ x → is_found x ≡ true
      go (Some q) f = refl
      go None f = never (sym (none_found test 0 n f p (omega arith) (omega arith)) ∙ e)

  pub some_none : ((p : ℕ) → p < n → test p ≡ false) → some test n ≡ false
  some_none none = ap is_found (first_nothing test 0 n (λ p a b. none p (omega arith)))

  pub some_found : some test n ≡ true → (p : ℕ) × (p < n) × (test p ≡ true)
  some_found e = go (first_from test 0 n) refl e
    where
      go : (x : Option ℕ) → first_from test 0 n ≡ x → is_found x ≡ true → (p : ℕ) × (p < n) × (test p ≡ true)
      go (Some p) q t = let f = found_at test 0 n p q in (p, omega (arith, f.below), f.passes)
      go None q t = never t

pub and_true : (a b : Bool) → a ≡ true → b ≡ true → (a && b) ≡ true
and_true a b e f = rw (e, f)
