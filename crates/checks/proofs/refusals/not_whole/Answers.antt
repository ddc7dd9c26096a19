-- `checks::refusals::not_whole` meets its contract.
-- Assumes nothing.
use Rattle.std.specs.Prelude.{Some, None}
use mathlib.Core.Path.{◌≡◌, sym, ap}
use Prim.Native.Nat.{ℕ, ◌/◌, ◌%◌, ◌≤◌, ◌<◌}
use native.Mathlib.Omega.{arith}
use borrow.Author.Tests.{lt-ltb, le-ltb, eq-eqb, ne_eqb}
use Rattle.checks.specs.Refusals.{not_whole}
use Rattle.checks.proofs.refusals.not_whole.Goals as goal

module _ (width limit n : ℕ) where
  over : limit < n / width → not_whole width limit n ≡ Some limit
  unfolding not_whole
  over h = rw (lt-ltb limit (n / width) h) (ap Some (omega arith))

  odd : n / width ≤ limit → (n % width ≡ 0 → ⊥) → not_whole width limit n ≡ Some (n / width)
  unfolding not_whole
  odd h o = rw (le-ltb limit (n / width) h, ne_eqb (n % width) 0 o) (ap Some (omega arith))

  whole : n / width ≤ limit → n % width ≡ 0 → not_whole width limit n ≡ None
  unfolding not_whole
  whole h e = rw (le-ltb limit (n / width) h, eq-eqb (n % width) 0 e)

pub returns-then-limit-count : goal.returns-then-limit-count
returns-then-limit-count c = sym (over _ _ _ c.if-limit-count.true)

pub returns-then-len-width-ne0 : goal.returns-then-len-width-ne0
returns-then-len-width-ne0 c = sym (odd _ _ _ c.if-limit-count.false c.if-len-width-ne0.true)

pub returns : goal.returns
returns c = sym (whole _ _ _ c.if-limit-count.false c.if-len-width-ne0.false)
