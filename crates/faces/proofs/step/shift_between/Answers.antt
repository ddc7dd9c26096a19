-- `faces::step::shift_between` meets its contract: the difference of two coordinates fits, an arm has the bits of its number, and the last arm
-- none of them.
-- Assumes nothing.
use mathlib.Core.Path.{◌≡◌, sym, ap, ◌∙◌}
use mathlib.Core.Bool.{Bool, true, false, ◌&&◌}
use Prim.Native.Nat.{ℕ}
use native.Mathlib.Omega.{arith}
use lib.IntN.{ℤ, ◌-ℤ◌}
use mir.Syntax.{w64}
use mir.Val.{to_z, of_z, SFits}
use mir.Facts.{to_z-of_z}
use Rattle.lists.proofs.Search.{both}
use Rattle.faces.specs.Step.{is_coordinate, shift, shift_between}
use Rattle.faces.proofs.Steps.{of_bits, shift_far, range_abs, diff_fits}
use Rattle.faces.proofs.step.shift_between.Goals as goal
use Rattle.faces.proofs.step.shift_between.Goals.{Else-not-is_coordinate}

-- a number as the machine reads it back
abbrev read : ℤ → ℤ
read z = to_z w64 (of_z w64 z)

difference_read : (source sink : ℤ) → SFits w64 source → SFits w64 sink → read sink -ℤ read source ≡ sink -ℤ source
difference_read source sink f g = rw (to_z-of_z f, to_z-of_z g)

-- the test
tested : (source sink : ℤ) (p q : Bool) → SFits w64 source → SFits w64 sink → p ≡ is_coordinate (read source)
    → q ≡ is_coordinate (read sink)
    → (p && q) ≡ (is_coordinate source && is_coordinate sink)
tested source sink p q f g e d = rw (e, d, to_z-of_z f, to_z-of_z g)

-- where both are coordinates
between : (source sink : ℤ) → SFits w64 source → SFits w64 sink → (is_coordinate source && is_coordinate sink) ≡ true
    → shift_between source sink ≡ shift (read sink -ℤ read source)
unfolding shift_between
between source sink f g e = rw e (ap shift (sym (difference_read source sink f g)))

module _ (c : Else-not-is_coordinate) where
  inside : (is_coordinate c.args.source && is_coordinate c.args.sink) ≡ true
  inside =
      sym (tested c.args.source c.args.sink _ _ c.ranges.source c.ranges.sink c.is_coordinate.ensures c.is_coordinate-2.ensures)
      ∙ c.if-not-is_coordinate.false

  subtracts : SFits w64 (read c.args.sink -ℤ read c.args.source)
  subtracts =
      let in_both = both (is_coordinate c.args.source) (is_coordinate c.args.sink) inside in
      rw (difference_read c.args.source c.args.sink c.ranges.source c.ranges.sink)
      (diff_fits c.args.sink c.args.source
      (omega (arith, range_abs c.args.sink 29999999 in_both.1))
      (omega (arith, range_abs c.args.source 29999999 in_both.0)))

  -- an arm of the difference's bits
  arm : (n : ℕ) → of_z w64 (read c.args.sink -ℤ read c.args.source) ≡ n → shift (to_z w64 n) ≡ shift_between c.args.source c.args.sink
  arm n k = ap shift (sym (of_bits subtracts k)) ∙ sym (between c.args.source c.args.sink c.ranges.source c.ranges.sink inside)

pub returns-then-not-is_coordinate : goal.returns-then-not-is_coordinate
unfolding shift_between
returns-then-not-is_coordinate c =
    let e : (is_coordinate c.args.source && is_coordinate c.args.sink) ≡ false =
    sym (tested c.args.source c.args.sink _ _ c.ranges.source c.ranges.sink c.is_coordinate.ensures c.is_coordinate-2.ensures)
    ∙ c.if-not-is_coordinate.true in
    rw e

pub returns-in-minus1 : goal.returns-in-minus1
returns-in-minus1 c = arm (goal.at.returns-in-minus1 c).Else-not-is_coordinate 18446744073709551615 (cc)

pub returns-in-0 : goal.returns-in-0
returns-in-0 c = arm (goal.at.returns-in-0 c).Else-not-is_coordinate 0 (cc)

pub returns-in-1 : goal.returns-in-1
returns-in-1 c = arm (goal.at.returns-in-1 c).Else-not-is_coordinate 1 (cc)

pub returns-in_default : goal.returns-in_default
returns-in_default c =
    let w = (goal.at.returns-in_default c).Else-not-is_coordinate in
    shift_far (read c.args.sink -ℤ read c.args.source) (λ e. omega arith) (λ e. omega arith) (λ e. omega arith)
    ∙ sym (between c.args.source c.args.sink c.ranges.source c.ranges.sink (inside w))
