-- `lists::ranges::Ranges::hold` meets its contract: what is left to test has the answer.
-- Assumes nothing.
use mathlib.Core.Path.{◌≡◌}
use Prim.Native.Nat.{◌+◌, ◌-◌, ◌≤◌}
use Rattle.lists.specs.Signed.{at, in_range}
use Rattle.lists.specs.First.{all_from}
use Rattle.lists.specs.Ranges.{record_in_range, lows_of, highs_of}
use Rattle.lists.proofs.ranges.Ranges.hold.Given as goal

abbrev pub invariant-loop-f : goal.invariant-loop-f
invariant-loop-f g l =
    (l.f ≤ g.row.WIDTH)
    × (all_from (λ f. in_range (at (lows_of l.self.fields) f) (at (highs_of l.self.fields) f) (at l.list (l.i + f))) l.f (g.row.WIDTH - l.f) ≡ record_in_range (lows_of l.self.fields) (highs_of l.self.fields) l.list l.i)
