-- `lists::ranges::Ranges::first_outside` meets its contract: what is left to search has the answer.
-- Assumes nothing.
use mathlib.Core.Path.{◌≡◌}
use mathlib.Core.Bool.{not}
use Prim.Native.Nat.{◌-◌, ◌*◌, ◌/◌}
use lib.ListN.{length}
use Rattle.lists.specs.First.{first_from}
use Rattle.lists.specs.Ranges.{record_in_range, first_out_of_range, lows_of, highs_of}
use Rattle.lists.proofs.ranges.Ranges.first_outside.Given as goal

abbrev pub invariant-loop-k : goal.invariant-loop-k
invariant-loop-k g l =
    first_from (λ j. not (record_in_range (lows_of l.self.fields) (highs_of l.self.fields) l.list (j * g.row.WIDTH))) l.k (length l.list / g.row.WIDTH - l.k)
    ≡ first_out_of_range (lows_of l.self.fields) (highs_of l.self.fields) l.list
