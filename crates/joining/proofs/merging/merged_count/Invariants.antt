-- What was counted, and what is left of the merge, is the whole of it.
use Prim.Native.Nat.{◌+◌, ◌-◌, ◌/◌, ◌≤◌}
use mathlib.Core.Path.{◌≡◌}
use lib.ListN.{length}
use Rattle.joining.specs.Cursor.{merged_from}
use Rattle.joining.proofs.merging.merged_count.Given as goal

abbrev pub invariant-loop-step : goal.invariant-loop-step
invariant-loop-step l =
    ((l.i ≤ length l.a / l.width) × (l.j ≤ length l.b / l.width))
    × ((l.n ≤ l.i + l.j)
    × (l.n + length (merged_from l.fields l.width l.a l.i l.b l.j) ≡ length (merged_from l.fields l.width l.a 0 l.b 0)))

abbrev pub decreases-loop-step : goal.decreases-loop-step
decreases-loop-step l = (length l.a / l.width - l.i) + (length l.b / l.width - l.j)
