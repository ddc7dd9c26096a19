-- `reach_table::plot::finish_places` meets its contract. The loop's invariant: the nodes before the place are turned into their list
-- places. Assumes nothing.
use mathlib.Core.Path.{◌≡◌}
use Prim.Native.Nat.{ℕ, ◌≤◌, ◌<◌}
use lib.ListN.{get_or}
use Rattle.lists.specs.Ids.{MemberPlace}
use Rattle.reach_table.proofs.plot.finish_places.Given as goal

abbrev pub invariant-loop-place : goal.invariant-loop-place
invariant-loop-place l =
    ((k : ℕ) → k < l.place-index → MemberPlace l.fn.plot.components.now (get_or l.initial.places k 0) (get_or l.places k 0))
    × ((k : ℕ) → l.place-index ≤ k → get_or l.places k 0 ≡ get_or l.initial.places k 0)
