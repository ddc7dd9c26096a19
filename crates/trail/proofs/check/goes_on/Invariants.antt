-- `trail::check::goes_on` meets its contract. The loop's invariant: the rest of the list goes on from the id before it as the whole does.
-- Assumes nothing.
use Prim.Native.Nat.{◌-◌, ◌≤◌, ◌<◌}
use mathlib.Core.Path.{◌≡◌}
use lib.ListN.{length, get_or, drop}
use Rattle.trail.specs.Trail.{onward}
use Rattle.trail.specs.Port.{feeds_next, feeds_into}
use Rattle.trail.proofs.check.goes_on.Given as goal

abbrev pub invariant-loop-i : goal.invariant-loop-i
invariant-loop-i l =
    let edge = feeds_next l.ports.numbers.now in
    let feeds = feeds_into l.ports.numbers.now l.id l.port in
    (0 < l.i) × (l.i ≤ length l.trail)
    × (onward edge feeds (get_or l.trail 0 0) (drop 1 l.trail) ≡ onward edge feeds (get_or l.trail (l.i - 1) 0) (drop l.i l.trail))
