-- The loop's invariant: the names of the members before the next one of the walk stand at the front. Assumes nothing.
use Rattle.std.proofs.Common.{◌≡◌, ◌≤◌}
use Rattle.replay.specs.Names.{names_below}
use Rattle.replay.proofs.Listing.{Front}
use Rattle.replay.proofs.compare.list_names.Given as goal

abbrev pub invariant-loop-m : goal.invariant-loop-m
invariant-loop-m l =
    (l.m-iterator.set.words ≡ l.fn.set.words)
    × (l.m-iterator.start ≤ 1024)
    × Front (names_below l.keys l.fn.set.words l.m-iterator.start) l.n l.fn.out l.out
