-- The loop's invariant: the places passed are counted. Assumes nothing.
use Rattle.std.proofs.Common.{length}
use Rattle.replay.proofs.Counting.{Counted}
use Rattle.replay.proofs.compare.differences.Given as goal

abbrev pub invariant-loop-number : goal.invariant-loop-number
invariant-loop-number g l =
    (goal.iterator-loop-number g).can_next l.number-iterator
    × (goal.iterator-loop-number g).is_finite l.number-iterator
    × Counted g.T.Answered.same l.recorded l.answered l.count (length l.yielded)
