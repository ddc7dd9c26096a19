-- The loop's invariant: the words passed have no digit in common.
use Rattle.std.proofs.Common.{ℕ, ◌<◌, length}
use Rattle.sets.proofs.Words.{ApartAt}
use Rattle.sets.proofs.ComponentSet.disjoint.Given as goal

abbrev pub invariant-loop-mine : goal.invariant-loop-mine
invariant-loop-mine l = (j : ℕ) → j < length l.yielded → ApartAt l.fn.self.words l.fn.other.words j
