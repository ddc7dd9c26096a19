-- `signals::flags::count_into` meets its contract: the counts are those of the indices passed.
-- Assumes nothing.
use Rattle.signals.specs.Flags.{Counted}
use Rattle.signals.proofs.flags.count_into.Given as goal

abbrev pub invariant-loop-j : goal.invariant-loop-j
invariant-loop-j l = Counted l.j-index l.index l.counts
