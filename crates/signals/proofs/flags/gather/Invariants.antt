-- `signals::flags::gather` meets its contract: the flags are those of the tests passed.
-- Assumes nothing.
use Rattle.std.proofs.Common.{length}
use Rattle.signals.specs.Flags.{Gathered}
use Rattle.signals.proofs.flags.gather.Given as goal

abbrev pub invariant-loop-j : goal.invariant-loop-j
invariant-loop-j l = Gathered (length l.yielded) l.index l.tests l.out
