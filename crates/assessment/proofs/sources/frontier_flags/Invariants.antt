-- `assessment::sources::frontier_flags` meets its contract: the flags are those of the frontiers passed.
-- Assumes nothing.
use Rattle.lists.specs.Records.{component_count}
use Rattle.signals.specs.Flags.{Flags}
use Rattle.assessment.proofs.Frontiers.{on_first}
use Rattle.assessment.proofs.sources.frontier_flags.Given as goal

abbrev pub invariant-loop-j : goal.invariant-loop-j
invariant-loop-j l = Flags (component_count l.components) (on_first l.components l.frontiers l.j) l.flags
