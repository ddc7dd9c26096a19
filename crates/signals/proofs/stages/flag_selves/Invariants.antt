-- `signals::stages::flag_selves` meets its contract: the nodes before x are dealt with.
-- Assumes nothing.
use Rattle.regions.specs.Graph.{at}
use Rattle.graph.specs.Rows.{edges_of}
use Rattle.signals.specs.Flags.{GatheredBy}
use Rattle.signals.proofs.stages.flag_selves.Given as goal

abbrev pub invariant-loop-x : goal.invariant-loop-x
invariant-loop-x l = GatheredBy l.x (at l.labels) (λ a. edges_of l.graph.ends.now l.graph.next.now a a) l.flags
