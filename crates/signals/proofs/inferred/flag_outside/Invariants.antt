-- `signals::inferred::flag_outside` meets its contract: the edges from the nodes before x are dealt with.
-- Assumes nothing.
use Rattle.std.proofs.Common.{not, ◌&&◌, get_or}
use lib.Dec.{eqb}
use Rattle.regions.specs.Graph.{marked}
use Rattle.graph.specs.Rows.{edges_of}
use Rattle.signals.proofs.Edged.{LedTo}
use Rattle.signals.proofs.inferred.flag_outside.Given as goal

abbrev pub invariant-loop-x : goal.invariant-loop-x
invariant-loop-x l =
    LedTo (edges_of l.graph.ends.now l.graph.next.now) (λ a b. not (marked l.passive a) && not (eqb (get_or l.labels a 0) (get_or l.labels b 0))) l.labels l.x l.fed
