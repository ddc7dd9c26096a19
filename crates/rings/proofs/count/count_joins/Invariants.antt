-- `rings::count::count_joins` meets its contract: the pairs of nodes before b are counted, and no mark is from a later node.
-- Assumes nothing.
use Rattle.graph.specs.Rows.{edges_of}
use Rattle.rings.specs.Counts.{SeenUpTo, JoinsCounted}
use Rattle.rings.proofs.count.count_joins.Given as goal

abbrev pub invariant-loop-b : goal.invariant-loop-b
invariant-loop-b l =
    let t = l.network in record {
      counted : JoinsCounted (edges_of t.forward.ends.now t.forward.next.now) t.labels.now l.b l.joins;
      marks : SeenUpTo l.b l.seen;
    }
