-- `assessment::upstream::carry_rows` meets its contract: the rows are handed on from the nodes before place i.
-- Assumes nothing.
use Rattle.std.proofs.Common.{length}
use Rattle.graph.specs.Rows.{edges_of}
use Rattle.assessment.proofs.UpRows.{RowsCarrying}
use Rattle.assessment.proofs.upstream.carry_rows.Given as goal

abbrev pub invariant-loop-i : goal.invariant-loop-i
invariant-loop-i l =
    let g = l.fn.graph in RowsCarrying (length g.ends.now) (edges_of g.ends.now g.next.now) l.nodes l.initial.rows l.rows l.i
