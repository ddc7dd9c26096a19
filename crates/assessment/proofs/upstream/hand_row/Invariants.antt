-- `assessment::upstream::hand_row` meets its contract: the row is handed on to the regions of the nodes before the place.
-- Assumes nothing.
use Rattle.std.proofs.Common.{◌≡◌, length}
use Rattle.assessment.specs.Upstream.{RowHanded}
use Rattle.assessment.proofs.upstream.hand_row.Given as goal

abbrev pub invariant-loop-node : goal.invariant-loop-node
invariant-loop-node l = record {
  handed : RowHanded l.nodes l.labels l.node-index l.r l.initial.rows l.rows;
  long : length l.rows ≡ length l.initial.rows;
}
