-- Answers for the goals that the search leaves.
use Rattle.graph.proofs.Rows.{own_rows}
use Rattle.graph.proofs.prepare.prepare.Goals as goal

pub invariant_of-forward : goal.invariant_of-forward
invariant_of-forward c = record { rows = own_rows c.build_rows.ensures.forward }

pub invariant_of-backward : goal.invariant_of-backward
invariant_of-backward c = record { rows = own_rows c.build_rows.ensures.backward }
