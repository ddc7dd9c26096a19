-- `graph::Graph::row` meets its contract. Assumes nothing.
use Rattle.graph.specs.Rows.{cut}
use Rattle.graph.proofs.Graph.row.Goals as goal

pub returns : goal.returns
unfolding cut
returns c = rw (c.from.ensures, c.begin_of.ensures)
