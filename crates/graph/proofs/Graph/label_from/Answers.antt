-- `graph::Graph::label_from` meets its contract: the order of the search is the members of the new region. Assumes nothing.
use mathlib.Core.Path.{sym}
use native.Mathlib.Omega.{arith}
use lib.Seq.{length-take-le}
use Rattle.regions.proofs.Label.{labelled_old, members_low, labelled_new}
use Rattle.graph.proofs.Label.{fresh_room, members_few}
use Rattle.graph.proofs.Graph.label_from.Goals as goal

pub returns-then-visited-node : goal.returns-then-visited-node
returns-then-visited-node c = labelled_old _ _ _ _ _ _ _ c.requires.3.stack_zeros c.if-visited-node.true

pub visit_from-size-requires : goal.visit_from-size-requires
visit_from-size-requires c = let few = fresh_room c.requires.3 in (c.requires.0, omega arith, c.requires.3)

pub slice_bounds-paint-end : goal.slice_bounds-paint-end
slice_bounds-paint-end c = members_few c.requires.3 c.visit_from-size.ensures c.visit_from-size.auto.order

pub slice_bounds-paint-end-2 : goal.slice_bounds-paint-end-2
slice_bounds-paint-end-2 c = sym (length-take-le _ _ (members_few c.requires.3 c.visit_from-size.ensures c.visit_from-size.auto.order))

pub paint-requires : goal.paint-requires
paint-requires c = λ i h. let low = members_low c.requires.0 c.visit_from-size.ensures i h in let long = c.requires.2 in omega arith

pub returns : goal.returns
returns c = rw c.paint.ensures (labelled_new c.requires.0 c.visit_from-size.ensures _ _ c.if-visited-node.false)
