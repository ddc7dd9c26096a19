-- `reach_table::start::put_row` meets its contract. The loop's invariant: the places of the neighbours passed hold 1.
-- Assumes nothing.
use Rattle.lists.specs.Records.{component_count}
use Rattle.reach_table.specs.Square.{Makes}
use Rattle.reach_table.proofs.Starting.{row_to}
use Rattle.reach_table.proofs.start.put_row.Given as goal

abbrev pub invariant-loop-neighbour : goal.invariant-loop-neighbour
invariant-loop-neighbour l =
    let cs = l.fn.plot.components.now in Makes (component_count cs) (row_to cs l.row l.neighbours l.neighbour-index) l.initial.square l.square
