-- `rings::count::count_row` meets its contract: the nodes of the row passed are marked and counted.
-- Assumes nothing.
use Rattle.rings.proofs.Counting.{Passed}
use Rattle.rings.proofs.count.count_row.Given as goal

abbrev pub invariant-loop-neighbour : goal.invariant-loop-neighbour
invariant-loop-neighbour l = Passed l.labels l.row l.b l.initial.seen l.neighbour-index l.seen l.found
