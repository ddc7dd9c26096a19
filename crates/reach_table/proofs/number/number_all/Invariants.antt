-- `reach_table::number::number_all` meets its contract. The loop's invariant: the rows of the order that the iterator has given are dealt
-- with. Assumes nothing.
use lib.ListN.{length}
use Rattle.reach_table.proofs.Classes.{Counting}
use Rattle.reach_table.proofs.number.number_all.Given as goal

abbrev pub invariant-loop-a : goal.invariant-loop-a
invariant-loop-a l = Counting (length l.fn.regions) l.fn.square l.fn.order l.numbered l.regions l.count l.a-iterator.iter.rest.now
