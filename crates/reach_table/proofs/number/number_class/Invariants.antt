-- `reach_table::number::number_class` meets its contract. The loop's invariant: the rows of the class before b have its number.
-- Assumes nothing.
use Rattle.reach_table.proofs.Classes.{Classing}
use Rattle.reach_table.proofs.number.number_class.Given as goal

abbrev pub invariant-loop-b : goal.invariant-loop-b
invariant-loop-b l = Classing l.n l.square l.a l.count l.initial.numbered l.initial.regions l.b l.numbered l.regions
