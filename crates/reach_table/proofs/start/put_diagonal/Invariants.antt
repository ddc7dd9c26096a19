-- `reach_table::start::put_diagonal` meets its contract. The loop's invariant: the diagonal of the rows before a is set.
-- Assumes nothing.
use Rattle.reach_table.specs.Square.{Makes}
use Rattle.reach_table.proofs.Starting.{diagonal_to}
use Rattle.reach_table.proofs.start.put_diagonal.Given as goal

abbrev pub invariant-loop-a : goal.invariant-loop-a
invariant-loop-a l = Makes l.n (diagonal_to l.a) l.initial.square l.square
