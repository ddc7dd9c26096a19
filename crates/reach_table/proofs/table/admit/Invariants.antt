-- `reach_table::table::admit` meets its contract. The loop's invariant: the rows before a have the middle's 1s.
-- Assumes nothing.
use Rattle.reach_table.specs.Square.{Makes}
use Rattle.reach_table.proofs.Filling.{admit_to}
use Rattle.reach_table.proofs.table.admit.Given as goal

abbrev pub invariant-loop-a : goal.invariant-loop-a
invariant-loop-a l = Makes l.n (admit_to l.m l.a) l.initial.square l.square
