-- `clearing::part` meets its contract: at item k the rows of the items before it stand at the front of both lists.
-- Assumes nothing.
use Rattle.clearing.proofs.Writes.{Parted}
use Rattle.clearing.proofs.part.Given as goal

abbrev pub invariant-loop-k : goal.invariant-loop-k
invariant-loop-k l = Parted l.keys l.ports.numbers.now l.initial.kept l.kept l.initial.dropped l.dropped l.kept_end l.dropped_end l.k
