-- `held::connections::neighbours_differ` meets its contract: no key below place k is the same as the next.
-- Assumes nothing.
use Rattle.held.proofs.Loops.{DifferBelow}
use Rattle.held.proofs.connections.neighbours_differ.Given as goal

abbrev pub invariant-loop-k : goal.invariant-loop-k
invariant-loop-k l = DifferBelow l.keys l.k
