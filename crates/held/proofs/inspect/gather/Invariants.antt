-- `held::inspect::gather` meets its contract: the blocks of the places below k are gathered.
-- Assumes nothing.
use Rattle.held.specs.Inspected.{Gathered}
use Rattle.held.proofs.inspect.gather.Given as goal

abbrev pub invariant-loop-k : goal.invariant-loop-k
invariant-loop-k l = Gathered l.places l.marks l.k l.out l.count
