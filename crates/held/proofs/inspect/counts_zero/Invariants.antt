-- `held::inspect::counts_zero` meets its contract: what is left decides.
-- Assumes nothing.
use Rattle.std.specs.Prelude.{◌≡◌, drop, eqb}
use Rattle.held.specs.Tests.{every}
use Rattle.held.proofs.inspect.counts_zero.Given as goal

abbrev pub invariant-loop-k : goal.invariant-loop-k
invariant-loop-k l = every (eqb 0) (drop l.k l.state) ≡ every (eqb 0) (drop l.from l.state)
