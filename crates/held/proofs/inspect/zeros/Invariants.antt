-- `held::inspect::zeros` meets its contract: what was found and what is left decide.
-- Assumes nothing.
use Rattle.std.specs.Prelude.{◌≡◌, ◌+◌, ◌-◌, ◌&&◌, take, drop}
use Rattle.held.specs.Tests.{every}
use Rattle.held.specs.Lent.{is_zero}
use Rattle.held.proofs.inspect.zeros.Given as goal

abbrev pub invariant-loop-f : goal.invariant-loop-f
invariant-loop-f l = (l.all && every is_zero (take (l.n - l.f) (drop (l.from + l.f) l.list))) ≡ every is_zero (take l.n (drop l.from l.list))
