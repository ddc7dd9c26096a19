-- `trail::check::feeds_next` meets its contract. The loop's invariant: no connection passed carries a signal from the one to the other.
-- Assumes nothing.
use Prim.Native.Nat.{ℕ, ◌<◌}
use mathlib.Core.Path.{◌≡◌}
use mathlib.Core.Bool.{false}
use Rattle.trail.specs.Port.{carries}
use Rattle.trail.proofs.check.feeds_next.Given as goal

abbrev pub invariant-loop-k : goal.invariant-loop-k
invariant-loop-k l = (j : ℕ) → j < l.k → carries l.ports.numbers.now l.a l.b j ≡ false
