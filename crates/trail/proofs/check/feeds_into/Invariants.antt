-- `trail::check::feeds_into` meets its contract. The loop's invariant: no connection passed feeds the port.
-- Assumes nothing.
use Prim.Native.Nat.{ℕ, ◌<◌}
use mathlib.Core.Path.{◌≡◌}
use mathlib.Core.Bool.{false, ◌&&◌}
use lib.Dec.{eqb}
use Rattle.lists.specs.Records.{port_connection}
use Rattle.trail.specs.Port.{carries}
use Rattle.trail.proofs.check.feeds_into.Given as goal

abbrev pub invariant-loop-k : goal.invariant-loop-k
invariant-loop-k l =
    (j : ℕ) → j < l.k → (carries l.ports.numbers.now l.a l.id j && eqb (port_connection l.ports.numbers.now j).sink_port_of l.port) ≡ false
