-- `faces::ports::port_count` meets its contract: so many ports were passed.
-- Assumes nothing.
use Prim.Native.Nat.{◌≤◌}
use lib.ListN.{length}
use Rattle.faces.specs.Codes.{ports_in}
use Rattle.faces.proofs.ports.port_count.Given as goal

abbrev pub invariant-loop-i : goal.invariant-loop-i
invariant-loop-i l = l.i ≤ length (ports_in l.ports)
