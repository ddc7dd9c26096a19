-- `faces::select::select_port` meets its contract: what is left to search has the answer.
-- Assumes nothing.
use mathlib.Core.Path.{◌≡◌}
use mathlib.Core.Bool.{Bool}
use mathlib.Core.List.{List}
use Prim.Native.Nat.{ℕ, ◌-◌, ◌≤◌}
use lib.ListN.{length}
use Rattle.std.specs.Prelude.{Option}
use Rattle.lists.specs.First.{first_from}
use Rattle.faces.specs.Codes.{ports_in}
use Rattle.faces.specs.Select.{serves, port_at, select_port}
use Rattle.faces.specs.declared.ports.Port.{Port}
use Rattle.faces.proofs.select.select_port.Given as goal

-- port k serves
abbrev pub test : List (Option Port) → ℕ → Bool → ℕ → ℕ → Bool
test places face outgoing kind k = serves (port_at (ports_in places) k) face outgoing kind

abbrev pub invariant-loop-i : goal.invariant-loop-i
invariant-loop-i l = record {
  passed : l.i ≤ length (ports_in l.ports);
  left : first_from (test l.ports l.face l.outgoing l.kind) l.i (length (ports_in l.ports) - l.i) ≡ select_port (ports_in l.ports) l.face l.outgoing l.kind;
}
