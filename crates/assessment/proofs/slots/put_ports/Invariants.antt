-- `assessment::slots::put_ports` meets its contract: at a port the rows of those before it stand.
-- Assumes nothing.
use mathlib.Core.Path.{◌≡◌}
use Prim.Native.Nat.{◌+◌, ◌-◌, ◌≤◌}
use Rattle.assessment.specs.Places.{slot_of, status_at}
use Rattle.assessment.specs.Rows.{first_required, required_count}
use Rattle.assessment.proofs.Devices.{PortsPut}
use Rattle.assessment.proofs.slots.put_ports.Given as goal

abbrev pub invariant-loop-port : goal.invariant-loop-port
invariant-loop-port l =
    let first = first_required l.kind in
    let ports = l.port-iterator in
    ((first ≤ ports.start) × ((ports.start ≤ ports.end) × (ports.end ≡ first + required_count l.rules l.kind l.facing)))
    × PortsPut l.id first (λ port. status_at l.slots (slot_of l.member port)) l.at l.initial.out l.out l.place (ports.start - first)
