-- `assessment::slots::slot_at` meets its contract: the transfer tells a support from a signal.
-- Assumes nothing.
use Rattle.std.specs.Prelude.{Some}
use mathlib.Core.Path.{◌≡◌, sym, ap}
use mathlib.Core.Bool.{true}
use Prim.Native.Nat.{ℕ, ◌≤◌, ◌<◌}
use native.Mathlib.Omega.{arith}
use borrow.Author.Tests.{lt-ltb, le-ltb}
use Rattle.lists.specs.Records.{port_connection}
use Rattle.signals.specs.Signals.{is_signal}
use Rattle.assessment.specs.Places.{slot_of, slot_at, slot_number}
use Rattle.signals.proofs.Stores.{is_support, is_signal_lem}
use Rattle.assessment.proofs.slots.slot_at.Goals as goal
use Rattle.assessment.proofs.slots.slot_at.Goals.{Else-transfer-eq-SUPPORT, Start}

pub returns-then-transfer-eq-SUPPORT-clause-slot : goal.returns-then-transfer-eq-SUPPORT-clause-slot
unfolding slot_at
returns-then-transfer-eq-SUPPORT-clause-slot c =
    let a = c.args in
    rw (is_support a.ports.numbers.now a.k _ c.transfer.ensures c.if-transfer-eq-SUPPORT.true)

signal : (c : Else-transfer-eq-SUPPORT) → is_signal c.args.ports.numbers.now c.args.k ≡ true
signal c = is_signal_lem c.args.ports.numbers.now c.args.k _ c.transfer.ensures c.if-transfer-eq-SUPPORT.false

pub returns-then-port-ge-PLACES-clause-slot : goal.returns-then-port-ge-PLACES-clause-slot
unfolding slot_at
returns-then-port-ge-PLACES-clause-slot c =
    let a = c.args in
    let past : 8 ≤ (port_connection a.ports.numbers.now a.k).sink_port_of = omega (arith, c.sink_port-port.ensures.0, c.if-port-ge-PLACES.true) in
    rw (signal (goal.at.returns-then-port-ge-PLACES-clause-slot c).Else-transfer-eq-SUPPORT, le-ltb (port_connection a.ports.numbers.now a.k).sink_port_of 8 past)

pub returns-clause-slot : goal.returns-clause-slot
unfolding slot_at
returns-clause-slot c =
    let read = c.sink_port-port.ensures.0 in
    let here : (port_connection c.args.ports.numbers.now c.args.k).sink_port_of < 8 = omega (arith, read, c.if-port-ge-PLACES.false) in
    rw (signal (goal.at.returns-clause-slot c).Else-transfer-eq-SUPPORT, lt-ltb (port_connection c.args.ports.numbers.now c.args.k).sink_port_of 8 here)
    (ap (λ (port : ℕ). Some (slot_of c.args.sink port)) read)

pub returns-clause-below : goal.returns-clause-below
returns-clause-below c j e =
    let is : j ≡ slot_of c.args.sink c.sink_port-port.result = ap slot_number (sym e) in
    omega (arith, is, c.requires.sink_lt_component_limit (signal (goal.at.returns-clause-below c).Else-transfer-eq-SUPPORT), c.if-port-ge-PLACES.false)
