-- Answers for the goals that the search leaves.
use mathlib.Core.Path.{◌≡◌, sym, ap, ◌∙◌}
use Prim.Native.Nat.{◌-◌, ◌<◌, zero-le}
use Rattle.lists.specs.First.{first_from}
use native.Mathlib.Omega.{arith}
use lib.ListN.{length}
use Rattle.lists.proofs.Search.{first_here, first_later, first_none}
use Rattle.faces.specs.Codes.{ports_in}
use Rattle.faces.specs.Select.{select_port}
use Rattle.faces.proofs.Places.{at_place, past_ports, ports_long}
use Rattle.faces.proofs.select.select_port.Invariants.{test}
use Rattle.faces.proofs.select.select_port.Goals as goal
use Rattle.faces.proofs.select.select_port.Goals.{After-port_serves}

pub loop-i-init : goal.loop-i-init
unfolding select_port
loop-i-init c = record { passed = zero-le; left = ap (first_from (test c.args.ports c.args.face c.args.outgoing c.args.kind) 0) (let all : length (ports_in c.args.ports) - 0 ≡ length (ports_in c.args.ports) = omega arith in all) }

pub returns-in_default : goal.returns-in_default
returns-in_default c = sym (first_none _ _ _ (past_ports c.args.ports c.loop-i.i c.loop-i.invariant.passed c.in_default.not-Some)) ∙ c.loop-i.invariant.left

-- what the call says of the port at i
tested : (c : After-port_serves)
    → (c.loop-i.i < length (ports_in c.args.ports)) × (c.port_serves.result ≡ test c.args.ports c.args.face c.args.outgoing c.args.kind c.loop-i.i)
tested c =
    let here = at_place c.args.ports c.loop-i.i c.in-Some.port c.loop-i.invariant.passed c.in-Some.is in
    (here.0, rw here.1 c.port_serves.ensures)

pub returns-then-port_serves : goal.returns-then-port_serves
returns-then-port_serves c =
    let t = tested (goal.at.returns-then-port_serves c).After-port_serves in
    sym (first_here _ _ _ t.0 (sym t.1 ∙ c.if-port_serves.true)) ∙ c.loop-i.invariant.left

pub loop-i-preserved : goal.loop-i-preserved
loop-i-preserved c =
    let t = tested (goal.at.loop-i-preserved c).After-port_serves in
    record { passed = omega (arith, t.0); left = sym (first_later _ _ _ t.0 (sym t.1 ∙ c.if-port_serves.false)) ∙ c.loop-i.invariant.left }

pub returns : goal.returns
returns c = sym (first_none _ _ _ (omega (arith, ports_long c.args.ports))) ∙ c.loop-i.invariant.left
