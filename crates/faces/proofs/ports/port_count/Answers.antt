-- Answers for the goals that the search leaves.
use mathlib.Core.Path.{◌≡◌, ap}
use native.Mathlib.Omega.{arith}
use lib.ListN.{length}
use Rattle.std.proofs.Common.{rules}
use Rattle.faces.specs.Codes.{ports_in}
use Rattle.faces.specs.Ports.{ports_for}
use Rattle.faces.proofs.Places.{at_place, past_ports, ports_long, ports_back}
use Rattle.faces.proofs.ports.port_count.Goals as goal
use Rattle.faces.proofs.ports.port_count.Goals.{After-ports_for-ports}

-- the places have the ports of the definition
all : (c : After-ports_for-ports) → length (ports_in c.ports_for-ports.result) ≡ length (ports_for c.args.rules c.args.kind c.args.facing c.args.support c.args.conducts)
all c = ap length (ports_back c.ports_for-ports.result (ports_for c.args.rules c.args.kind c.args.facing c.args.support c.args.conducts) c.ports_for-ports.ensures)

pub returns-in_default : goal.returns-in_default
returns-in_default c =
    let past = past_ports c.ports_for-ports.result c.loop-i.i c.loop-i.invariant c.in_default.not-Some in
    omega (arith, past, c.loop-i.invariant, all (goal.at.returns-in_default c).After-ports_for-ports)

pub loop-i-preserved : goal.loop-i-preserved
loop-i-preserved c = omega (arith, (at_place c.ports_for-ports.result c.loop-i.i _ c.loop-i.invariant c.in-Some.is).0)

pub returns : goal.returns
returns c =
    let long : length c.ports_for-ports.result ≡ 7 = search rules in
    omega (arith, long, ports_long c.ports_for-ports.result, c.loop-i.invariant, c.loop-i-test.false, all (goal.at.returns c).After-ports_for-ports)
