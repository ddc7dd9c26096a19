-- `faces::ports::ports_by_facing` meets its contract: each arm's ports are those of its blocks.
-- Assumes nothing.
use mathlib.Core.Path.{ap, refl, ◌∙◌}
use Prim.Native.Nat.{ℕ}
use native.Mathlib.Omega.{arith}
use borrow.Author.Tests.{ne_eqb}
use Rattle.faces.specs.Ports.{repeater_ports, torch_ports, piston_ports, ports_by_facing}
use Rattle.faces.specs.Rows.{places_of}
use Rattle.faces.proofs.Runs.{no_kind}
use Rattle.faces.proofs.Blocks.{repeater_block, lever_block, solid_block}
use Rattle.faces.proofs.ports.ports_by_facing.Goals as goal

pub returns-in-RedstoneWire : goal.returns-in-RedstoneWire
unfolding ports_by_facing
returns-in-RedstoneWire c = rw (← c.in-Ok.ensures, c.in-RedstoneWire.is) c.wire_ports.ensures

pub returns-in-RedstoneTorch : goal.returns-in-RedstoneTorch
unfolding ports_by_facing
returns-in-RedstoneTorch c =
    rw (← c.in-Ok.ensures, c.in-RedstoneTorch.is) (c.torch_ports.ensures ∙ ap (λ (f : ℕ). places_of (torch_ports f)) c.unless-in-RedstoneTorch.ensures)

pub returns-in-Piston : goal.returns-in-Piston
unfolding ports_by_facing
returns-in-Piston c =
    rw (← c.in-Ok.ensures, c.in-Piston.is) (c.piston_ports.ensures ∙ ap (λ (f : ℕ). places_of (piston_ports f)) c.unless-in-Piston.ensures)

pub returns-in-Air : goal.returns-in-Air
unfolding ports_by_facing
returns-in-Air c = rw (← c.in-Ok.ensures, c.in-Air.is) refl

pub returns-in-Repeater : goal.returns-in-Repeater
returns-in-Repeater c =
    let a = c.args in
    rw (← c.in-Ok.ensures, repeater_block a.facing a.support a.conducts c.in-Ok.block c.in-Repeater.is)
    (c.repeater_ports.ensures ∙ ap (λ (f : ℕ). places_of (repeater_ports f)) c.unless.ensures)

pub returns-in-Lever : goal.returns-in-Lever
returns-in-Lever c =
    let a = c.args in
    rw (← c.in-Ok.ensures, lever_block a.facing a.support a.conducts c.in-Ok.block c.in-Lever.is) c.lever_ports.ensures

pub returns-then-conducts-eq1 : goal.returns-then-conducts-eq1
returns-then-conducts-eq1 c =
    let a = c.args in
    rw (← c.in-Ok.ensures, solid_block a.facing a.support a.conducts c.in-Ok.block c.in-Solid.is, c.if-conducts-eq1.true) c.solid_ports.ensures

pub returns-else-conducts-eq1 : goal.returns-else-conducts-eq1
returns-else-conducts-eq1 c =
    let a = c.args in
    rw (← c.in-Ok.ensures, solid_block a.facing a.support a.conducts c.in-Ok.block c.in-Solid.is, ne_eqb _ 1 c.if-conducts-eq1.false) refl

pub returns-in_default : goal.returns-in_default
returns-in_default c = let a = c.args in rw (no_kind a.kind a.facing a.support a.conducts (omega (arith, c.in_default.ensures.1))) refl
