-- `scene::connections::Scene::link_between` meets its contract.
-- Assumes nothing.
use mathlib.Core.Path.{◌≡◌, refl, sym, ap, ◌∙◌}
use mathlib.Core.Bool.{true, false}
use Prim.Native.Nat.{ℕ}
use native.Mathlib.Omega.{arith}
use Rattle.faces.specs.Codes.{face_code, face_number}
use Rattle.faces.specs.Ports.{opposite, ports_of, NoFace}
use Rattle.faces.specs.Step.{step_face}
use Rattle.faces.specs.Select.{select_port}
use Rattle.faces.proofs.Faces.{code_range}
use Rattle.lists.specs.Records.{Component, component}
use Rattle.scene.specs.Kept.{ports_between, both_ports}
use Rattle.scene.proofs.Links.{between_none, between_some, none_supported}
use Rattle.scene.proofs.LeftOut.{support_out, apart_out, nothing_out, nothing_in, none_out}
use Rattle.scene.proofs.connections.Scene.link_between.Goals as goal
use Rattle.scene.proofs.connections.Scene.link_between.Goals.{In-Some}

abbrev source : In-Some → Component
source c = component c.args.self.now.components.numbers.now c.args.a

abbrev sink : In-Some → Component
sink c = component c.args.self.now.components.numbers.now c.args.b

-- the face of the step, which is one
along : (c : In-Some) → face_code c.in-Some.face ≡ step_face (source c) (sink c)
along c = sym (ap face_number c.in-Some.is) ∙ c.step-step.ensures.face

some : (c : In-Some) → face_code c.in-Some.face ≡ NoFace → ⊥
some c n = omega (arith, (code_range c.in-Some.face).0)

-- the ports at the face of the step and at the face opposite to it
between : (c : In-Some) (facing : ℕ) → facing ≡ opposite (face_code c.in-Some.face)
    → ports_between c.args.self.now.rules (source c) (sink c) c.args.kind
    ≡ both_ports (select_port (ports_of c.args.self.now.rules (source c)) (face_code c.in-Some.face) true c.args.kind) (select_port (ports_of c.args.self.now.rules (sink c)) facing false c.args.kind)
between c facing d = between_some c.args.self.now.rules (source c) (sink c) c.args.kind (face_code c.in-Some.face) facing (along c) (some c) d

pub returns-then-kind-eq-SUPPORT_KIND-clause-ports : goal.returns-then-kind-eq-SUPPORT_KIND-clause-ports
returns-then-kind-eq-SUPPORT_KIND-clause-ports c = sym (none_supported _ _ _ _ c.if-kind-eq-SUPPORT_KIND.true)

pub returns-then-kind-eq-SUPPORT_KIND-clause-reason : goal.returns-then-kind-eq-SUPPORT_KIND-clause-reason
returns-then-kind-eq-SUPPORT_KIND-clause-reason c = sym (support_out _ _ _ _ c.if-kind-eq-SUPPORT_KIND.true)

pub returns-in_default-clause-ports : goal.returns-in_default-clause-ports
returns-in_default-clause-ports c =
    sym (between_none _ _ _ _ (sym c.step-step.ensures.face ∙ ap face_number c.in_default.is))

pub returns-in_default-clause-reason : goal.returns-in_default-clause-reason
returns-in_default-clause-reason c =
    sym (apart_out _ _ _ _ c.if-kind-eq-SUPPORT_KIND.false (sym c.step-step.ensures.face ∙ ap face_number c.in_default.is))

pub returns-in_default-port_at-clause-ports : goal.returns-in_default-port_at-clause-ports
returns-in_default-port_at-clause-ports c =
    let at = (goal.at.returns-in_default-port_at-clause-ports c).In-Some in
    rw (between at _ refl, sym c.port_at.ensures ∙ c.in_default-port_at.is)

pub returns-in_default-port_at-clause-reason : goal.returns-in_default-port_at-clause-reason
returns-in_default-port_at-clause-reason c =
    let at = (goal.at.returns-in_default-port_at-clause-reason c).In-Some in
    sym (nothing_out _ (source at) (sink at) _ c.if-kind-eq-SUPPORT_KIND.false _ _ (along at) (some at) refl (sym c.port_at.ensures ∙ c.in_default-port_at.is))

pub returns-in_default-port_at-2-clause-ports : goal.returns-in_default-port_at-2-clause-ports
returns-in_default-port_at-2-clause-ports c =
    let at = (goal.at.returns-in_default-port_at-2-clause-ports c).In-Some in
    rw (between at _ c.opposite.ensures, sym c.port_at.ensures ∙ c.in-Some-port_at.is, sym c.port_at-2.ensures ∙ c.in_default-port_at-2.is)

pub returns-in_default-port_at-2-clause-reason : goal.returns-in_default-port_at-2-clause-reason
returns-in_default-port_at-2-clause-reason c =
    let at = (goal.at.returns-in_default-port_at-2-clause-reason c).In-Some in
    sym (nothing_in _ (source at) (sink at) _ c.if-kind-eq-SUPPORT_KIND.false _ _ (along at) (some at) c.opposite.ensures _ (sym c.port_at.ensures ∙ c.in-Some-port_at.is) (sym c.port_at-2.ensures ∙ c.in_default-port_at-2.is))

pub returns-clause-ports : goal.returns-clause-ports
returns-clause-ports c =
    let at = (goal.at.returns-clause-ports c).In-Some in
    rw (between at _ c.opposite.ensures, sym c.port_at.ensures ∙ c.in-Some-port_at.is, sym c.port_at-2.ensures ∙ c.in-Some-port_at-2.is)

pub returns-clause-reason : goal.returns-clause-reason
returns-clause-reason c =
    let at = (goal.at.returns-clause-reason c).In-Some in
    sym (none_out _ (source at) (sink at) _ c.if-kind-eq-SUPPORT_KIND.false _ _ (along at) (some at) c.opposite.ensures _ _ (sym c.port_at.ensures ∙ c.in-Some-port_at.is) (sym c.port_at-2.ensures ∙ c.in-Some-port_at-2.is))
