-- Answers for the goals that the search leaves.
use Rattle.std.specs.Prelude.{Option, Some, None, Err}
use Prim.Native.Nat.{ℕ, ◌≤◌}
use mathlib.Core.Path.{◌≡◌, ap, subst, ◌∙◌}
use native.Mathlib.Omega.{arith}
use lib.ListN.{length}
use lib.Seq.{length-take-le}
use Rattle.lists.specs.Records.{component}
use Rattle.trail.specs.Scene.{FoundWay}
use Rattle.std.specs.Option.{ok_or}
use borrow.Author.Rules.{rules}
use Rattle.trail.proofs.Written.{not_driven, way_members, finding_some, finding_none}
use Rattle.trail.proofs.plot.trail_port.Goals as goal
use Rattle.trail.proofs.plot.trail_port.Goals.{After-member_way}

-- what was found, where a count was
found : (c : After-member_way) {count : ℕ} → c.member_way.result ≡ Some count → (p : ℕ) → (component c.args.plot.now.components.now p).id ≡ c.args.id
    → let l = c.args.plot.now in FoundWay l.components.now l.ports.now l.frontiers.now p c.args.port c.member_way.new.way (Some count)
found c e p is =
    let l = c.args.plot.now in
    subst (λ (f : Option ℕ). FoundWay l.components.now l.ports.now l.frontiers.now p c.args.port c.member_way.new.way f) e (c.member_way.ensures p is)

pub returns-in_err-count : goal.returns-in_err-count
returns-in_err-count c p low is =
    let l = c.args.plot.now in
    let none : c.member_way.result ≡ None = c.in_err-count.ensures.ok_part in
    let back : c.from_residual.result ≡ Err c.in_err-count.field-0.0 = search rules in
    finding_none l.rules l.frontiers.now l.accepted.scene l.accepted.table p c.args.port is c.member_way.new.way
    (subst (λ (f : Option ℕ). FoundWay l.components.now l.ports.now l.frontiers.now p c.args.port c.member_way.new.way f) none (c.member_way.ensures p is))
    (back ∙ c.in_err-count.ensures.value ∙ ap (λ (f : Option ℕ). ok_or f not_driven) none)

pub write_ids-requires : goal.write_ids-requires
write_ids-requires c =
    let l = c.args.plot.now in
    let (p, low, is) = c.requires.1 in
    let some : c.member_way.result ≡ Some c.in_ok-count.count = grind arith in
    let way = found (goal.at.write_ids-requires c).After-member_way some p is in
    let few : c.in_ok-count.count ≤ length c.member_way.new.way = omega (arith, way.0, c.member_way.auto.way, l.accepted.scene.components.few) in (
      way_members l.components.now l.ports.now l.frontiers.now l.accepted.scene _ l.accepted.table way.1,
      omega (arith, way.0, c.requires.0, length-take-le c.in_ok-count.count c.member_way.new.way few),
    )

pub returns : goal.returns
returns c p low is =
    let l = c.args.plot.now in
    let some : c.member_way.result ≡ Some c.in_ok-count.count = grind arith in
    let way = found (goal.at.returns c).After-member_way some p is in
    let few : c.in_ok-count.count ≤ length c.member_way.new.way = omega (arith, way.0, c.member_way.auto.way, l.accepted.scene.components.few) in
    finding_some l.rules l.frontiers.now l.accepted.scene l.accepted.table p c.args.port is c.member_way.new.way way few c.write_ids.ensures
