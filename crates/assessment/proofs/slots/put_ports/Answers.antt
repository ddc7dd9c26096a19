-- Answers for the goals that the search leaves.
use mathlib.Core.Path.{◌≡◌, ap, ◌∙◌}
use Prim.Native.Nat.{◌+◌}
use native.Mathlib.Omega.{arith}
use Rattle.assessment.specs.Rows.{first_required, required_count}
use Rattle.assessment.proofs.Devices.{ports_none, ports_more}
use Rattle.assessment.proofs.slots.put_ports.Goals as goal

pub loop-port-init : goal.loop-port-init
loop-port-init c =
    let ports = c.required_ports-port-items.ensures.range in
    let given = c.into_iter-port-iterator.ensures.into_iter_gives in
    let start : c.into_iter-port-iterator.result.start ≡ first_required c.args.kind = ap (λ r. r.start) given ∙ ports.0 in
    let end : c.into_iter-port-iterator.result.end ≡ first_required c.args.kind + required_count c.args.rules c.args.kind c.args.facing = ap (λ r. r.end) given ∙ ports.1 in
    ((omega (arith, start), (omega (arith, start, end), end)), ports_none _ _ _ _ _ (omega (arith, start)))

pub loop-port-preserved : goal.loop-port-preserved
loop-port-preserved c =
    let (end, (more, here, next)) = c.in-Some.ensures.steps in
    let (within, put) = c.loop-port.invariant in (
      (omega (arith, within.0, next), (omega (arith, end, more, next), end ∙ within.1.1)),
      ports_more _ _ _ _ _ (omega (arith, c.requires.at_in_bounds)) put (omega (arith, within.0, here)) (omega (arith, within.0, next))
          c.status-status.ensures (rw c.from.ensures at c.put_row-place.ensures) c.put_row-place.auto.out,
    )
