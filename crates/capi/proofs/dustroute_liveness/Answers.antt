-- `capi::dustroute_liveness` meets its contract: number 1 by bytes, and then the liveness of the lists that were read. Assumes nothing.
use mathlib.Core.Path.{sym, ap, ◌∙◌}
use mir.Facts.{to_z-of_z}
use Rattle.lists.specs.Rules.{rules_of}
use Rattle.checks.specs.Refusals.{Small}
use Rattle.capi.specs.Liveness.{liveness_whole}
use Rattle.capi.proofs.LivenessLaws.{three_fit, part_alive}
use Rattle.capi.proofs.Demands.{by_bytes}
use Rattle.capi.proofs.dustroute_liveness.Goals as goal

pub pack_refusal-requires : goal.pack_refusal-requires
pack_refusal-requires c =
    let args = c.args in
    let small : Small (liveness_whole c.rules_of-rules.result args.components.now args.ports.now args.frontiers.now) = three_fit c.rules_of-rules.result args.components.now args.ports.now args.frontiers.now in
    rw (sym c.whole_scene.ensures ∙ c.in-Err.is) at small

pub returns-in-Err : goal.returns-in-Err
returns-in-Err c =
    let a = c.args in
    let refused = part_alive c.rules_of-rules.result a.components.now a.ports.now a.frontiers.now a.regions.now a.sources.now a.inputs.now a.sets.now a.stack.now
    c.in-Err.refusal _ (sym c.whole_scene.ensures ∙ c.in-Err.is) c.pack_refusal.ensures in
    let known = c.rules_of-rules.ensures ∙ ap rules_of (to_z-of_z c.ranges.rules) in
    rw known at (by_bytes _ _ _ _ _ _ _ _ _ _ _ _ _ _ _ refused)

pub returns-in-Ok : goal.returns-in-Ok
returns-in-Ok c =
    let a = c.args in
    let known = c.rules_of-rules.ensures ∙ ap rules_of (to_z-of_z c.ranges.rules) in
    rw known at (by_bytes c.rules_of-rules.result a.components.now a.ports.now a.frontiers.now _ _ _ _ _ _ _ _ _ _ _ c.of_bytes.ensures)
