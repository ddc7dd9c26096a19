-- `capi::alive::of_numbers` meets its contract: the checks refuse, or the scene is analyzed. Assumes nothing.
use Rattle.std.specs.Prelude.{⊤, Result, Ok}
use mathlib.Core.Path.{◌≡◌, sym, subst, ◌∙◌}
use mathlib.Core.Bool.{◌&&◌}
use Prim.Native.Nat.{◌*◌, ◌/◌}
use native.Mathlib.Omega.{arith}
use borrow.Author.Tests.{leb-true}
use lib.ListN.{length}
use lib.Seq.{length-take-le}
use Rattle.lists.specs.Records.{component_count}
use Rattle.lists.specs.declared.Refusal.{Refusal}
use Rattle.lists.proofs.Search.{both}
use Rattle.sets.specs.Members.{word_count}
use Rattle.checks.specs.Refusals.{Small, room_for, liveness_room}
use Rattle.checks.proofs.Small.{liveness_small}
use Rattle.checks.proofs.Accepted.{LivenessScene, liveness_accept}
use Rattle.liveness.proofs.Answers.{scene_of_lem}
use Rattle.encoding.specs.Bytes.{number_bytes}
use Rattle.capi.specs.Liveness.{set_count, liveness_places}
use Rattle.capi.proofs.LivenessLaws.{alive_as, refused_alive}
use Rattle.capi.proofs.alive.of_numbers.Goals as goal
use Rattle.capi.proofs.alive.of_numbers.Goals.{After-liveness_lists-checked}

-- the answer of the checks, by the definition
says : (c : After-liveness_lists-checked) → let l = c.args.lists.now in c.liveness_lists-checked.result
    ≡ liveness_places l.rules l.components.now l.ports.now l.frontiers.now
    (length c.args.regions.now) (length c.args.sources.now) (length c.args.inputs.now) (length c.args.sets.now) (length c.args.stack.now)
says c = rw (c.room_for.ensures, c.room_for_rows.ensures) at c.liveness_lists-checked.ensures.lists.answer

pub pack_refusal-requires : goal.pack_refusal-requires
pack_refusal-requires c =
    let l = c.args.lists.now in
    let now = (goal.at.pack_refusal-requires c).After-liveness_lists-checked in
    subst (λ (x : Result ⊤ Refusal). Small x) (sym (says now) ∙ c.in-Err.is) (liveness_small l.rules l.components.now l.ports.now l.frontiers.now _)

-- ---- where they accept
module _ (c : After-liveness_lists-checked) (was : c.liveness_lists-checked.result ≡ Ok tt) where
  live : let l = c.args.lists.now in LivenessScene l.rules l.components.now l.ports.now l.frontiers.now
      (room_for set_count word_count (length c.args.sets.now / number_bytes)
      && liveness_room l.components.now (length c.args.regions.now / number_bytes) (length c.args.sources.now / number_bytes)
      (length c.args.inputs.now / number_bytes) (length c.args.stack.now / number_bytes))
  live = liveness_accept _ _ _ _ _ (sym (says c) ∙ was)

pub slice_bounds-keys-end : goal.slice_bounds-keys-end
slice_bounds-keys-end c =
    let l = live (goal.at.slice_bounds-keys-end c).After-liveness_lists-checked c.in-Ok.is in
    omega (arith, l.components.few, c.liveness_lists-checked.auto.keys)

pub slice_bounds-plot-end : goal.slice_bounds-plot-end
slice_bounds-plot-end c =
    let l = live (goal.at.slice_bounds-plot-end c).After-liveness_lists-checked c.in-Ok.is in
    sym (length-take-le _ c.liveness_lists-checked.new.keys (omega (arith, l.components.few, c.liveness_lists-checked.auto.keys)))

pub invariant_of-plot : goal.invariant_of-plot
invariant_of-plot c =
    let left = c.liveness_lists-checked.ensures in
    let l = live (goal.at.invariant_of-plot c).After-liveness_lists-checked c.in-Ok.is in
    record { accepted = record { scene = scene_of_lem l; table = left.lists.table c.in-Ok.is; ends = left.ends c.in-Ok.is } }

pub of_plot-requires : goal.of_plot-requires
of_plot-requires c =
    let l = live (goal.at.of_plot-requires c).After-liveness_lists-checked c.in-Ok.is in
    let n = component_count c.args.lists.now.components.now in
    let regions = room_for n 1 (length c.args.regions.now / number_bytes) in
    let sources = room_for (n * 2) 2 (length c.args.sources.now / number_bytes) in
    let inputs = room_for (n * 4) 3 (length c.args.inputs.now / number_bytes) in
    let stack = room_for n 2 (length c.args.stack.now / number_bytes) in
    let one = both (room_for set_count word_count (length c.args.sets.now / number_bytes)) (regions && (sources && (inputs && stack))) l.scene.lengths.room in
    let two = both regions (sources && (inputs && stack)) one.1 in
    let three = both sources (inputs && stack) two.1 in
    let four = both inputs stack three.1 in
    record {
      regions_fit = omega (arith, leb-true n (length c.args.regions.now / number_bytes / 1) two.0);
      sources_fit = omega (arith, leb-true (n * 2) (length c.args.sources.now / number_bytes / 2) three.0);
      inputs_fit = omega (arith, leb-true (n * 4) (length c.args.inputs.now / number_bytes / 3) four.0);
      sets_fit = omega (arith, leb-true set_count (length c.args.sets.now / number_bytes / word_count) one.0);
    }

pub returns-in-Err : goal.returns-in-Err
returns-in-Err c =
    let l = c.args.lists.now in
    let now = (goal.at.returns-in-Err c).After-liveness_lists-checked in
    refused_alive _ l.rules l.components.now l.ports.now l.frontiers.now _ _ _ _ _ c.in-Err.refusal _ (sym (says now) ∙ c.in-Err.is) c.pack_refusal.ensures

pub returns-in-Ok : goal.returns-in-Ok
returns-in-Ok c =
    let now = (goal.at.returns-in-Ok c).After-liveness_lists-checked in
    alive_as (sym (sym (says now) ∙ c.in-Ok.is)) c.of_plot.ensures
