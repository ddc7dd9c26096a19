-- `clearing::clear_missing` meets its contract: checks 11 and 1 to 5 decide, and leave the table of ids for the work.
-- Assumes nothing.
use Prim.Native.Nat.{◌*◌, ◌/◌, ◌≤◌}
use Rattle.std.specs.Prelude.{Ok, Err}
use borrow.Author.Rules.{rules}
use mathlib.Core.Path.{◌≡◌, refl, sym, ap, ◌∙◌}
use mir.Facts.{to_z-of_z}
use native.Mathlib.Omega.{arith}
use lib.ListN.{length}
use lib.Seq.{length-take-le}
use Rattle.lists.specs.Limits.{connection_limit, port_width}
use Rattle.lists.specs.Records.{component_count, port_count}
use Rattle.lists.specs.Ranges.{first_out_of_range, port_low, port_high}
use Rattle.lists.specs.Within.{PortConnections}
use Rattle.lists.proofs.Fields.{within}
use Rattle.lists.proofs.Search.{both}
use borrow.Author.Tests.{leb-true}
use Rattle.lists.specs.Rules.{rules_of}
use Rattle.checks.specs.Refusals.{room_for, scene_lists}
use Rattle.checks.proofs.Accepts.{Scene, scene_accept}
use Rattle.clearing.specs.Parts.{dropped_width}
use Rattle.clearing.specs.Entry.{clearing_room, clear_refusal}
use Rattle.clearing.proofs.Numbers.{scene_only}
use Rattle.clearing.proofs.Promises.{cleared_scene, front_is}
use Rattle.clearing.proofs.clear_missing.Goals as goal
use Rattle.clearing.proofs.clear_missing.Goals.{After-refuse_scene}

-- ---- the answer of the checks, by the definitions
module _ (c : After-refuse_scene) where
  parts : c.refuse_scene.result
      ≡ scene_lists (rules_of c.args.rules) c.args.components.now port_width (length c.args.ports.now) (first_out_of_range port_low port_high c.args.ports.now) c.args.frontiers.now
      (clearing_room c.args.ports.now (length c.args.kept.now) (length c.args.dropped.now))
  parts =
      let known = c.rules_of-rules.ensures ∙ ap rules_of (to_z-of_z c.ranges.rules) in
      rw (known, c.first_outside-found.ensures, c.room_for.ensures, c.room_for-2.ensures) at c.refuse_scene.ensures.answer

  says : c.refuse_scene.result
      ≡ clear_refusal (rules_of c.args.rules) c.args.components.now c.args.ports.now c.args.frontiers.now (length c.args.kept.now) (length c.args.dropped.now)
  says = parts ∙ sym (scene_only (rules_of c.args.rules) c.args.components.now c.args.ports.now c.args.frontiers.now _)

  -- where they accept
  module _ (was : c.refuse_scene.result ≡ Ok tt) where
    scene : Scene (rules_of c.args.rules) c.args.components.now port_width (length c.args.ports.now) (first_out_of_range port_low port_high c.args.ports.now) c.args.frontiers.now
        (clearing_room c.args.ports.now (length c.args.kept.now) (length c.args.dropped.now))
    scene = scene_accept _ _ _ _ _ _ _ (sym parts ∙ was)

    long : component_count c.args.components.now ≤ length c.refuse_scene.new.keys
    long = omega (arith, scene.lengths.components_few, c.refuse_scene.auto.keys)

    -- both lists have a place per port connection
    room : (port_count c.args.ports.now * port_width ≤ length c.args.kept.now) × (port_count c.args.ports.now * dropped_width ≤ length c.args.dropped.now)
    room =
        let n = port_count c.args.ports.now in
        let kept = length c.args.kept.now in
        let dropped = length c.args.dropped.now in
        let tests = both (room_for n port_width kept) (room_for n dropped_width dropped) scene.lengths.room in
        (omega (arith, leb-true n (kept / port_width) tests.0), omega (arith, leb-true n (dropped / dropped_width) tests.1))

    ports : PortConnections c.args.ports.now
    ports = within connection_limit port_low port_high c.args.ports.now scene.lengths.connections_few scene.ranges.connections

pub returns-in_err-refuse_scene : goal.returns-in_err-refuse_scene
returns-in_err-refuse_scene c =
    let e = sym (says (goal.at.returns-in_err-refuse_scene c).After-refuse_scene) ∙ c.in_err-refuse_scene.was in
    let back : c.from_residual.result ≡ Err c.in_err-refuse_scene.field-0.0 = search rules in
    rw back (record { by = rw e record { answer = refl; counts = tt; kept_left = refl; dropped_left = refl }; promise = tt })

pub slice_bounds-keys-end : goal.slice_bounds-keys-end
slice_bounds-keys-end c = long (goal.at.slice_bounds-keys-end c).After-refuse_scene c.in_ok-refuse_scene.was

pub slice_bounds-part-end : goal.slice_bounds-part-end
slice_bounds-part-end c =
    sym (length-take-le _ c.refuse_scene.new.keys (long (goal.at.slice_bounds-part-end c).After-refuse_scene c.in_ok-refuse_scene.was))

pub invariant_of-listed : goal.invariant_of-listed
invariant_of-listed c = record { within = ports (goal.at.invariant_of-listed c).After-refuse_scene c.in_ok-refuse_scene.was }

pub part-requires-clause-kept_room : goal.part-requires-clause-kept_room
part-requires-clause-kept_room c = (room (goal.at.part-requires-clause-kept_room c).After-refuse_scene c.in_ok-refuse_scene.was).0

pub part-requires-clause-dropped_room : goal.part-requires-clause-dropped_room
part-requires-clause-dropped_room c = (room (goal.at.part-requires-clause-dropped_room c).After-refuse_scene c.in_ok-refuse_scene.was).1

pub returns : goal.returns
returns c =
    let s = scene (goal.at.returns c).After-refuse_scene c.in_ok-refuse_scene.was in
    let e = sym (says (goal.at.returns c).After-refuse_scene) ∙ c.in_ok-refuse_scene.was in
    let parted = c.part.ensures c.args.components.now (c.refuse_scene.ensures.table c.in_ok-refuse_scene.was) in
    record {
      by = rw e record { answer = refl; counts = parted.counts; kept_left = parted.kept_left; dropped_left = parted.dropped_left };
      promise = rw (front_is c.args.components.now c.args.ports.now _ _ _ parted.kept_left parted.counts.kept_count) (cleared_scene _ _ _ _ _ s);
    }
