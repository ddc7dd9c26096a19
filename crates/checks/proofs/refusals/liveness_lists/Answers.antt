-- `checks::refusals::liveness_lists` meets its contract: the table of ids that the checks left serves the ends of the port connections.
-- Assumes nothing.
use Rattle.std.specs.Prelude.{Err, Some}
use Rattle.std.proofs.Common.{rules}
use Rattle.lists.specs.declared.Fault.{Fault}
use Rattle.lists.specs.declared.Section.{Section}
use mathlib.Core.Path.{◌≡◌, sym, ap, ◌∙◌}
use native.Mathlib.Omega.{arith}
use Prim.Native.Nat.{◌≤◌}
use lib.ListN.{length, take}
use lib.Seq.{length-take-le}
use Rattle.lists.specs.Limits.{connection_limit, port_width}
use Rattle.lists.specs.Records.{component_count}
use Rattle.lists.specs.Ranges.{first_out_of_range, port_low, port_high}
use Rattle.lists.specs.Within.{PortConnections}
use Rattle.checks.specs.Refusals.{refuse, scene_lists}
use Rattle.checks.proofs.Chain.{stopped, goes, refused_not}
use Rattle.lists.proofs.Fields.{within}
use Rattle.checks.proofs.Accepts.{Scene, scene_accept, liveness_parts}
use Rattle.checks.proofs.refusals.liveness_lists.Goals as goal
use Rattle.checks.proofs.refusals.liveness_lists.Goals.{In_ok-refuse_scene}

first : (c : In_ok-refuse_scene)
    → c.refuse_scene.result
    ≡ scene_lists c.args.rules c.args.components.now port_width (length c.args.ports.now) (first_out_of_range port_low port_high c.args.ports.now) c.args.frontiers.now c.args.enough
first c = rw c.first_outside-found.ensures at c.refuse_scene.ensures.answer

-- where they pass
passed : (c : In_ok-refuse_scene)
    → Scene c.args.rules c.args.components.now port_width (length c.args.ports.now) (first_out_of_range port_low port_high c.args.ports.now) c.args.frontiers.now c.args.enough
passed c = scene_accept _ _ _ _ _ _ _ (sym (first c) ∙ c.in_ok-refuse_scene.was)

-- the keys kept their length
room : (c : In_ok-refuse_scene) → component_count c.args.components.now ≤ length c.refuse_scene.new.keys
room c = omega (arith, (passed c).lengths.components_few, c.refuse_scene.auto.keys, c.requires.0)

lent : (c : In_ok-refuse_scene) → let n = component_count c.args.components.now in length (take n c.refuse_scene.new.keys) ≡ n
lent c = length-take-le _ c.refuse_scene.new.keys (room c)

connections : (c : In_ok-refuse_scene) → PortConnections c.args.ports.now
connections c = let p = passed c in within connection_limit port_low port_high c.args.ports.now p.lengths.connections_few p.ranges.connections

pub returns-in_err-refuse_scene : goal.returns-in_err-refuse_scene
returns-in_err-refuse_scene c =
    let a = c.args in
    let back : c.from_residual.result ≡ Err c.in_err-refuse_scene.field-0.0 = search rules in
    let parts = liveness_parts a.rules a.components.now a.ports.now a.frontiers.now a.enough in
    record {
      lists = stopped _ _ (rw c.first_outside-found.ensures at c.in_err-refuse_scene.ensures) back parts;
      ends = λ e. absurd (refused_not (sym back ∙ e));
    }

pub invariant_of-accepted : goal.invariant_of-accepted
invariant_of-accepted c = record { within = connections (goal.at.invariant_of-accepted c).In_ok-refuse_scene }

pub settle_ends-requires : goal.settle_ends-requires
settle_ends-requires c =
    let all = connections (goal.at.settle_ends-requires c).In_ok-refuse_scene in
    omega (arith, all.few, c.requires.1)

pub first_end_missing-requires : goal.first_end_missing-requires
first_end_missing-requires c =
    let all = connections (goal.at.first_end_missing-requires c).In_ok-refuse_scene in
    omega (arith, all.few, c.requires.1, c.settle_ends.auto.ends)

pub returns : goal.returns
returns c =
    let a = c.args in
    let table = c.refuse_scene.ensures.table c.in_ok-refuse_scene.was in
    let ends = c.settle_ends.ensures a.components.now table in
    let last = c.refuse_at.ensures ∙ ap (refuse Fault.MissingEnd (Some Section.Connections)) (c.first_end_missing.ensures a.components.now table ends) in
    record {
      lists = record {
        answer =
            goes (first (goal.at.returns c).In_ok-refuse_scene) c.in_ok-refuse_scene.was last
            ∙ liveness_parts a.rules a.components.now a.ports.now a.frontiers.now a.enough;
        table = λ e. table;
        places = λ e. c.refuse_scene.ensures.places c.in_ok-refuse_scene.was;
      };
      ends = λ e. ends;
    }

pub slice_bounds-settle_ends-end : goal.slice_bounds-settle_ends-end
slice_bounds-settle_ends-end c = room (goal.at.slice_bounds-settle_ends-end c).In_ok-refuse_scene

pub slice_bounds-settle_ends-end-2 : goal.slice_bounds-settle_ends-end-2
slice_bounds-settle_ends-end-2 c = sym (lent (goal.at.slice_bounds-settle_ends-end-2 c).In_ok-refuse_scene)

pub slice_bounds-first_end_missing-end : goal.slice_bounds-first_end_missing-end
slice_bounds-first_end_missing-end c = room (goal.at.slice_bounds-first_end_missing-end c).In_ok-refuse_scene

pub slice_bounds-first_end_missing-end-2 : goal.slice_bounds-first_end_missing-end-2
slice_bounds-first_end_missing-end-2 c = sym (lent (goal.at.slice_bounds-first_end_missing-end-2 c).In_ok-refuse_scene)
