-- `reach_table::slow_regions` meets its contract: the checks first, and where they accept the reach table of the plot that they left.
-- Assumes nothing.
use Rattle.std.specs.Prelude.{Ok}
use mathlib.Core.Path.{◌≡◌, sym, ap, ◌∙◌}
use mathlib.Core.Bool.{true, ◌&&◌}
use Prim.Native.Nat.{◌*◌, ◌/◌, ◌≤◌}
use native.Mathlib.Omega.{arith}
use lib.ListN.{length}
use lib.Seq.{length-take-le}
use borrow.Author.Tests.{leb-true}
use mir.Facts.{to_z-of_z}
use Rattle.lists.specs.Records.{component_count}
use Rattle.lists.specs.Rules.{rules_of}
use Rattle.lists.proofs.Search.{both}
use Rattle.checks.specs.Refusals.{room_for}
use Rattle.checks.proofs.Accepted.{liveness_accept, room_places}
use Rattle.liveness.proofs.Answers.{scene_of_lem}
use Rattle.reach_table.specs.Entry.{table_room, table_refusal}
use Rattle.reach_table.proofs.Entries.{tabled_accepted}
use Rattle.reach_table.proofs.slow_regions.Goals as goal
use Rattle.reach_table.proofs.slow_regions.Goals.{In_ok-plot}

-- ---- where the checks accept
module _ (c : In_ok-plot) where
  accepted : table_refusal c.rules_of-rules.result c.args.components.now c.args.ports.now c.args.frontiers.now (length c.args.square.now) (length c.args.regions.now)
      (length c.args.stack.now) ≡ Ok tt
  accepted = sym (rw (c.room_for_square.ensures, c.room_for.ensures, c.room_for-2.ensures) at c.in_ok-plot.ensures.answer)

  enough : table_room c.args.components.now (length c.args.square.now) (length c.args.regions.now) (length c.args.stack.now) ≡ true
  enough = rw (c.room_for_square.ensures, c.room_for.ensures, c.room_for-2.ensures) at c.in_ok-plot.ensures.given.room

  -- room in the slices that are lent
  rooms : (component_count c.args.components.now * component_count c.args.components.now ≤ length c.args.square.now)
      × (component_count c.args.components.now ≤ length c.args.regions.now) × (2 * component_count c.args.components.now ≤ length c.args.stack.now)
  rooms =
      let n = component_count c.args.components.now in
      let regions = room_for n 1 (length c.args.regions.now) in
      let stack = room_for n 2 (length c.args.stack.now) in
      let one = both (room_for (n * n) 1 (length c.args.square.now)) (regions && stack) enough in
      let two = both regions stack one.1 in (
        room_places (n * n) (length c.args.square.now) one.0,
        room_places n (length c.args.regions.now) two.0,
        omega (arith, leb-true n (length c.args.stack.now / 2) two.1),
      )

pub slice_bounds-table_plot-end : goal.slice_bounds-table_plot-end
slice_bounds-table_plot-end c = (rooms (goal.at.slice_bounds-table_plot-end c).In_ok-plot).0

pub slice_bounds-table_plot-end-2 : goal.slice_bounds-table_plot-end-2
slice_bounds-table_plot-end-2 c = sym (length-take-le _ c.args.square.now (rooms (goal.at.slice_bounds-table_plot-end-2 c).In_ok-plot).0)

pub slice_bounds-table_plot-end-3 : goal.slice_bounds-table_plot-end-3
slice_bounds-table_plot-end-3 c = (rooms (goal.at.slice_bounds-table_plot-end-3 c).In_ok-plot).1

pub slice_bounds-table_plot-end-4 : goal.slice_bounds-table_plot-end-4
slice_bounds-table_plot-end-4 c = sym (length-take-le _ c.args.regions.now (rooms (goal.at.slice_bounds-table_plot-end-4 c).In_ok-plot).1)

pub table_plot-requires : goal.table_plot-requires
table_plot-requires c =
    let r = rooms (goal.at.table_plot-requires c).In_ok-plot in
    rw c.in_ok-plot.ensures.given.components_are record {
      square_room = length-take-le _ c.args.square.now r.0;
      regions_room = length-take-le _ c.args.regions.now r.1;
      stack_room = r.2;
    }

pub returns : goal.returns
returns c =
    let now = (goal.at.returns c).In_ok-plot in
    let given = c.in_ok-plot.ensures.given in
    let known = c.rules_of-rules.ensures ∙ ap rules_of (to_z-of_z c.ranges.rules) in
    let scene = scene_of_lem (liveness_accept _ _ _ _ _ (accepted now)) in
    let tables = rw (given.components_are, given.ports_are) at c.table_plot.ensures in
    let left = tabled_accepted c.args.square.now c.args.regions.now c.args.stack.now (accepted now) scene c.table_plot.auto.stack tables in
    rw known at left
