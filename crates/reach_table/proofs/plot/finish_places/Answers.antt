-- Answers for the goals that the search leaves.
use mathlib.Core.Path.{◌≡◌, sym, subst, ◌∙◌}
use Prim.Native.Nat.{ℕ}
use native.Mathlib.Omega.{arith}
use lib.ListN.{length}
use Rattle.lists.specs.Records.{component_count}
use Rattle.liveness.proofs.Lent.{nodes_are, nodes_few, flags_lent}
use Rattle.graph.specs.Rows.{edges_of, Rows}
use Rattle.reach_table.proofs.Finishing.{order_low, finished}
use Rattle.reach_table.proofs.plot.finish_places.Goals as goal
use Rattle.reach_table.proofs.plot.finish_places.Goals.{After-finish_order}

-- the rows, of as many nodes as there are components
rows : (c : After-finish_order) → let g = c.args.graph in Rows (component_count c.args.plot.now.components.now) (edges_of g.ends.now g.next.now) g.ends.now g.next.now
rows c = let g = c.args.graph in subst (λ (k : ℕ). Rows k (edges_of g.ends.now g.next.now) g.ends.now g.next.now) c.requires.nodes g.rows

-- as many places as components
room : (c : After-finish_order) → length c.finish_order.new.order ≡ component_count c.args.plot.now.components.now
room c = c.finish_order.auto.order ∙ c.requires.places_room

pub slice_bounds-visited-end : goal.slice_bounds-visited-end
slice_bounds-visited-end c = nodes_few c.args.plot.now.accepted

pub slice_bounds-finish_order-end : goal.slice_bounds-finish_order-end
slice_bounds-finish_order-end c = sym (flags_lent c.args.plot.now.accepted)

pub finish_order-requires : goal.finish_order-requires
finish_order-requires c =
    let a = c.args.plot.now.accepted in
    let pre = c.requires in
    let few = a.scene.components.few in
    record {
      nodes = omega (arith, pre.nodes, few);
      visited_length = flags_lent a ∙ nodes_are a ∙ sym pre.nodes;
      order_room = omega (arith, pre.nodes, pre.places_room);
      stack_room = omega (arith, pre.nodes, pre.stack_room);
      stack_zeros = pre.stack_zeros;
    }

pub place_at-requires : goal.place_at-requires
place_at-requires c =
    let a = c.args.plot.now.accepted in
    let s = (goal.at.place_at-requires c).After-finish_order in
    let low = order_low (rows s) c.finish_order.ensures (room s) c.loop-place.place-index (omega (arith, room s, c.loop-place.auto.places)) in
    omega (arith, c.loop-place.invariant.1 c.loop-place.place-index (omega arith), low, nodes_are a)

pub returns : goal.returns
returns c =
    let a = c.args.plot.now.accepted in
    let s = (goal.at.returns c).After-finish_order in
    finished a.scene.distinct (rows s) c.finish_order.ensures (room s) (c.loop-place.auto.places ∙ room s) (omega (arith, room s, c.loop-place.auto.places)) c.loop-place.invariant.0
