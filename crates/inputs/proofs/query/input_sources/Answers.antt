-- `inputs::query::input_sources` meets its contract: the tables of the scene are filled in local arrays, then the port's slot is asked.
-- Assumes nothing.
use mathlib.Core.Path.{◌≡◌, refl, sym, ap, ◌∙◌}
use mathlib.Core.Bool.{Bool}
use mathlib.Core.List.{List}
use Prim.Native.Nat.{ℕ, ◌<◌}
use native.Mathlib.Omega.{arith}
use lib.ListN.{length, replicate}
use lib.IntN.{ℤ}
use Rattle.lists.specs.Limits.{component_limit}
use Rattle.lists.specs.Records.{component}
use Rattle.lists.specs.Ids.{smaller_ids, member_of}
use Rattle.liveness.proofs.Lent.{flags_lent, nodes_are, nodes_few}
use Rattle.lists.proofs.Members.{member_below}
use Rattle.regions.proofs.Fill.{zeros_cleared}
use Rattle.signals.specs.Keys.{slot}
use Rattle.inputs.specs.Inputs.{SlotOf, Walkable}
use Rattle.inputs.proofs.query.input_sources.Goals as goal
use Rattle.inputs.proofs.query.input_sources.Goals.{Start}

abbrev cs : Start → List ℤ
cs s = s.args.plot.now.components.now

abbrev nodes : Start → ℕ
nodes s = length s.args.plot.now.keys.now

-- ---- the port by its slot
member_is : (s : Start) {m id : ℕ} → m ≡ smaller_ids (cs s) id → id ≡ (component (cs s) s.args.p).id → m ≡ member_of (cs s) s.args.p
member_is s e d = e ∙ ap (smaller_ids (cs s)) d

member_small : (s : Start) {m : ℕ} → m ≡ member_of (cs s) s.args.p → m < component_limit
member_small s e = omega (arith, member_below (cs s) s.args.p s.requires.p_bound.0, s.args.plot.now.accepted.scene.components.few)

slot_at : (s : Start) {m : ℕ} {fed ends next : List ℕ} {flags : List Bool} → m ≡ member_of (cs s) s.args.p
    → Walkable s.args.plot.now.rules (cs s) s.args.plot.now.ports.now s.args.plot.now.frontiers.now fed ends next flags
    → SlotOf (cs s) s.args.plot.now.ports.now s.args.p s.args.port fed (slot m s.args.port)
slot_at s e w =
    record {
      fed_scene = w.fed_scene;
      place = s.requires.p_bound.0;
      port_small = s.requires.p_bound.1;
      slot_is = ap (λ (m : ℕ). slot m s.args.port) e;
    }

pub row_sources-requires : goal.row_sources-requires
row_sources-requires c =
    let s = (goal.at.row_sources-requires c).Start in
    let a = c.args in
    let w = c.walk_tables-backward in
    let m = member_is s (c.member_of.ensures (cs s) s.args.plot.now.accepted.table) (rw c.component_list.ensures at c.id.ensures.0) in
    record {
      by_index = (a.plot.now.rules, cs s, a.plot.now.ports.now, a.plot.now.frontiers.now, a.p, a.port, (w.ensures.0, slot_at s m w.ensures.0));
      inferred_in_bounds = (
        omega (arith, w.auto.inferred, flags_lent s.args.plot.now.accepted, nodes_are s.args.plot.now.accepted, s.requires.stack_room, w.auto.stack),
        w.ensures.1,
      );
    }

pub returns : goal.returns
returns c =
    let s = (goal.at.returns c).Start in
    let a = c.args in
    let w = c.walk_tables-backward in
    let m = member_is s (c.member_of.ensures (cs s) s.args.plot.now.accepted.table) (rw c.component_list.ensures at c.id.ensures.0) in
    let sources = c.row_sources.ensures a.plot.now.rules (cs s) a.plot.now.ports.now a.plot.now.frontiers.now a.p a.port w.ensures.0 (slot_at s m w.ensures.0) in
    record {
      answer = refl;
      numbers = refl;
      sets = sources.0;
      stack_left = zeros_cleared _ sources.1 ∙ ap (λ (k : ℕ). replicate k 0) (c.row_sources.auto.stack ∙ w.auto.stack);
    }

pub walk_tables-backward-requires-clause-inferred_len : goal.walk_tables-backward-requires-clause-inferred_len
walk_tables-backward-requires-clause-inferred_len c =
    (flags_lent c.args.plot.now.accepted ∙ nodes_are c.args.plot.now.accepted, c.requires.stack_room)

pub slice_bounds-flags-end : goal.slice_bounds-flags-end
slice_bounds-flags-end c = nodes_few c.args.plot.now.accepted

pub slice_bounds-inferred-end : goal.slice_bounds-inferred-end
slice_bounds-inferred-end c = sym (flags_lent c.args.plot.now.accepted)

pub overflow_mul-slot : goal.overflow_mul-slot
overflow_mul-slot c =
    let s = (goal.at.overflow_mul-slot c).Start in
    omega (arith, member_small s (member_is s (c.member_of.ensures (cs s) c.args.plot.now.accepted.table) (rw c.component_list.ensures at c.id.ensures.0)))

pub overflow_add-slot : goal.overflow_add-slot
overflow_add-slot c =
    let s = (goal.at.overflow_add-slot c).Start in
    omega (
      arith,
      member_small s (member_is s (c.member_of.ensures (cs s) c.args.plot.now.accepted.table) (rw c.component_list.ensures at c.id.ensures.0)),
      s.requires.p_bound.1,
    )
