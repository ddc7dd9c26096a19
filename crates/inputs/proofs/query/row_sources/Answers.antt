-- `inputs::query::row_sources` meets its contract: a slot that no key has has no source; else the flags of its keys are the
-- immediate sources; then upstream of them.
-- Assumes nothing.
use mathlib.Core.Path.{◌≡◌, sym, ap, ◌∙◌}
use mathlib.Core.Bool.{Bool, false}
use mathlib.Core.List.{List, ◌++◌}
use Prim.Native.Nat.{ℕ, ◌≤◌}
use native.Mathlib.Omega.{arith}
use lib.ListN.{length, take, drop, replicate}
use lib.Seq.{length-take-le}
use borrow.Author.Tests.{eqb-true}
use Rattle.lists.specs.Limits.{component_limit}
use Rattle.signals.proofs.Lent.{front, front_long}
use Rattle.inputs.specs.Inputs.{SlotOf, Walkable}
use Rattle.inputs.proofs.Inputs.{slot_small, walk_nodes, slot_asked, none_fed, immediate_set, inferred_set}
use Rattle.inputs.proofs.query.row_sources.Goals as goal
use Rattle.inputs.proofs.query.row_sources.Goals.{Start}

abbrev nodes : Start → ℕ
nodes s = length s.args.inferred.now

-- the scene and its port
abbrev walk : (s : Start)
    → Walkable s.requires.by_index.0 s.requires.by_index.1 s.requires.by_index.2 s.requires.by_index.3 s.args.fed.now s.args.backward.ends.now s.args.backward.next.now s.args.inferred.now
walk s = s.requires.by_index.6.0

abbrev asked : (s : Start)
    → SlotOf s.requires.by_index.1 s.requires.by_index.2 s.requires.by_index.4 s.requires.by_index.5 s.args.fed.now s.args.slot
asked s = s.requires.by_index.6.1

small : (s : Start) → nodes s ≤ component_limit
small s = omega (arith, walk_nodes (walk s), (asked s).fed_scene.scene.components.few)

lent : (s : Start) → length (take (nodes s) (replicate component_limit false)) ≡ nodes s
lent s = length-take-le _ _ (small s)

-- nothing feeds the slot
pub returns-then-is_empty : goal.returns-then-is_empty
returns-then-is_empty c rules cs ps fs p port w q =
    (none_fed w q c.slot_keys-keys.ensures (eqb-true _ 0 (sym c.is_empty.ensures ∙ c.if-is_empty.true)) (c.none.ensures rules cs ps fs port), c.requires.inferred_in_bounds.1)

-- the flags of the nodes, lent from the front of an array
abbrev rest : Start → List Bool
rest s = drop (nodes s) (replicate component_limit false)

long : (s : Start) (flags : List Bool) → length flags ≡ length (take (nodes s) (replicate component_limit false)) → length flags ≡ nodes s
long s flags e = e ∙ lent s

front_is : (s : Start) (flags : List Bool) → length flags ≡ length (take (nodes s) (replicate component_limit false))
    → take (nodes s) (flags ++ rest s) ≡ flags
front_is s flags e = front _ flags (rest s) (long s flags e)

front_length : (s : Start) (flags : List Bool) → length flags ≡ length (take (nodes s) (replicate component_limit false))
    → length (take (nodes s) (flags ++ rest s)) ≡ nodes s
front_length s flags e = ap length (front_is s flags e) ∙ long s flags e

pub of_flags-requires : goal.of_flags-requires
of_flags-requires c =
    let s = (goal.at.of_flags-requires c).Start in
    omega (arith, front_length s c.immediate_flags.new.flags c.immediate_flags.auto.flags, small s)

pub upstream_inputs-requires : goal.upstream_inputs-requires
upstream_inputs-requires c =
    let s = (goal.at.upstream_inputs-requires c).Start in
    record {
      few = small s;
      nodes_are = (walk s).turned.rows.nodes ∙ sym (walk_nodes (walk s));
      immediate_room = front_length s c.immediate_flags.new.flags c.immediate_flags.auto.flags;
      stack_room = c.requires.inferred_in_bounds.0;
      stack_zeros = c.requires.inferred_in_bounds.1;
    }

pub returns : goal.returns
returns c rules cs ps fs p port w q =
    let s = (goal.at.returns c).Start in
    let u = c.upstream_inputs in
    let given = rw (lent s) at c.immediate_flags.ensures c.args.fed.now c.args.slot c.slot_keys-keys.ensures in (
      record {
        immediate_set = immediate_set w q (long s c.immediate_flags.new.flags c.immediate_flags.auto.flags) given
            (front_is s c.immediate_flags.new.flags c.immediate_flags.auto.flags)
            (rw (front_length s c.immediate_flags.new.flags c.immediate_flags.auto.flags) at c.of_flags.ensures);
        inferred_set = inferred_set w q (long s c.immediate_flags.new.flags c.immediate_flags.auto.flags) given
            (front_is s c.immediate_flags.new.flags c.immediate_flags.auto.flags) u.ensures;
      },
      u.ensures.stack_zeros,
    )

pub slot_keys-keys-requires : goal.slot_keys-keys-requires
slot_keys-keys-requires c =
    let s = (goal.at.slot_keys-keys-requires c).Start in
    (slot_asked (asked s) _ (walk_nodes (walk s))).0

pub slice_bounds-immediate-end : goal.slice_bounds-immediate-end
slice_bounds-immediate-end c =
    let s = (goal.at.slice_bounds-immediate-end c).Start in
    small s

pub slice_bounds-immediate_flags-end : goal.slice_bounds-immediate_flags-end
slice_bounds-immediate_flags-end c =
    let s = (goal.at.slice_bounds-immediate_flags-end c).Start in
    sym (lent s)

pub immediate_flags-requires : goal.immediate_flags-requires
immediate_flags-requires c =
    let s = (goal.at.immediate_flags-requires c).Start in
    let q = slot_asked (asked s) _ (lent s ∙ walk_nodes (walk s)) in
    record { flags_in_bounds = slot_small c.slot_keys-keys.ensures q.1.0; flags_len = q.1.1 }

pub slice_bounds-immediate-end-2 : goal.slice_bounds-immediate-end-2
slice_bounds-immediate-end-2 c =
    let s = (goal.at.slice_bounds-immediate-end-2 c).Start in
    front_long _ c.immediate_flags.new.flags (rest s) (long s c.immediate_flags.new.flags c.immediate_flags.auto.flags)

pub slice_bounds-of_flags-end : goal.slice_bounds-of_flags-end
slice_bounds-of_flags-end c =
    let s = (goal.at.slice_bounds-of_flags-end c).Start in
    sym (front_length s c.immediate_flags.new.flags c.immediate_flags.auto.flags)

pub slice_bounds-immediate-end-3 : goal.slice_bounds-immediate-end-3
slice_bounds-immediate-end-3 c =
    let s = (goal.at.slice_bounds-immediate-end-3 c).Start in
    front_long _ c.immediate_flags.new.flags (rest s) (long s c.immediate_flags.new.flags c.immediate_flags.auto.flags)

pub slice_bounds-upstream_inputs-end : goal.slice_bounds-upstream_inputs-end
slice_bounds-upstream_inputs-end c =
    let s = (goal.at.slice_bounds-upstream_inputs-end c).Start in
    sym (front_length s c.immediate_flags.new.flags c.immediate_flags.auto.flags)
