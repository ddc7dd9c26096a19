-- `scene::reasons::reasons` meets its contract: the checks decide, and leave the table of ids for the work.
-- Assumes nothing.
use Rattle.std.specs.Prelude.{Ok}
use mathlib.Core.Path.{◌≡◌, sym, ap, ◌∙◌}
use mir.Facts.{to_z-of_z}
use mathlib.Core.List.{[]}
use Prim.Native.Nat.{◌/◌, ◌≤◌}
use native.Mathlib.Omega.{arith}
use lib.ListN.{length}
use lib.Seq.{length-take-le}
use borrow.Author.Tests.{leb-true}
use Rattle.lists.specs.Records.{component_count, connection_count}
use Rattle.lists.specs.Rules.{rules_of}
use Rattle.checks.specs.Refusals.{grouping_lists}
use Rattle.checks.proofs.Accepted.{GroupingScene, grouping_accept}
use Rattle.scene.proofs.Told.{told_answered}
use Rattle.scene.proofs.reasons.reasons.Goals as goal
use Rattle.scene.proofs.reasons.reasons.Goals.{After-grouping_lists}

-- the answer of the checks, of the rules number without its sign
answer : (c : After-grouping_lists) → c.grouping_lists.result
    ≡ grouping_lists (rules_of c.args.rules) c.args.components.now c.args.connections.now [] c.room_for-enough.result
answer c =
    let known = c.rules_of-rules.ensures ∙ ap rules_of (to_z-of_z c.ranges.rules) in
    c.grouping_lists.ensures.answer ∙ rw known

-- a scene that the checks accept
accepted : (c : After-grouping_lists) → c.grouping_lists.result ≡ Ok tt
    → GroupingScene (rules_of c.args.rules) c.args.components.now c.args.connections.now [] c.room_for-enough.result
accepted c e = grouping_accept _ _ _ _ _ (sym (answer c) ∙ e)

-- has room in the keys for its table of ids
few : (c : After-grouping_lists) → c.grouping_lists.result ≡ Ok tt → component_count c.args.components.now ≤ length c.grouping_lists.new.keys
few c e = omega (arith, (accepted c e).components.few, c.grouping_lists.auto.keys)

pub slice_bounds-keys-end : goal.slice_bounds-keys-end
slice_bounds-keys-end c = few (goal.at.slice_bounds-keys-end c).After-grouping_lists c.in_ok-grouping_lists.was

pub slice_bounds-tell_all-end : goal.slice_bounds-tell_all-end
slice_bounds-tell_all-end c =
    sym (length-take-le _ c.grouping_lists.new.keys (few (goal.at.slice_bounds-tell_all-end c).After-grouping_lists c.in_ok-grouping_lists.was))

pub invariant_of-listed : goal.invariant_of-listed
invariant_of-listed c = record { within = (accepted (goal.at.invariant_of-listed c).After-grouping_lists c.in_ok-grouping_lists.was).components }

pub invariant_of-connected : goal.invariant_of-connected
invariant_of-connected c = record { within = (accepted (goal.at.invariant_of-connected c).After-grouping_lists c.in_ok-grouping_lists.was).connections }

pub tell_all-requires : goal.tell_all-requires
tell_all-requires c =
    let s = accepted (goal.at.tell_all-requires c).After-grouping_lists c.in_ok-grouping_lists.was in
    let room = sym c.room_for-enough.ensures ∙ s.scene.lengths.room in record {
      id_table = c.grouping_lists.ensures.table c.in_ok-grouping_lists.was;
      count_in_bounds = omega (arith, leb-true (connection_count c.args.connections.now) (length c.args.out.now / 1) room);
    }

pub returns : goal.returns
returns c =
    let said = sym (answer (goal.at.returns c).After-grouping_lists) ∙ c.in_ok-grouping_lists.was in
    let known = c.rules_of-rules.ensures ∙ ap rules_of (to_z-of_z c.ranges.rules) in
    told_answered _ _ _ _ _ _ (rw c.room_for-enough.ensures at said) (rw known at c.tell_all.ensures)
