-- Answers for the goals that the search leaves.
use mathlib.Core.Path.{◌≡◌, sym, ap, ◌∙◌}
use mathlib.Core.Bool.{true}
use Prim.Native.Nat.{ℕ}
use native.Mathlib.Omega.{arith}
use lib.ListN.{set}
use Rattle.lists.specs.First.{first_from}
use Rattle.held.specs.Writes.{id_in}
use Rattle.std.specs.Prelude.{Option, Err}
use Rattle.held.specs.Plot.{place_of, broken_at}
use Rattle.held.specs.Left.{break, effect_of}
use Rattle.held.specs.Lent.{Lent, layout, plot_in, lent_if, lent_valid, used_in}
use Rattle.held.specs.Lent.{lent_of}
use Rattle.held.proofs.LentLaws.{passes}
use Rattle.held.proofs.BreakLaws.{found_is, state_room, places_room, ids_natural, ends_natural, place_used, freed_room, broken_layout, break_18, break_17, break_0}
use Rattle.held.proofs.clicks.break_block.Goals as goal
use Rattle.held.proofs.clicks.break_block.Goals.{After-is_left, After-find_id}

module _ (c : After-is_left) (was : c.is_left.result ≡ true) where
  abbrev lent : Lent
  lent = lent_of c.args.state.now c.args.frontiers.now c.args.places.now c.args.connections.now

  left : lent_valid lent ≡ true
  left = sym c.is_left.ensures ∙ was

  found : (f : Option ℕ) → f ≡ first_from (id_in lent.state lent.places c.args.id) 0 (used_in lent.state) → (x : Option ℕ) → f ≡ x → place_of (plot_in lent).places c.args.id ≡ x
  found f e x q = found_is lent left c.args.id ∙ (sym e ∙ q)

pub returns-then-not-is_left : goal.returns-then-not-is_left
returns-then-not-is_left c =
    let l = lent_of c.args.state.now c.args.frontiers.now c.args.places.now c.args.connections.now in
    let told = break_18 l c.args.id (sym c.is_left.ensures ∙ c.if-not-is_left.true) in
    record { answer = ap Err c.refusal.ensures ∙ sym told; left = ap (λ r. lent_if r (layout l (effect_of (plot_in l) (break c.args.id))) l) (sym told) }

pub find_id-requires-clause-within : goal.find_id-requires-clause-within
find_id-requires-clause-within c =
    let p = (goal.at.find_id-requires-clause-within c).After-is_left in
    state_room (lent p c.if-not-is_left.false) (left p c.if-not-is_left.false)

pub find_id-requires-clause-natural : goal.find_id-requires-clause-natural
find_id-requires-clause-natural c =
    let p = (goal.at.find_id-requires-clause-natural c).After-is_left in
    (places_room (lent p c.if-not-is_left.false) (left p c.if-not-is_left.false), ids_natural (lent p c.if-not-is_left.false) (left p c.if-not-is_left.false))

pub bounds-state-3 : goal.bounds-state-3
bounds-state-3 c =
    let p = (goal.at.bounds-state-3 c).After-is_left in
    omega (arith, (passes (lent p c.if-not-is_left.false) (left p c.if-not-is_left.false)).room.state_room)

pub free_place-requires-clause-room : goal.free_place-requires-clause-room
free_place-requires-clause-room c =
    let p = (goal.at.free_place-requires-clause-room c).After-is_left in
    let there = found p c.if-not-is_left.false _ c.find_id.ensures _ c.in-Some.is in
    omega (arith, (passes (lent p c.if-not-is_left.false) (left p c.if-not-is_left.false)).room.state_room, freed_room (lent p c.if-not-is_left.false) (left p c.if-not-is_left.false) c.args.id _ there)

pub free_place-requires-clause-within : goal.free_place-requires-clause-within
free_place-requires-clause-within c =
    let p = (goal.at.free_place-requires-clause-within c).After-is_left in
    let there = found p c.if-not-is_left.false _ c.find_id.ensures _ c.in-Some.is in
    omega (arith, (passes (lent p c.if-not-is_left.false) (left p c.if-not-is_left.false)).used_few, (passes (lent p c.if-not-is_left.false) (left p c.if-not-is_left.false)).room.places_room, place_used (lent p c.if-not-is_left.false) (left p c.if-not-is_left.false) c.args.id _ there)

pub drop_connections-requires-clause-within : goal.drop_connections-requires-clause-within
drop_connections-requires-clause-within c =
    let p = (goal.at.drop_connections-requires-clause-within c).After-is_left in
    omega (arith, (passes (lent p c.if-not-is_left.false) (left p c.if-not-is_left.false)).held_few, (passes (lent p c.if-not-is_left.false) (left p c.if-not-is_left.false)).room.connections_room)

pub drop_connections-requires-clause-natural : goal.drop_connections-requires-clause-natural
drop_connections-requires-clause-natural c =
    let p = (goal.at.drop_connections-requires-clause-natural c).After-is_left in
    ends_natural (lent p c.if-not-is_left.false) (left p c.if-not-is_left.false)

pub bounds-state-3-2 : goal.bounds-state-3-2
bounds-state-3-2 c =
    let p = (goal.at.bounds-state-3-2 c).After-is_left in
    omega (arith, (passes (lent p c.if-not-is_left.false) (left p c.if-not-is_left.false)).room.state_room, c.free_place.auto.state)

pub returns : goal.returns
returns c =
    let p = (goal.at.returns c).After-is_left in
    let there = found p c.if-not-is_left.false _ c.find_id.ensures _ c.in-Some.is in
    let l = (lent p c.if-not-is_left.false) in
    let told = break_0 l c.args.id _ (left p c.if-not-is_left.false) there in
    let laid = broken_layout l (left p c.if-not-is_left.false) c.args.id _ there c.drop_connections.new.list c.drop_connections.result c.drop_connections.ensures in
    record {
      answer = sym told;
      left = (λ i. lent_of (set (c.free_place.ensures.state i) 3 c.drop_connections.result) c.args.frontiers.now (c.free_place.ensures.places i) c.drop_connections.new.list)
          ∙ (laid
          ∙ (ap (λ (f : Option ℕ). layout l (broken_at (plot_in l) c.args.id f)) (sym there)
          ∙ ap (λ r. lent_if r (layout l (effect_of (plot_in l) (break c.args.id))) l) (sym told)));
    }

pub returns-in_default : goal.returns-in_default
returns-in_default c =
    let p = (goal.at.returns-in_default c).After-is_left in
    let none = found p c.if-not-is_left.false _ c.find_id.ensures _ c.in_default.is in
    let told = break_17 (lent p c.if-not-is_left.false) c.args.id (left p c.if-not-is_left.false) none in
    record { answer = ap Err c.refusal-in_default.ensures ∙ sym told; left = ap (λ r. lent_if r (layout (lent p c.if-not-is_left.false) (effect_of (plot_in (lent p c.if-not-is_left.false)) (break c.args.id))) (lent p c.if-not-is_left.false)) (sym told) }
