-- Answers for the goals that the search leaves.
use mathlib.Core.Path.{◌≡◌, sym, ap, ◌∙◌}
use mathlib.Core.Bool.{true, false, not}
use Prim.Native.Nat.{◌*◌, ◌≤◌}
use native.Mathlib.Omega.{arith}
use lib.ListN.{length}
use Rattle.std.specs.Prelude.{Err}
use Rattle.held.specs.Lent.{Lent, lent_valid, held_in}
use Rattle.held.specs.Lent.{lent_of}
use Rattle.held.proofs.LentLaws.{passes}
use Rattle.held.proofs.BreakLaws.{port_natural, present_by, state_room, places_room, ids_natural}
use Rattle.held.proofs.ConnectLaws.{numbers_long, held_is, connect_18, connect_3, connect_source, connect_sink, connect_room, connect_held, connect_1}
use Rattle.held.proofs.clicks.refuse_connecting.Goals as goal
use Rattle.held.proofs.clicks.refuse_connecting.Goals.{After-is_left}

module _ (c : After-is_left) (was : c.is_left.result ≡ true) where
  abbrev lent : Lent
  lent = lent_of c.args.state.now c.args.frontiers.now c.args.places.now c.args.connections.now

  left : lent_valid lent ≡ true
  left = sym c.is_left.ensures ∙ was

  -- what the search and the look for the same connection ask
  held_room : held_in lent.state * 5 ≤ length lent.connections
  held_room = omega (arith, (passes lent left).held_few, (passes lent left).room.connections_room)

pub returns-then-not-is_left : goal.returns-then-not-is_left
returns-then-not-is_left c =
    ap Err c.refusal.ensures
    ∙ sym (connect_18 (lent_of c.args.state.now c.args.frontiers.now c.args.places.now c.args.connections.now) c.args.numbers.now (sym c.is_left.ensures ∙ c.if-not-is_left.true))

pub returns-then-not-connection_fits : goal.returns-then-not-connection_fits
returns-then-not-connection_fits c =
    let p = (goal.at.returns-then-not-connection_fits c).After-is_left in
    ap Err c.refusal-then-not-connection_fits.ensures
    ∙ sym (connect_3 (lent p c.if-not-is_left.false) c.args.numbers.now (left p c.if-not-is_left.false) (sym c.connection_fits.ensures ∙ c.if-not-connection_fits.true))

pub natural_at-requires : goal.natural_at-requires
natural_at-requires c =
    let p = (goal.at.natural_at-requires c).After-is_left in
    (omega (arith, numbers_long (lent p c.if-not-is_left.false) c.args.numbers.now (left p c.if-not-is_left.false) (sym c.connection_fits.ensures ∙ c.if-not-connection_fits.false)), (port_natural c.args.numbers.now (sym c.connection_fits.ensures ∙ c.if-not-connection_fits.false)).0)

pub find_id-requires-clause-within : goal.find_id-requires-clause-within
find_id-requires-clause-within c =
    let p = (goal.at.find_id-requires-clause-within c).After-is_left in
    state_room (lent p c.if-not-is_left.false) (left p c.if-not-is_left.false)

pub find_id-requires-clause-natural : goal.find_id-requires-clause-natural
find_id-requires-clause-natural c =
    let p = (goal.at.find_id-requires-clause-natural c).After-is_left in
    (places_room (lent p c.if-not-is_left.false) (left p c.if-not-is_left.false), ids_natural (lent p c.if-not-is_left.false) (left p c.if-not-is_left.false))

pub natural_at-requires-2 : goal.natural_at-requires-2
natural_at-requires-2 c =
    let p = (goal.at.natural_at-requires-2 c).After-is_left in
    (omega (arith, numbers_long (lent p c.if-not-is_left.false) c.args.numbers.now (left p c.if-not-is_left.false) (sym c.connection_fits.ensures ∙ c.if-not-connection_fits.false)), (port_natural c.args.numbers.now (sym c.connection_fits.ensures ∙ c.if-not-connection_fits.false)).1)

pub find_id-requires-2-clause-within : goal.find_id-requires-2-clause-within
find_id-requires-2-clause-within c =
    let p = (goal.at.find_id-requires-2-clause-within c).After-is_left in
    state_room (lent p c.if-not-is_left.false) (left p c.if-not-is_left.false)

pub find_id-requires-2-clause-natural : goal.find_id-requires-2-clause-natural
find_id-requires-2-clause-natural c =
    let p = (goal.at.find_id-requires-2-clause-natural c).After-is_left in
    (places_room (lent p c.if-not-is_left.false) (left p c.if-not-is_left.false), ids_natural (lent p c.if-not-is_left.false) (left p c.if-not-is_left.false))

pub returns-then-is_none : goal.returns-then-is_none
returns-then-is_none c =
    let p = (goal.at.returns-then-is_none c).After-is_left in
    ap Err c.refusal-then-is_none.ensures
    ∙ sym (connect_source (lent p c.if-not-is_left.false) c.args.numbers.now (left p c.if-not-is_left.false) (sym c.connection_fits.ensures ∙ c.if-not-connection_fits.false)
    (present_by (lent p c.if-not-is_left.false) (left p c.if-not-is_left.false) c.natural_at.result _ c.find_id.result false c.natural_at.ensures c.find_id.ensures (c.is_none.ensures ∙ ap not c.if-is_none.true)))

pub returns-then-is_none-2 : goal.returns-then-is_none-2
returns-then-is_none-2 c =
    let p = (goal.at.returns-then-is_none-2 c).After-is_left in
    ap Err c.refusal-then-is_none-2.ensures
    ∙ sym (connect_sink (lent p c.if-not-is_left.false) c.args.numbers.now (left p c.if-not-is_left.false) (sym c.connection_fits.ensures ∙ c.if-not-connection_fits.false)
    (present_by (lent p c.if-not-is_left.false) (left p c.if-not-is_left.false) c.natural_at.result _ c.find_id.result true c.natural_at.ensures c.find_id.ensures (c.is_none.ensures ∙ ap not c.if-is_none.false))
    (present_by (lent p c.if-not-is_left.false) (left p c.if-not-is_left.false) c.natural_at-2.result _ c.find_id-2.result false c.natural_at-2.ensures c.find_id-2.ensures (c.is_none-2.ensures ∙ ap not c.if-is_none-2.true)))

pub bounds-state-3 : goal.bounds-state-3
bounds-state-3 c =
    let p = (goal.at.bounds-state-3 c).After-is_left in
    omega (arith, (passes (lent p c.if-not-is_left.false) (left p c.if-not-is_left.false)).room.state_room)

pub is_held-requires : goal.is_held-requires
is_held-requires c =
    let p = (goal.at.is_held-requires c).After-is_left in
    (numbers_long (lent p c.if-not-is_left.false) c.args.numbers.now (left p c.if-not-is_left.false) (sym c.connection_fits.ensures ∙ c.if-not-connection_fits.false), held_room p c.if-not-is_left.false)

pub returns-then-held-lt-CONNECTIONS : goal.returns-then-held-lt-CONNECTIONS
returns-then-held-lt-CONNECTIONS c =
    let p = (goal.at.returns-then-held-lt-CONNECTIONS c).After-is_left in
    sym (connect_room (lent p c.if-not-is_left.false) c.args.numbers.now (left p c.if-not-is_left.false) (sym c.connection_fits.ensures ∙ c.if-not-connection_fits.false)
    (present_by (lent p c.if-not-is_left.false) (left p c.if-not-is_left.false) c.natural_at.result _ c.find_id.result true c.natural_at.ensures c.find_id.ensures (c.is_none.ensures ∙ ap not c.if-is_none.false))
    (present_by (lent p c.if-not-is_left.false) (left p c.if-not-is_left.false) c.natural_at-2.result _ c.find_id-2.result true c.natural_at-2.ensures c.find_id-2.ensures (c.is_none-2.ensures ∙ ap not c.if-is_none-2.false)) c.if-held-lt-CONNECTIONS.true)

pub returns-then-is_held : goal.returns-then-is_held
returns-then-is_held c =
    let p = (goal.at.returns-then-is_held c).After-is_left in
    sym (connect_held (lent p c.if-not-is_left.false) c.args.numbers.now (left p c.if-not-is_left.false) (sym c.connection_fits.ensures ∙ c.if-not-connection_fits.false)
    (present_by (lent p c.if-not-is_left.false) (left p c.if-not-is_left.false) c.natural_at.result _ c.find_id.result true c.natural_at.ensures c.find_id.ensures (c.is_none.ensures ∙ ap not c.if-is_none.false))
    (present_by (lent p c.if-not-is_left.false) (left p c.if-not-is_left.false) c.natural_at-2.result _ c.find_id-2.result true c.natural_at-2.ensures c.find_id-2.ensures (c.is_none-2.ensures ∙ ap not c.if-is_none-2.false)) (held_is (lent p c.if-not-is_left.false) c.args.numbers.now (left p c.if-not-is_left.false) ∙ (sym c.is_held.ensures ∙ c.if-is_held.true)))

pub returns : goal.returns
returns c =
    let p = (goal.at.returns c).After-is_left in
    sym (connect_1 (lent p c.if-not-is_left.false) c.args.numbers.now (left p c.if-not-is_left.false) (sym c.connection_fits.ensures ∙ c.if-not-connection_fits.false)
    (present_by (lent p c.if-not-is_left.false) (left p c.if-not-is_left.false) c.natural_at.result _ c.find_id.result true c.natural_at.ensures c.find_id.ensures (c.is_none.ensures ∙ ap not c.if-is_none.false))
    (present_by (lent p c.if-not-is_left.false) (left p c.if-not-is_left.false) c.natural_at-2.result _ c.find_id-2.result true c.natural_at-2.ensures c.find_id-2.ensures (c.is_none-2.ensures ∙ ap not c.if-is_none-2.false)) (held_is (lent p c.if-not-is_left.false) c.args.numbers.now (left p c.if-not-is_left.false) ∙ (sym c.is_held.ensures ∙ c.if-is_held.false)) c.if-held-lt-CONNECTIONS.false)
