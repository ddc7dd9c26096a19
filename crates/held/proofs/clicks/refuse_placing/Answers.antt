-- Answers for the goals that the search leaves.
use mathlib.Core.Path.{◌≡◌, sym, ap, ◌∙◌}
use mathlib.Core.Bool.{true, false}
use native.Mathlib.Omega.{arith}
use Rattle.std.specs.Prelude.{Err}
use Rattle.lists.specs.Ranges.{component_low, component_high}
use Rattle.held.specs.Lent.{Lent, lent_valid}
use Rattle.held.specs.Lent.{lent_of}
use Rattle.held.proofs.LentLaws.{passes}
use Rattle.held.proofs.Shown.{fits_long}
use Rattle.held.proofs.EntryLaws.{answer_18, answer_3, answer_16, answer_15, answer_0, count_is, id_natural}
use Rattle.held.proofs.BreakLaws.{present_by, state_room, places_room, ids_natural}
use Rattle.held.proofs.clicks.refuse_placing.Goals as goal
use Rattle.held.proofs.clicks.refuse_placing.Goals.{After-is_left}

module _ (c : After-is_left) (was : c.is_left.result ≡ true) where
  abbrev lent : Lent
  lent = lent_of c.args.state.now c.args.frontiers.now c.args.places.now c.args.connections.now

  left : lent_valid lent ≡ true
  left = sym c.is_left.ensures ∙ was

pub returns-then-not-is_left : goal.returns-then-not-is_left
returns-then-not-is_left c =
    ap Err c.refusal.ensures
    ∙ sym (answer_18 (lent_of c.args.state.now c.args.frontiers.now c.args.places.now c.args.connections.now) c.args.numbers.now (sym c.is_left.ensures ∙ c.if-not-is_left.true))

pub returns-then-not-block_fits : goal.returns-then-not-block_fits
returns-then-not-block_fits c =
    let p = (goal.at.returns-then-not-block_fits c).After-is_left in
    ap Err c.refusal-then-not-block_fits.ensures
    ∙ sym (answer_3 (lent p c.if-not-is_left.false) c.args.numbers.now (left p c.if-not-is_left.false) (sym c.block_fits.ensures ∙ c.if-not-block_fits.true))

pub natural_at-requires : goal.natural_at-requires
natural_at-requires c =
    let fit = sym c.block_fits.ensures ∙ c.if-not-block_fits.false in
    (omega (arith, fits_long component_low component_high c.args.numbers.now fit), id_natural c.args.numbers.now fit)

pub find_id-requires-clause-within : goal.find_id-requires-clause-within
find_id-requires-clause-within c =
    let p = (goal.at.find_id-requires-clause-within c).After-is_left in
    state_room (lent p c.if-not-is_left.false) (left p c.if-not-is_left.false)

pub find_id-requires-clause-natural : goal.find_id-requires-clause-natural
find_id-requires-clause-natural c =
    let p = (goal.at.find_id-requires-clause-natural c).After-is_left in
    (places_room (lent p c.if-not-is_left.false) (left p c.if-not-is_left.false), ids_natural (lent p c.if-not-is_left.false) (left p c.if-not-is_left.false))

pub returns-then-is_some : goal.returns-then-is_some
returns-then-is_some c =
    let p = (goal.at.returns-then-is_some c).After-is_left in
    ap Err c.refusal-then-is_some.ensures
    ∙ sym (answer_16 (lent p c.if-not-is_left.false) c.args.numbers.now (left p c.if-not-is_left.false) (sym c.block_fits.ensures ∙ c.if-not-block_fits.false)
    (present_by (lent p c.if-not-is_left.false) (left p c.if-not-is_left.false) c.natural_at.result _ c.find_id.result true c.natural_at.ensures c.find_id.ensures (sym c.is_some.ensures ∙ c.if-is_some.true)))

pub bounds-state-1 : goal.bounds-state-1
bounds-state-1 c =
    let p = (goal.at.bounds-state-1 c).After-is_left in
    omega (arith, (passes (lent p c.if-not-is_left.false) (left p c.if-not-is_left.false)).room.state_room)

pub bounds-state-2 : goal.bounds-state-2
bounds-state-2 c =
    let p = (goal.at.bounds-state-2 c).After-is_left in
    omega (arith, (passes (lent p c.if-not-is_left.false) (left p c.if-not-is_left.false)).room.state_room)

pub overflow_sub-state : goal.overflow_sub-state
overflow_sub-state c =
    let p = (goal.at.overflow_sub-state c).After-is_left in
    omega (arith, (count_is (lent p c.if-not-is_left.false) (left p c.if-not-is_left.false)).1)

pub returns-then-state-ge-COMPONENTS : goal.returns-then-state-ge-COMPONENTS
returns-then-state-ge-COMPONENTS c =
    let p = (goal.at.returns-then-state-ge-COMPONENTS c).After-is_left in
    ap Err c.refusal-then-state-ge-COMPONENTS.ensures
    ∙ sym (answer_15 (lent p c.if-not-is_left.false) c.args.numbers.now (left p c.if-not-is_left.false) (sym c.block_fits.ensures ∙ c.if-not-block_fits.false)
    (present_by (lent p c.if-not-is_left.false) (left p c.if-not-is_left.false) c.natural_at.result _ c.find_id.result false c.natural_at.ensures c.find_id.ensures (sym c.is_some.ensures ∙ c.if-is_some.false)) c.if-state-ge-COMPONENTS.true)

pub returns : goal.returns
returns c =
    let p = (goal.at.returns c).After-is_left in
    sym (answer_0 (lent p c.if-not-is_left.false) c.args.numbers.now (left p c.if-not-is_left.false) (sym c.block_fits.ensures ∙ c.if-not-block_fits.false)
    (present_by (lent p c.if-not-is_left.false) (left p c.if-not-is_left.false) c.natural_at.result _ c.find_id.result false c.natural_at.ensures c.find_id.ensures (sym c.is_some.ensures ∙ c.if-is_some.false)) (omega (arith, c.if-state-ge-COMPONENTS.false)))
