-- Answers for the goals that the search leaves.
use mathlib.Core.Path.{◌≡◌, sym, ap, subst, ◌∙◌}
use mathlib.Core.Bool.{true}
use mathlib.Core.List.{List}
use Prim.Native.Nat.{ℕ, ◌*◌}
use native.Mathlib.Omega.{arith}
use lib.Dec.{eqb}
use lib.ListN.{length, take}
use lib.Seq.{length-take-le}
use lib.IntN.{ℤ}
use Rattle.lists.proofs.Search.{both}
use Rattle.held.specs.Tests.{distinct}
use Rattle.held.specs.Lent.{Lent, Roomy, held_in, freed_places_in}
use Rattle.held.specs.Lent.{lent_valid}
use Rattle.held.specs.Lent.{lent_of}
use Rattle.held.specs.Inspected.{blocks_in, Counts, Frame, held_part, stand_pass}
use Rattle.held.proofs.Lists.{true_not_false}
use Rattle.held.proofs.LentLaws.{room_of}
use Rattle.held.proofs.ValidLaws.{counts_of}
use Rattle.held.proofs.PartLaws.{strange, some_is, none_some, frame_of, none_marked, marked_blocks, last_part}
use Rattle.held.proofs.inspect.standing.Goals as goal
use Rattle.held.proofs.inspect.standing.Goals.{After-frame_fits, After-stand_pass}

-- ---- what the frame says

module _ (c : After-frame_fits) (was : c.frame_fits.result ≡ true) where
  abbrev lent : Lent
  lent = lent_of c.args.state.now c.args.frontiers.now c.args.places.now c.args.connections.now

  frame : Frame lent
  frame = c.frame_fits.ensures.fits was

  roomy : Roomy lent
  roomy = room_of lent frame.room

  counts : Counts lent.state
  counts = counts_of lent.state frame.counts

  held_long : length (take (held_in lent.state * 5) lent.connections) ≡ held_in lent.state * 5
  held_long = length-take-le (held_in lent.state * 5) lent.connections (omega (arith, roomy.connections_room, counts.held))

pub returns-then-not-frame_fits : goal.returns-then-not-frame_fits
returns-then-not-frame_fits c =
    strange (lent_of c.args.state.now c.args.frontiers.now c.args.places.now c.args.connections.now) (λ p. c.frame_fits.ensures.fails c.if-not-frame_fits.true p.frame)

pub bounds-state-1 : goal.bounds-state-1
bounds-state-1 c = omega (arith, (roomy (goal.at.bounds-state-1 c).After-frame_fits c.if-not-frame_fits.false).state_room)

pub mark_freed-requires-clause-within : goal.mark_freed-requires-clause-within
mark_freed-requires-clause-within c =
    let p = (goal.at.mark_freed-requires-clause-within c).After-frame_fits in
    omega (arith, (roomy p c.if-not-frame_fits.false).state_room, (counts p c.if-not-frame_fits.false).freed)

pub mark_freed-requires-clause-room : goal.mark_freed-requires-clause-room
mark_freed-requires-clause-room c = (counts (goal.at.mark_freed-requires-clause-room c).After-frame_fits c.if-not-frame_fits.false).used

pub mark_freed-requires-clause-unmarked : goal.mark_freed-requires-clause-unmarked
mark_freed-requires-clause-unmarked c = none_marked 1024

pub returns-then-not-mark_freed : goal.returns-then-not-mark_freed
returns-then-not-mark_freed c =
    strange (lent_of c.args.state.now c.args.frontiers.now c.args.places.now c.args.connections.now) (λ p. true_not_false (sym p.freed ∙ (sym c.mark_freed.ensures.answer ∙ c.if-not-mark_freed.true)))

pub blanks-requires-clause-within : goal.blanks-requires-clause-within
blanks-requires-clause-within c =
    let p = (goal.at.blanks-requires-clause-within c).After-frame_fits in
    omega (arith, (roomy p c.if-not-frame_fits.false).state_room, (counts p c.if-not-frame_fits.false).freed)

pub blanks-requires-clause-room : goal.blanks-requires-clause-room
blanks-requires-clause-room c =
    let p = (goal.at.blanks-requires-clause-room c).After-frame_fits in
    omega (arith, (roomy p c.if-not-frame_fits.false).places_room, (counts p c.if-not-frame_fits.false).used)

pub blanks-requires-clause-below : goal.blanks-requires-clause-below
blanks-requires-clause-below c = (both (distinct eqb (freed_places_in c.args.state.now)) _ (sym c.mark_freed.ensures.answer ∙ c.if-not-mark_freed.false)).1

pub returns-then-not-blanks : goal.returns-then-not-blanks
returns-then-not-blanks c =
    strange (lent_of c.args.state.now c.args.frontiers.now c.args.places.now c.args.connections.now) (λ p. true_not_false (sym p.blank ∙ (sym c.blanks.ensures ∙ c.if-not-blanks.true)))

pub gather-numbers-requires-clause-within : goal.gather-numbers-requires-clause-within
gather-numbers-requires-clause-within c =
    let p = (goal.at.gather-numbers-requires-clause-within c).After-frame_fits in
    let used = (counts p c.if-not-frame_fits.false).used in
    (omega (arith, (roomy p c.if-not-frame_fits.false).places_room, used), omega (arith, used, c.mark_freed.auto.marks))

pub gather-numbers-requires-clause-room : goal.gather-numbers-requires-clause-room
gather-numbers-requires-clause-room c =
    omega (arith, (counts (goal.at.gather-numbers-requires-clause-room c).After-frame_fits c.if-not-frame_fits.false).used)

pub overflow_mul-numbers : goal.overflow_mul-numbers
overflow_mul-numbers c =
    omega (arith, c.gather-numbers.ensures.few, (counts (goal.at.overflow_mul-numbers c).After-frame_fits c.if-not-frame_fits.false).used)

pub bounds-state-3 : goal.bounds-state-3
bounds-state-3 c = omega (arith, (roomy (goal.at.bounds-state-3 c).After-frame_fits c.if-not-frame_fits.false).state_room)

pub overflow_mul-held : goal.overflow_mul-held
overflow_mul-held c = omega (arith, (counts (goal.at.overflow_mul-held c).After-frame_fits c.if-not-frame_fits.false).held)

pub slice_bounds-stand_pass-end : goal.slice_bounds-stand_pass-end
slice_bounds-stand_pass-end c =
    omega (arith, c.gather-numbers.ensures.few, c.gather-numbers.auto.out, (counts (goal.at.slice_bounds-stand_pass-end c).After-frame_fits c.if-not-frame_fits.false).used)

pub slice_bounds-stand_pass-end-2 : goal.slice_bounds-stand_pass-end-2
slice_bounds-stand_pass-end-2 c =
    sym (length-take-le _ _
    (omega (arith, c.gather-numbers.ensures.few, c.gather-numbers.auto.out, (counts (goal.at.slice_bounds-stand_pass-end-2 c).After-frame_fits c.if-not-frame_fits.false).used)))

pub slice_bounds-stand_pass-end-3 : goal.slice_bounds-stand_pass-end-3
slice_bounds-stand_pass-end-3 c = sym (held_long (goal.at.slice_bounds-stand_pass-end-3 c).After-frame_fits c.if-not-frame_fits.false)

pub stand_pass-requires : goal.stand_pass-requires
stand_pass-requires c =
    let p = (goal.at.stand_pass-requires c).After-frame_fits in
    let used = (counts p c.if-not-frame_fits.false).used in
    let long : length (take (c.gather-numbers.result * 8) c.gather-numbers.new.out) ≡ c.gather-numbers.result * 8 =
    length-take-le _ _ (omega (arith, c.gather-numbers.ensures.few, c.gather-numbers.auto.out, used)) in
    (omega (arith, long, c.gather-numbers.ensures.few, used), omega (arith, held_long p c.if-not-frame_fits.false, (counts p c.if-not-frame_fits.false).held))

-- the test, by what the last part says
module _ (c : After-stand_pass) where
  abbrev l : Lent
  l = lent_of c.args.state.now c.args.frontiers.now c.args.places.now c.args.connections.now

  numbers_are : take (c.gather-numbers.result * 8) c.gather-numbers.new.out ≡ blocks_in l
  numbers_are =
      let f = frame_of l (c.frame_fits.ensures.fits c.if-not-frame_fits.false) in
      c.gather-numbers.ensures.numbers
      ∙ marked_blocks l c.mark_freed.new.marks (c.mark_freed.ensures.marked c.if-not-mark_freed.false) (omega (arith, f.1.used, c.mark_freed.auto.marks))

  test_is : c.stand_pass.result ≡ lent_valid l
  test_is =
      last_part l c.stand_pass.result (c.frame_fits.ensures.fits c.if-not-frame_fits.false) (sym c.mark_freed.ensures.answer ∙ c.if-not-mark_freed.false)
      (sym c.blanks.ensures ∙ c.if-not-blanks.false) (c.stand_pass.ensures ∙ ap (λ (t : List ℤ). stand_pass t (held_part l)) numbers_are)

pub returns-then-stand_pass : goal.returns-then-stand_pass
returns-then-stand_pass c =
    let p = (goal.at.returns-then-stand_pass c).After-stand_pass in
    record { left = sym c.if-stand_pass.true ∙ test_is p; blocks_are = λ n e. subst (λ (k : ℕ). take k p.gather-numbers.new.out ≡ blocks_in (l p)) (some_is e) (numbers_are p) }

pub returns-else-stand_pass : goal.returns-else-stand_pass
returns-else-stand_pass c =
    let p = (goal.at.returns-else-stand_pass c).After-stand_pass in
    record { left = sym c.if-stand_pass.false ∙ test_is p; blocks_are = λ n e. none_some e }
