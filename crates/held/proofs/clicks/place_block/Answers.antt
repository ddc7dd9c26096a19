-- Answers for the goals that the search leaves.
use mathlib.Core.Path.{◌≡◌, sym, ap, subst, ◌∙◌}
use Prim.Native.Nat.{ℕ, ◌<◌}
use borrow.Author.Rules.{rules}
use mathlib.Core.Bool.{true}
use mathlib.Core.List.{List}
use lib.IntN.{ℤ}
use Rattle.std.specs.Prelude.{Ok, Err}
use Rattle.lists.specs.Limits.{component_limit}
use Rattle.held.specs.Plot.{seat, placing}
use Rattle.held.specs.Left.{place, effect_of}
use Rattle.held.specs.Lent.{Lent, layout, plot_in, lent_if, lent_answer, lent_valid}
use Rattle.held.specs.Entries.{with_place}
use Rattle.held.specs.Lent.{lent_of}
use Rattle.held.proofs.LentLaws.{passes}
use Rattle.held.proofs.EntryLaws.{accepted_parts, numbers_long, seat_few, seat_now, placed_layout}
use Rattle.held.proofs.clicks.place_block.Goals as goal
use Rattle.held.proofs.clicks.place_block.Goals.{After-refuse_placing}

module _ (c : After-refuse_placing) where
  abbrev lent : Lent
  lent = lent_of c.args.state.now c.args.frontiers.now c.args.places.now c.args.connections.now

  abbrev numbers : List ℤ
  numbers = c.args.numbers.now

  module _ (was : c.refuse_placing.result ≡ Ok tt) where
    accepted : lent_answer lent (place numbers) ≡ Ok tt
    accepted = sym c.refuse_placing.ensures ∙ was

    valid_is : lent_valid lent ≡ true
    valid_is = (accepted_parts lent (place numbers) accepted).0

    placing_is : placing (plot_in lent) numbers ≡ Ok tt
    placing_is = (accepted_parts lent (place numbers) accepted).1

pub returns-in_err-refuse_placing : goal.returns-in_err-refuse_placing
returns-in_err-refuse_placing c =
    let p = (goal.at.returns-in_err-refuse_placing c).After-refuse_placing in
    let told = sym c.refuse_placing.ensures ∙ c.in_err-refuse_placing.was in
    let back : c.from_residual.result ≡ Err c.in_err-refuse_placing.field-0.0 = search rules in
    rw back (record {
      answer = ap (λ r. with_place r (seat (plot_in (lent p)))) (sym told);
      left = ap (λ r. lent_if r (layout (lent p) (effect_of (plot_in (lent p)) (place (numbers p)))) (lent p)) (sym told);
    })

pub seat_block-requires : goal.seat_block-requires
seat_block-requires c =
    let p = (goal.at.seat_block-requires c).After-refuse_placing in
    let was = c.in_ok-refuse_placing.was in
    let l = lent p in
    let q = passes l (valid_is p was) in
    record {
      state_room = q.room.state_room;
      places_room = q.room.places_room;
      numbers_long = numbers_long l (numbers p) (valid_is p was) (placing_is p was);
      freed_few = q.freed_few;
      seat_few = subst (λ (k : ℕ). k < component_limit) (sym (seat_now l (numbers p) (valid_is p was) (placing_is p was))) (seat_few l (numbers p) (valid_is p was) (placing_is p was));
    }

pub returns : goal.returns
returns c =
    let p = (goal.at.returns c).After-refuse_placing in
    let was = c.in_ok-refuse_placing.was in
    let l = lent p in
    let w = c.seat_block.ensures in
    record {
      answer = ap Ok (w.seat_is ∙ seat_now l (numbers p) (valid_is p was) (placing_is p was)) ∙ ap (λ r. with_place r (seat (plot_in l))) (sym (accepted p was));
      left = (λ i. lent_of (w.state_is i) c.args.frontiers.now (w.places_are i) c.args.connections.now)
          ∙ (placed_layout l (numbers p) (valid_is p was) (placing_is p was)
          ∙ ap (λ r. lent_if r (layout l (effect_of (plot_in l) (place (numbers p)))) l) (sym (accepted p was)));
    }
