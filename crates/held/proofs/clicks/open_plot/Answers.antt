-- Answers for the goals that the search leaves.
use borrow.Author.Rules.{rules}
use mathlib.Core.Path.{◌≡◌, sym, ap, ◌∙◌}
use mathlib.Core.List.{List}
use Prim.Native.Nat.{ℕ, ◌/◌, ◌≤◌, ◌<◌}
use native.Mathlib.Omega.{arith}
use mir.Facts.{to_z-of_z}
use lib.ListN.{length, set, length-set, replicate}
use lib.Seq.{paste}
use lib.IntN.{ℤ}
use Rattle.std.specs.Prelude.{Ok, Err}
use Rattle.lists.specs.Rules.{rules_of}
use Rattle.held.specs.Plot.{opening, opened}
use Rattle.held.specs.Lent.{Lent, Roomy, has_room, layout, lent_if, laid_state, laid_frontiers, laid_places, laid_connections, flat}
use Rattle.held.specs.Lent.{lent_of}
use Rattle.held.proofs.LentLaws.{room_of}
use Rattle.held.proofs.OpenLaws.{opening_parts, state_zero, front_zero, nothing_laid}
use Rattle.held.proofs.clicks.open_plot.Goals as goal
use Rattle.held.proofs.clicks.open_plot.Goals.{After-refuse_opening}

module _ (c : After-refuse_opening) where
  abbrev lent : Lent
  lent = lent_of c.args.state.now c.args.frontiers.now c.args.places.now c.args.connections.now

  abbrev number : ℕ
  number = rules_of c.args.rules

  abbrev given : List ℤ
  given = c.args.given.now

  known : c.rules_of-rules.result ≡ number
  known = c.rules_of-rules.ensures ∙ ap rules_of (to_z-of_z c.ranges.rules)

  says : c.refuse_opening.result ≡ opening number given (has_room lent)
  says = c.refuse_opening.ensures ∙ (ap (opening c.rules_of-rules.result given) c.has_room-enough.ensures ∙ ap (λ n. opening n given (has_room lent)) known)

  module _ (was : c.refuse_opening.result ≡ Ok tt) where
    accepted : opening number given (has_room lent) ≡ Ok tt
    accepted = sym says ∙ was

    roomy : Roomy lent
    roomy = room_of lent (opening_parts number given (has_room lent) accepted).0

    few : length given ≤ 768
    few = (opening_parts number given (has_room lent) accepted).1

pub returns-in_err-refuse_opening : goal.returns-in_err-refuse_opening
returns-in_err-refuse_opening c =
    let p = (goal.at.returns-in_err-refuse_opening c).After-refuse_opening in
    let told = sym (says p) ∙ c.in_err-refuse_opening.was in
    let back : c.from_residual.result ≡ Err c.in_err-refuse_opening.field-0.0 = search rules in
    rw back (record { answer = sym told; left = ap (λ r. lent_if r (layout (lent p) (opened (number p) (given p))) (lent p)) (sym told) })

pub bounds-state-0 : goal.bounds-state-0
bounds-state-0 c = omega (arith, (roomy (goal.at.bounds-state-0 c).After-refuse_opening c.in_ok-refuse_opening.was).state_room, c.fill.auto.self)

pub bounds-state-4 : goal.bounds-state-4
bounds-state-4 c =
    let room : 4 < length c.fill.new.self = omega (arith, (roomy (goal.at.bounds-state-4 c).After-refuse_opening c.in_ok-refuse_opening.was).state_room, c.fill.auto.self) in
    simp length-set room

pub put_numbers-requires : goal.put_numbers-requires
put_numbers-requires c =
    let p = (goal.at.put_numbers-requires c).After-refuse_opening in
    omega (arith, (roomy p c.in_ok-refuse_opening.was).frontiers_room, few p c.in_ok-refuse_opening.was, c.fill-2.auto.self)

pub returns : goal.returns
unfolding laid_frontiers laid_places laid_connections flat
returns c =
    let p = (goal.at.returns c).After-refuse_opening in
    let was = c.in_ok-refuse_opening.was in
    let l = lent p in
    let n = number p in
    let r = roomy p was in
    let state_is : set (set c.fill.new.self 0 c.rules_of-rules.result) 4 (length (given p) / 3) ≡ laid_state (length l.state) (opened n (given p)) =
    ap (λ (t : List ℕ). set (set t 0 c.rules_of-rules.result) 4 (length (given p) / 3)) (c.fill.ensures.after (λ y e. e))
    ∙ (ap (λ k. set (set (replicate (length l.state) 0) 0 k) 4 (length (given p) / 3)) (known p) ∙ state_zero (length l.state) n (given p) (omega (arith, r.state_room))) in
    let frontiers_are : c.put_numbers.new.list ≡ laid_frontiers (length l.frontiers) (opened n (given p)) =
    c.put_numbers.ensures
    ∙ (ap (λ (t : List ℤ). paste t 0 (given p) (length (given p))) (c.fill-2.ensures.after (λ y e. e)) ∙ front_zero (length l.frontiers) (given p) (omega (arith, few p was, r.frontiers_room))) in
    let places_are : c.fill-3.new.self ≡ laid_places (length l.places) (opened n (given p)) = c.fill-3.ensures.after (λ y e. e) ∙ nothing_laid (length l.places) in
    let connections_are : c.fill-4.new.self ≡ laid_connections (length l.connections) (opened n (given p)) = c.fill-4.ensures.after (λ y e. e) ∙ nothing_laid (length l.connections) in
    record {
      answer = sym (accepted p was);
      left = (λ i. lent_of (state_is i) (frontiers_are i) (places_are i) (connections_are i))
          ∙ ap (λ r. lent_if r (layout l (opened n (given p))) l) (sym (accepted p was));
    }
