-- From the clicks on a held plot to the entries on lent lists.
--     answer_small, opening_small, held_small     the item of a refusal has room in its digits
--     placed_by, seat_fits                        placing
--     counted_after, left_ok, left_refused        breaking and connecting: the counts are those of the plot that is left
-- Assumes nothing.
use Rattle.std.specs.Prelude.{⊤, Option, Some, None, Result, Ok, Err}
use Rattle.lists.specs.declared.Fault.{Fault}
use Rattle.lists.specs.declared.Section.{Section}
use Rattle.lists.specs.declared.Refusal.{Refusal}
use mathlib.Core.Path.{◌≡◌, refl, sym, ap, ◌∙◌, subst}
use mathlib.Core.Bool.{Bool, true, false, not}
use mathlib.Core.List.{List}
use Prim.Native.Nat.{ℕ, ◌+◌, ◌-◌, ◌*◌, ◌/◌, ◌≤◌, ◌<◌}
use native.Mathlib.Omega.{arith}
use lib.ListN.{length}
use lib.IntN.{ℤ}
use Rattle.lists.specs.Limits.{component_limit, connection_limit, frontier_limit, frontier_width}
use Rattle.lists.specs.Ranges.{record_in_range, first_out_of_range, frontier_low, frontier_high}
use Rattle.lists.proofs.Search.{found_at}
use Rattle.checks.specs.Refusals.{refuse, ◌or_else◌, not_whole, too_short, strange_rules, Small, packed}
use Rattle.checks.proofs.Accepts.{refuse_none, whole_few}
use Rattle.checks.proofs.Small.{small_or_else, rules_small, whole_small}
use Rattle.held.specs.Plot.{Record, Plot, fault_at, is_present, seat, opening, placing, breaking, connecting}
use Rattle.held.specs.Left.{Click, place, break, connect, checks_of}
use Rattle.held.specs.Lent.{Lent, plot_in, lent_valid, lent_answer, lent_after, used_in, freed_count_in, held_in}
use Rattle.held.specs.Entries.{with_place, PlacedBy}
use Rattle.held.proofs.LentLaws.{passes, lent_decides, lent_kept}
use Rattle.held.proofs.EntryLaws.{accepted_parts, count_is, seat_few}
use Rattle.held.proofs.Reached.{length_tabulate}
use Rattle.held_liveness.specs.Entry.{held_refusal}
use Rattle.capi.specs.Held.{place_number, plot_number, PlacedByLists, LeftByLists}
use Rattle.capi.specs.HeldParts.{Counted}

-- ---- the item of a refusal has room in its digits

fault_small : (fault : Fault) (list : Option Section) (k : ℕ) (wrong : Bool) → k ≤ connection_limit → Small (refuse fault list (fault_at k wrong))
fault_small fault list k true h = omega arith
fault_small fault list k false h = tt

three_small : (f g h : Fault) (l m n : Option Section) (i j k : ℕ) (a b c : Bool) → i ≤ connection_limit → j ≤ connection_limit → k ≤ connection_limit
    → Small (refuse f l (fault_at i a) or_else refuse g m (fault_at j b) or_else refuse h n (fault_at k c))
three_small f g h l m n i j k true b c p q r = omega (arith, p)
three_small f g h l m n i j k false true c p q r = omega (arith, q)
three_small f g h l m n i j k false false true p q r = omega (arith, r)
three_small f g h l m n i j k false false false p q r = tt

checks_small : (plot : Plot) (click : Click) → Small (checks_of plot click)
unfolding placing breaking connecting
checks_small plot (place block) =
    three_small Fault.OutOfRange Fault.PresentId Fault.FullPlot (Some Section.Components) None None 0 0 0 _ _ _ (omega arith) (omega arith) (omega arith)
checks_small plot (break id) = fault_small Fault.AbsentId None 0 (not (is_present plot.places id)) (omega arith)
checks_small plot (connect connection) =
    three_small Fault.OutOfRange Fault.AbsentId Fault.ListLength (Some Section.Connections) None (Some Section.Connections) 0 0 connection_limit _ _ _ (omega arith) (omega arith) (omega arith)

pub answer_small : (lent : Lent) (click : Click) → Small (lent_answer lent click)
unfolding lent_answer
answer_small lent click = go (lent_valid lent)
  where
    go : (b : Bool) → Small (refuse Fault.StrangePlot None (fault_at 0 (not b)) or_else checks_of (plot_in lent) click)
    go true = checks_small (plot_in lent) click
    go false = omega arith

pub held_small : (lent : Lent) (enough : Bool) → Small (held_refusal lent enough)
unfolding held_refusal
held_small lent enough = go (lent_valid lent) enough
  where
    go : (b c : Bool) → Small (refuse Fault.StrangePlot None (fault_at 0 (not b)) or_else refuse Fault.ShortSlice None (too_short c))
    go true true = tt
    go true false = omega arith
    go false c = omega arith

short_small : (enough : Bool) → Small (refuse Fault.ShortSlice None (too_short enough))
short_small true = tt
short_small false = omega arith

range_small : (fs : List ℤ) → length fs / frontier_width ≤ frontier_limit → Small (refuse Fault.OutOfRange (Some Section.Frontiers) (first_out_of_range frontier_low frontier_high fs))
unfolding first_out_of_range
range_small fs few = go (first_out_of_range frontier_low frontier_high fs) below
  where
    below : (k : ℕ) → first_out_of_range frontier_low frontier_high fs ≡ Some k → k < length fs / frontier_width
    below k e = omega (arith, (found_at (λ k. not (record_in_range frontier_low frontier_high fs (k * length frontier_low))) 0 (length fs / length frontier_low) k e).below)

    go : (f : Option ℕ) → ((k : ℕ) → f ≡ Some k → k < length fs / frontier_width) → Small (refuse Fault.OutOfRange (Some Section.Frontiers) f)
    go (Some k) h = omega (arith, h k refl, few)
    go None h = tt

pub opening_small : (rules : ℕ) (fs : List ℤ) (enough : Bool) → Small (opening rules fs enough)
unfolding opening
opening_small rules fs enough =
    let one = refuse Fault.UnknownRules None (strange_rules rules) in
    let two = refuse Fault.ListLength (Some Section.Frontiers) (not_whole frontier_width frontier_limit (length fs)) in
    let three = refuse Fault.ShortSlice None (too_short enough) in
    let four = refuse Fault.OutOfRange (Some Section.Frontiers) (first_out_of_range frontier_low frontier_high fs) in
    small_or_else one (two or_else three or_else four) (rules_small rules)
    (λ e. small_or_else two (three or_else four) (whole_small (Some Section.Frontiers) frontier_width frontier_limit (length fs) (omega arith))
    (λ w. small_or_else three four (short_small enough)
    (λ s. range_small fs (whole_few frontier_width frontier_limit (length fs) (refuse_none Fault.ListLength (Some Section.Frontiers) (not_whole frontier_width frontier_limit (length fs)) w)))))

pub err_small : (a : Result ⊤ Refusal) {refusal : Refusal} → Small a → a ≡ Err refusal → Small (Err refusal)
err_small a s e = subst (λ (x : Result ⊤ Refusal). Small x) e s

-- ---- placing

-- what the checks say, by the answer
place_checks : (a : Result ⊤ Refusal) (k : ℕ) {refusal : Refusal} → with_place a k ≡ Err refusal → a ≡ Err refusal
place_checks (Ok tt) k e = absurd (never_ok e)
  where
    never_ok : {k : ℕ} {refusal : Refusal} → ◌≡◌ {A = Result ℕ Refusal} (Ok k) (Err refusal) → ⊥
    never_ok e = cc
place_checks (Err r) k e = cc

place_seat : (a : Result ⊤ Refusal) (k m : ℕ) → with_place a k ≡ Ok m → (a ≡ Ok tt) × (k ≡ m)
place_seat (Ok tt) k m e = (refl, cc)
place_seat (Err r) k m e = absurd (never_err e)
  where
    never_err : {m : ℕ} {r : Refusal} → ◌≡◌ {A = Result ℕ Refusal} (Err r) (Ok m) → ⊥
    never_err e = cc

module _ {lent after : Lent} {numbers : Record} {answer : Result ℕ Refusal} (p : PlacedBy lent after numbers answer) where
  pub placed_by : (r : ℕ) → r ≡ place_number answer → PlacedByLists lent after numbers r
  placed_by r e = record { answer = e ∙ ap place_number p.answer; left = p.left }

  pub placed_small : {refusal : Refusal} → answer ≡ Err refusal → Small (Err refusal)
  placed_small e =
      err_small (lent_answer lent (place numbers)) (answer_small lent (place numbers))
      (place_checks (lent_answer lent (place numbers)) (seat (plot_in lent)) (sym p.answer ∙ e))

  pub seat_fits : (k : ℕ) → answer ≡ Ok k → k < component_limit
  seat_fits k e =
      let (ok, here) = place_seat (lent_answer lent (place numbers)) (seat (plot_in lent)) k (sym p.answer ∙ e) in
      let parts = accepted_parts lent (place numbers) ok in
      omega (arith, seat_few lent numbers parts.0 parts.1, here)

-- ---- breaking and connecting

module _ (lent after : Lent) (click : Click) (left : after ≡ lent_after lent click) where
  pub left_refused : {refusal : Refusal} → lent_answer lent click ≡ Err refusal → (r : ℕ) → r ≡ packed (Err refusal) → LeftByLists lent after click r
  left_refused e r f = record { answer = f ∙ ap (λ (a : Result ⊤ Refusal). plot_number a (plot_in after)) (sym e); left = left }

  module _ (ok : lent_answer lent click ≡ Ok tt) where
    -- what a click leaves can be left
    valid_after : lent_valid after ≡ true
    valid_after =
        let before = (lent_decides lent).1 (accepted_parts lent click ok).0 in
        subst (λ (x : Lent). lent_valid x ≡ true) (sym left) ((lent_decides (lent_after lent click)).0 (lent_kept lent click before))

    pub counted_after : Counted after.state
    counted_after =
        let p = passes after valid_after in
        record { room = omega (arith, p.room.state_room); freed = (count_is after valid_after).1; used = p.used_few; held = p.held_few }

    held_are : length (plot_in after).connections ≡ held_in after.state
    unfolding plot_in
    held_are = length_tabulate _ (held_in after.state)

    pub left_ok : (r : ℕ) → r ≡ 65536 * (used_in after.state - freed_count_in after.state) + 4294967296 * held_in after.state → LeftByLists lent after click r
    left_ok r e = record {
      answer = omega (arith, e, (count_is after valid_after).0, held_are) ∙ ap (λ (a : Result ⊤ Refusal). plot_number a (plot_in after)) (sym ok);
      left = left;
    }
