-- The test of number 18 is made of the parts in which the code makes it.
--     parts_of, of_parts, part_fails     it passes exactly if each part does
--     none_marked, marked_blocks         the blocks of the places that are not marked
--     last_part, strange                 what the code answers
-- Assumes nothing.
use Rattle.std.specs.Prelude.{Option, Some, None}
use mathlib.Core.Path.{◌≡◌, refl, sym, ap, ap₂, ◌∙◌}
use mathlib.Core.Bool.{Bool, true, false, not, cond, ◌&&◌}
use mathlib.Core.List.{List}
use Prim.Native.Nat.{ℕ, zero, suc, ◌*◌, ◌≤◌, ◌<◌}
use native.Mathlib.Omega.{arith}
use lib.ListN.{length, get_or, take, replicate}
use lib.Seq.{length-take-le}
use lib.Dec.{eqb, leb, ltb}
use lib.IntN.{ℤ}
use borrow.Author.Tests.{le-leb}
use Rattle.lists.specs.Limits.{component_limit, component_width, frontier_width}
use Rattle.lists.specs.Ranges.{first_out_of_range, component_low, component_high}
use Rattle.lists.specs.Ids.{first_repeated}
use Rattle.lists.specs.First.{is_found, tabulate}
use Rattle.lists.proofs.Search.{both}
use Rattle.lists.proofs.Some.{and_true}
use Rattle.held.specs.Tests.{every, distinct}
use Rattle.held.specs.Plot.{Place, free, taken, blocks}
use Rattle.held.specs.Left.{valid_places, valid}
use Rattle.held.specs.Lent.{Lent, flat, record_at, counter, used_in, held_in, frontier_count_in, freed_places_in, place_in, plot_in, Roomy, has_room, counts_fit, is_blank, tidy, lent_valid}
use Rattle.held.specs.Inspected.{Standing, Counts, zero_behind, opens_with, connections_pass, stand_pass, blocks_in, held_part, Frame, Parts, Marks, marked_place}
use Rattle.held.proofs.Lists.{true_not_false}
use Rattle.held.proofs.Reached.{length_tabulate}
use Rattle.held.proofs.LentLaws.{room_of}
use Rattle.held.proofs.Flat.{Long}
use Rattle.held.proofs.InspectLaws.{not_true_false}
use Rattle.held.proofs.ValidLaws.{counts_of, opens_part, freed_part, blocks_long, range_part, row_count, ids_part, connections_part}

-- ---- the whole test

module _ (lent : Lent) (r : Roomy lent) (c : Counts lent.state) where
  frontiers_long : length (take (frontier_count_in lent.state * frontier_width) lent.frontiers) ≡ frontier_count_in lent.state * frontier_width
  frontiers_long = length-take-le (frontier_count_in lent.state * frontier_width) lent.frontiers (omega (arith, c.frontiers, r.frontiers_room))

  pub stand_long : Long component_width (blocks (plot_in lent).places)
  unfolding plot_in
  stand_long = blocks_long lent.places (freed_places_in lent.state) (used_in lent.state) (omega (arith, c.used, r.places_room))

  few_places : leb (length (plot_in lent).places) component_limit ≡ true
  unfolding plot_in
  few_places =
      le-leb (length (tabulate (place_in (freed_places_in lent.state) lent.places) (used_in lent.state))) component_limit
      (omega (arith, c.used, length_tabulate (place_in (freed_places_in lent.state) lent.places) (used_in lent.state)))

  places_part : valid_places (plot_in lent).places ≡ (not (is_found (first_out_of_range component_low component_high (blocks_in lent))) && not (is_found (first_repeated (blocks_in lent))))
  unfolding valid_places
  places_part =
      rw few_places
      (ap₂ ◌&&◌ (range_part component_low component_high (blocks (plot_in lent).places) stand_long (row_count (blocks (plot_in lent).places) stand_long))
      (ids_part (blocks (plot_in lent).places) stand_long))

  -- what is valid of the plot that is shown
  valid_part : valid (plot_in lent)
      ≡ (opens_with (counter lent.state 0) (take (frontier_count_in lent.state * frontier_width) lent.frontiers)
      && ((not (is_found (first_out_of_range component_low component_high (blocks_in lent))) && not (is_found (first_repeated (blocks_in lent))))
      && ((distinct eqb (freed_places_in lent.state) && every (λ k. ltb k (used_in lent.state)) (freed_places_in lent.state)) && connections_pass (blocks_in lent) (held_part lent))))
  unfolding valid plot_in
  valid_part =
      ap₂ ◌&&◌
      (opens_part (counter lent.state 0) (take (frontier_count_in lent.state * frontier_width) lent.frontiers) (omega (arith, frontiers_long, c.frontiers)) (omega (arith, frontiers_long)))
      (ap₂ ◌&&◌ places_part
      (ap₂ ◌&&◌ (freed_part lent.places (freed_places_in lent.state) (used_in lent.state))
      (connections_part (plot_in lent).places stand_long lent.connections (held_in lent.state) (omega (arith, c.held, r.connections_room)) c.held)))

pub parts_of : (lent : Lent) → lent_valid lent ≡ true → Parts lent
unfolding lent_valid tidy zero_behind stand_pass
parts_of lent e =
    let a = both (has_room lent) _ e in
    let b = both (counts_fit lent.state) _ a.1 in
    let v = both (valid (plot_in lent)) (tidy lent) b.1 in
    let w = sym (valid_part lent (room_of lent a.0) (counts_of lent.state b.0)) ∙ v.0 in
    let p = both (opens_with (counter lent.state 0) (take (frontier_count_in lent.state * frontier_width) lent.frontiers)) _ w in
    let q = both (not (is_found (first_out_of_range component_low component_high (blocks_in lent))) && not (is_found (first_repeated (blocks_in lent)))) _ p.1 in
    let f = both (distinct eqb (freed_places_in lent.state) && every (λ k. ltb k (used_in lent.state)) (freed_places_in lent.state)) _ q.1 in
    let t = both (every (is_blank lent.places) (freed_places_in lent.state)) _ v.1 in
    record {
      frame = record { room = a.0; counts = b.0; behind = t.1; opens = p.0 };
      freed = f.0;
      blank = t.0;
      stand = and_true _ _ q.0 f.1;
    }

pub of_parts : (lent : Lent) → Parts lent → lent_valid lent ≡ true
unfolding lent_valid tidy zero_behind stand_pass
of_parts lent p =
    let stand = both (not (is_found (first_out_of_range component_low component_high (blocks_in lent))) && not (is_found (first_repeated (blocks_in lent)))) (connections_pass (blocks_in lent) (held_part lent)) p.stand in
    and_true _ _ p.frame.room
    (and_true _ _ p.frame.counts
    (and_true _ _
    (valid_part lent (room_of lent p.frame.room) (counts_of lent.state p.frame.counts)
    ∙ and_true _ _ p.frame.opens (and_true _ _ stand.0 (and_true _ _ p.freed stand.1)))
    (and_true _ _ p.blank p.frame.behind)))

-- one part fails: the test fails
pub part_fails : (lent : Lent) → (Parts lent → ⊥) → lent_valid lent ≡ false
part_fails lent n = not_true_false (lent_valid lent) (λ e. n (parts_of lent e))

-- ---- marks

pub none_marked : (n k : ℕ) → get_or (replicate n false) k false ≡ false
none_marked zero k = refl
none_marked (suc n) zero = refl
none_marked (suc n) (suc k) = none_marked n k

tabulated_same : (f g : ℕ → Place) (n : ℕ) → ((k : ℕ) → k < n → f k ≡ g k) → tabulate f n ≡ tabulate g n
unfolding tabulate
tabulated_same f g zero h = refl
tabulated_same f g (suc n) h = rw (tabulated_same f g n (λ k b. h k (omega arith)), h n (omega arith))

-- places by marks are the places that are shown
pub marked_blocks : (lent : Lent) (marks : List Bool) → Marks lent.state marks → used_in lent.state ≤ length marks
    → flat (blocks (tabulate (marked_place marks lent.places) (used_in lent.state))) ≡ blocks_in lent
unfolding plot_in
marked_blocks lent marks m h =
    ap (λ (ps : List Place). flat (blocks ps))
    (tabulated_same (marked_place marks lent.places) (place_in (freed_places_in lent.state) lent.places) (used_in lent.state)
    (λ k b. ap (λ (t : Bool). cond t free (taken (record_at component_width lent.places k))) (m.at k (omega arith))))

-- the last part decides
pub last_part : (lent : Lent) (r : Bool) → Frame lent
    → (distinct eqb (freed_places_in lent.state) && every (λ k. ltb k (used_in lent.state)) (freed_places_in lent.state)) ≡ true
    → every (is_blank lent.places) (freed_places_in lent.state) ≡ true → r ≡ stand_pass (blocks_in lent) (held_part lent) → r ≡ lent_valid lent
last_part lent true f d b e = sym (of_parts lent (record { frame = f; freed = d; blank = b; stand = sym e }))
last_part lent false f d b e = sym (part_fails lent (λ p. true_not_false (sym p.stand ∙ sym e)))

-- ---- what is answered

pub none_some : {X : Type 0} {n : ℕ} → ◌≡◌ {A = Option ℕ} None (Some n) → X
none_some e = let z : ◌≡◌ {A = ℕ} 0 1 = cc in absurd (omega arith)

pub some_is : {m n : ℕ} → ◌≡◌ {A = Option ℕ} (Some m) (Some n) → m ≡ n
some_is e = cc

-- the slices cannot be left: no blocks
pub strange : (lent : Lent) {out : List ℤ} → (Parts lent → ⊥) → Standing lent out None
strange lent n = record { left = sym (part_fails lent n); blocks_are = λ n e. none_some e }

pub frame_of : (lent : Lent) → Frame lent → Roomy lent × Counts lent.state
frame_of lent f = (room_of lent f.room, counts_of lent.state f.counts)
