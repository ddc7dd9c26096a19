-- What the clicks use.
--     member_freed              a place of the state is freed
--     one_record                the range of a single record
-- Assumes nothing.
use Rattle.std.specs.Prelude.{Option, ⊤, Some, None, Result, Ok, Err}
use Rattle.lists.specs.declared.Fault.{Fault}
use Rattle.lists.specs.declared.Section.{Section}
use Rattle.lists.specs.declared.Refusal.{Refusal}
use mathlib.Core.Path.{◌≡◌, refl, sym, ap, ◌∙◌, subst}
use mathlib.Core.Bool.{Bool, true, false, not, cond}
use mathlib.Core.List.{List, [], ◌∷◌, ◌++◌, reverse}
use Prim.Native.Nat.{ℕ, zero, suc, ◌+◌, ◌-◌, ◌≤◌, ◌<◌}
use native.Mathlib.Omega.{arith}
use lib.ListN.{length, get_or, take, drop, length-drop, length-reverse}
use lib.Seq.{length-take-le}
use lib.Dec.{T, eqb, ltb}
use lib.IntN.{ℤ, pos, negsuc, nat_abs}
use lib.Signed.{non_neg}
use borrow.Author.Tests.{lt-ltb, le-ltb}
use Rattle.tables.specs.Order.{member}
use Rattle.lists.specs.Limits.{component_limit, component_width, port_width}
use Rattle.lists.specs.Signed.{at, in_range, eq_z}
use Rattle.lists.proofs.Search.{both, all_at}
use Rattle.lists.proofs.Signed.{range_non_neg}
use Rattle.lists.specs.Ranges.{record_in_range, first_out_of_range, component_low, component_high, port_low, port_high}
use Rattle.lists.specs.First.{first_from, is_found}
use Rattle.held.specs.Plot.{Record, Place, present, id_of, is_present, fits, block_fits, connection_fits, fault_at, placing, placed, seat_of, seat}
use Rattle.held.specs.Lent.{Lent, counts_width, used_in, freed_count_in, freed_places_in, place_in, plot_in, lent_valid, lent_answer, laid_state, laid_places, laid_frontiers, laid_connections, layout}
use Rattle.held.specs.Left.{Click, place, checks_of}
use Rattle.held.specs.Writes.{seat_in, seated_state, seated_places}
use Rattle.checks.specs.Refusals.{refuse, ◌or_else◌}
use Rattle.checks.proofs.Chain.{refused_not}
use Rattle.held.proofs.Lists.{member_head, member_tail}
use Rattle.held.proofs.InspectLaws.{seen, seen_more, later}
use Rattle.held.proofs.Sound.{SoundFreed, Sound, sound_of_valid}
use Rattle.held.proofs.Kept.{freed_count, Placing, placing_accepts}
use Rattle.held.proofs.Reached.{length_tabulate}
use Rattle.held.proofs.LentLaws.{Passes, passes, lent_back}
use Rattle.held.proofs.Shown.{fits_long, slots_long}
use Rattle.held.proofs.WriteLaws.{seat_is, seat_state, seat_places}

member_back : (k : ℕ) (xs ys : List ℕ) → member k ys ≡ true → member k (xs ++ ys) ≡ true
member_back k [] ys e = e
member_back k (x ∷ xs) ys e = member_tail k x (xs ++ ys) (member_back k xs ys e)

pub member_freed : (state : List ℕ) → counts_width + freed_count_in state ≤ length state → (i : ℕ) → i < freed_count_in state → member (get_or state (counts_width + i) 0) (freed_places_in state) ≡ true
member_freed state room i h =
    subst (λ (l : List ℕ). member (get_or state (counts_width + i) 0) l ≡ true)
    (sym (later state room (suc i) ∙ ap (λ (l : List ℕ). reverse (drop (suc i) (take (freed_count_in state) (drop counts_width state))) ++ l) (seen_more state room i h)))
    (member_back (get_or state (counts_width + i) 0) (reverse (drop (suc i) (take (freed_count_in state) (drop counts_width state)))) (get_or state (counts_width + i) 0 ∷ seen state i)
    (member_head (get_or state (counts_width + i) 0) (seen state i)))

pub one_connection : (numbers : Record) → length numbers ≡ port_width → connection_fits numbers ≡ not (is_found (first_out_of_range port_low port_high numbers))
unfolding fits first_out_of_range first_from
one_connection numbers e = rw e (go (record_in_range port_low port_high numbers 0))
  where
    go : (b : Bool) → b ≡ not (is_found (cond (not b) (Some 0) None))
    go true = refl
    go false = refl

pub one_record : (numbers : Record) → length numbers ≡ component_width → block_fits numbers ≡ not (is_found (first_out_of_range component_low component_high numbers))
unfolding fits first_out_of_range first_from
one_record numbers e = rw e (go (record_in_range component_low component_high numbers 0))
  where
    go : (b : Bool) → b ≡ not (is_found (cond (not b) (Some 0) None))
    go true = refl
    go false = refl

-- ---- ids that are present, in the slices

-- numbers that are not negative are the same if the natural numbers are
pub same_natural : (a b : ℤ) → T (non_neg a) → T (non_neg b) → eqb (nat_abs a) (nat_abs b) ≡ eq_z a b
same_natural (pos a) (pos b) s t = refl
same_natural (pos a) (negsuc b) s t = absurd t
same_natural (negsuc a) b s t = absurd s

-- the id of a component in range is not negative
pub id_natural : (r : Record) → block_fits r ≡ true → T (non_neg (at r 0))
unfolding fits record_in_range
id_natural r e =
    let f = (both (eqb (length r) (length component_low)) (record_in_range component_low component_high r 0) e).1 in
    range_non_neg (at r 0) (pos 4294967295) (all_at (λ g. in_range (at component_low g) (at component_high g) (at r (0 + g))) 0 8 f 0 (omega arith) (omega arith))

pub first_same : (f g : ℕ → Bool) (k n : ℕ) → ((j : ℕ) → k ≤ j → j < k + n → f j ≡ g j) → first_from f k n ≡ first_from g k n
unfolding first_from
first_same f g k zero h = refl
first_same f g k (suc n) h = rw (h k (omega arith) (omega arith), first_same f g (suc k) n (λ j a b. h j (omega arith) (omega arith)))

-- ---- how many are present, by the counts

pub count_is : (lent : Lent) → lent_valid lent ≡ true → (present (plot_in lent).places ≡ used_in lent.state - freed_count_in lent.state) × (freed_count_in lent.state ≤ used_in lent.state)
unfolding plot_in freed_places_in
count_is lent v =
    let p = passes lent v in
    let s = sound_of_valid (plot_in lent) p.is_valid in
    let all = freed_count (plot_in lent).freed (plot_in lent).places s.freed_sound in
    let used : length (plot_in lent).places ≡ used_in lent.state = shown_used lent in
    let freed : length (plot_in lent).freed ≡ freed_count_in lent.state = shown_freed lent p in
    (omega (arith, all), omega (arith, all))
  where
    shown_used : (lent : Lent) → length (plot_in lent).places ≡ used_in lent.state
    shown_used lent = length_tabulate (place_in (freed_places_in lent.state) lent.places) (used_in lent.state)

    shown_freed : (lent : Lent) → Passes lent → length (plot_in lent).freed ≡ freed_count_in lent.state
    shown_freed lent p =
        length-reverse (take (freed_count_in lent.state) (drop counts_width lent.state))
        ∙ length-take-le (freed_count_in lent.state) (drop counts_width lent.state) (omega (arith, p.freed_few, p.room.state_room, length-drop counts_width lent.state))

-- ---- placing: what the slices hold afterwards

-- the answer is Accepted: the slices can be left, and the click's own checks accept
pub accepted_parts : (lent : Lent) (click : Click) → lent_answer lent click ≡ Ok tt → (lent_valid lent ≡ true) × (checks_of (plot_in lent) click ≡ Ok tt)
unfolding lent_answer
accepted_parts lent click e = go (lent_valid lent) refl e
  where
    go : (b : Bool) → lent_valid lent ≡ b → (refuse Fault.StrangePlot None (fault_at 0 (not b)) or_else checks_of (plot_in lent) click) ≡ Ok tt → (lent_valid lent ≡ true) × (checks_of (plot_in lent) click ≡ Ok tt)
    go true v h = (v, h)
    go false v h = absurd (refused_not h)

seat_below : (freed : List ℕ) (ps : List Place) → SoundFreed ps freed → length ps ≤ component_limit → present ps < component_limit → seat_of freed ps < component_limit
seat_below [] ps t few room = omega (arith, freed_count [] ps t)
seat_below (k ∷ freed) ps t few room = omega (arith, t.used k (member_head k freed))

-- the place on top of the freed ones was used
head_used : (freed : List ℕ) (ps : List Place) → SoundFreed ps freed → (k : ℕ) (rest : List ℕ) → freed ≡ k ∷ rest → k < length ps
head_used freed ps t k rest e = t.used k (subst (λ (l : List ℕ). member k l ≡ true) (sym e) (member_head k rest))

-- the state and the places of slices that can be left
module _ (lent : Lent) (numbers : Record) (v : lent_valid lent ≡ true) (a : placing (plot_in lent) numbers ≡ Ok tt) where
  p : Passes lent
  p = passes lent v

  s : Sound (plot_in lent)
  s = sound_of_valid (plot_in lent) p.is_valid

  click : Placing (plot_in lent) numbers
  click = placing_accepts (plot_in lent) numbers a

  state_now : lent.state ≡ laid_state (length lent.state) (plot_in lent)
  state_now = ap (λ (l : Lent). l.state) (lent_back lent p)

  places_now : lent.places ≡ laid_places (length lent.places) (plot_in lent)
  places_now = ap (λ (l : Lent). l.places) (lent_back lent p)

  freed_now : length (plot_in lent).freed ≤ component_limit
  freed_now = omega (arith, freed_count (plot_in lent).freed (plot_in lent).places s.freed_sound, s.places_sound.few)

  pub seat_now : seat_in lent.state ≡ seat (plot_in lent)
  seat_now =
      ap seat_in state_now ∙ seat_is (plot_in lent).rules (plot_in lent).frontiers (plot_in lent).connections (length lent.state) (plot_in lent).places (plot_in lent).freed

  -- the seat is below the limit
  pub seat_few : seat (plot_in lent) < component_limit
  seat_few = seat_below (plot_in lent).freed (plot_in lent).places s.freed_sound s.places_sound.few click.room

  pub numbers_long : length numbers ≡ component_width
  numbers_long = fits_long _ _ numbers click.fit

  pub state_after : seated_state lent.state ≡ laid_state (length lent.state) (placed (plot_in lent) numbers)
  state_after =
      ap seated_state state_now
      ∙ seat_state (plot_in lent).rules (plot_in lent).frontiers (plot_in lent).connections (length lent.state) (plot_in lent).places (plot_in lent).freed numbers
      (omega (arith, freed_now, p.room.state_room))

  pub places_after : seated_places lent.places (seat_in lent.state) numbers ≡ laid_places (length lent.places) (placed (plot_in lent) numbers)
  places_after =
      ap (λ (k : ℕ). seated_places lent.places k numbers) seat_now
      ∙ (ap (λ (l : List ℤ). seated_places l (seat (plot_in lent)) numbers) places_now
      ∙ seat_places (plot_in lent).rules (plot_in lent).frontiers (plot_in lent).connections (length lent.places) (plot_in lent).places (plot_in lent).freed numbers
      (slots_long (plot_in lent).places s.places_sound.fit) (head_used (plot_in lent).freed (plot_in lent).places s.freed_sound) numbers_long p.room.places_room seat_few)

  -- the four slices
  pub placed_layout : record { state = seated_state lent.state; frontiers = lent.frontiers; places = seated_places lent.places (seat_in lent.state) numbers; connections = lent.connections }
      ≡ layout lent (placed (plot_in lent) numbers)
  unfolding laid_frontiers laid_connections
  placed_layout =
      λ i. record {
        state = state_after i;
        frontiers = ap (λ (l : Lent). l.frontiers) (lent_back lent p) i;
        places = places_after i;
        connections = ap (λ (l : Lent). l.connections) (lent_back lent p) i;
      }

-- ---- placing: the answer

abbrev pub refusal : Fault → Option Section → Result ⊤ Refusal
refusal fault list = Err (record { fault = fault; list = list; item = 0 })

module _ (lent : Lent) (numbers : Record) where
  pub answer_18 : lent_valid lent ≡ false → lent_answer lent (place numbers) ≡ refusal Fault.StrangePlot None
  unfolding lent_answer
  answer_18 v = rw v

  pub answer_3 : lent_valid lent ≡ true → block_fits numbers ≡ false → lent_answer lent (place numbers) ≡ refusal Fault.OutOfRange (Some Section.Components)
  unfolding lent_answer placing
  answer_3 v f = rw (v, f)

  pub answer_16 : lent_valid lent ≡ true → block_fits numbers ≡ true → is_present (plot_in lent).places (id_of numbers) ≡ true → lent_answer lent (place numbers) ≡ refusal Fault.PresentId None
  unfolding lent_answer placing
  answer_16 v f here = rw (v, f, here)

  pub answer_15 : lent_valid lent ≡ true → block_fits numbers ≡ true → is_present (plot_in lent).places (id_of numbers) ≡ false
      → component_limit ≤ used_in lent.state - freed_count_in lent.state → lent_answer lent (place numbers) ≡ refusal Fault.FullPlot None
  unfolding lent_answer placing
  answer_15 v f new full =
      let none : ltb (present (plot_in lent).places) component_limit ≡ false = le-ltb (present (plot_in lent).places) component_limit (omega (arith, (count_is lent v).0)) in
      rw (v, f, new, none)

  pub answer_0 : lent_valid lent ≡ true → block_fits numbers ≡ true → is_present (plot_in lent).places (id_of numbers) ≡ false
      → used_in lent.state - freed_count_in lent.state < component_limit → lent_answer lent (place numbers) ≡ Ok tt
  unfolding lent_answer placing
  answer_0 v f new room =
      let some : ltb (present (plot_in lent).places) component_limit ≡ true = lt-ltb (present (plot_in lent).places) component_limit (omega (arith, (count_is lent v).0)) in
      rw (v, f, new, some)
