-- Breaking, in the slices.
--     found_is                         the place of an id
--     ids_natural, ends_natural        no id of a plot that can be left is negative
--     broken_layout                    what the slices hold afterwards
--     break_18, break_17, break_0      the answer
-- Assumes nothing.
use Rattle.std.specs.Prelude.{Option, Some, None, Ok}
use Rattle.lists.specs.declared.Fault.{Fault}
use mathlib.Core.Path.{◌≡◌, refl, sym, ap, ap₂, ◌∙◌, subst}
use mathlib.Core.Bool.{Bool, true, false, ◌&&◌}
use mathlib.Core.List.{List, [], ◌∷◌, ◌++◌}
use Prim.Native.Nat.{◌≤◌, ℕ, ◌+◌, ◌*◌, ◌-◌, ◌<◌}
use native.Mathlib.Omega.{arith}
use lib.ListN.{length, get_or, take, drop, set, replicate, length-drop, length-reverse, replicate-append-replicate}
use lib.Seq.{length-take-le}
use lib.Dec.{T, eqb}
use lib.IntN.{ℤ, pos, nat_abs}
use lib.Signed.{non_neg}
use Rattle.tables.specs.Order.{member}
use Rattle.lists.specs.Limits.{component_limit, component_width, port_width}
use Rattle.lists.specs.Signed.{at, in_range}
use Rattle.lists.specs.Records.{natural_at}
use Rattle.lists.specs.Ranges.{record_in_range, port_low, port_high}
use Rattle.lists.specs.First.{is_found, first_from, tabulate}
use Rattle.lists.proofs.Search.{both, all_at}
use Rattle.lists.proofs.Signed.{range_non_neg}
use Rattle.held.specs.Tests.{every, keep}
use Rattle.held.specs.Plot.{is_present, Record, Place, free, taken, present, place_of, holds, clear_of, broken_at, breaking, fits, connection_fits}
use Rattle.held.specs.Left.{break}
use Rattle.held.specs.Lent.{Lent, flat, counts_width, record_at, used_in, freed_count_in, held_in, freed_places_in, place_in, plot_in, laid_state, laid_places, laid_frontiers, laid_connections, layout, lent_valid, lent_answer, is_blank}
use Rattle.held.specs.Writes.{freed_state, cleared_places, id_in, IdsNatural, EndsNatural, kept_of, Dropped}
use Rattle.held.proofs.Lists.{every_member, every_keep}
use Rattle.held.proofs.Places.{Stands, place_found, taken_below, count_set_free}
use Rattle.held.proofs.Sound.{Sound, sound_of_valid}
use Rattle.held.proofs.Kept.{freed_count}
use Rattle.held.proofs.Reached.{length_tabulate, get_or_tabulate}
use Rattle.held.proofs.Flat.{Long, length_flat, zeros_are}
use Rattle.held.proofs.LentLaws.{Passes, passes, lent_back}
use Rattle.held.proofs.Shown.{slots_long, held_long}
use Rattle.held.proofs.SceneLaws.{every_get_or}
use Rattle.held.proofs.InspectLaws.{and_last}
use Rattle.held.proofs.WriteLaws.{free_state, free_places}
use Rattle.held.proofs.EntryLaws.{first_same, id_natural, refusal}
use Rattle.held.proofs.DropLaws.{record_field, record_first}

and_no : (b : Bool) → (b && false) ≡ false
and_no true = refl
and_no false = refl

-- a field that ranges from 0 is not negative
pub port_natural : (r : Record) → connection_fits r ≡ true → T (non_neg (at r 0)) × T (non_neg (at r 2))
unfolding fits record_in_range
port_natural r e =
    let f = (both (eqb (length r) (length port_low)) (record_in_range port_low port_high r 0) e).1 in
    let field : (g : ℕ) → g < 5 → in_range (at port_low g) (at port_high g) (at r (0 + g)) ≡ true = λ g b. all_at (λ g. in_range (at port_low g) (at port_high g) (at r (0 + g))) 0 5 f g (omega arith) (omega arith) in
    (range_non_neg (at r 0) (pos 4294967295) (field 0 (omega arith)), range_non_neg (at r 2) (pos 4294967295) (field 2 (omega arith)))

-- where a block stands, one is present
present_some : (ps : List Place) (k : ℕ) (r : Record) → get_or ps k free ≡ taken r → 0 < present ps
present_some ps k r e = omega (arith, count_set_free ps k r e)

module _ (lent : Lent) (v : lent_valid lent ≡ true) where
  p : Passes lent
  p = passes lent v

  s : Sound (plot_in lent)
  s = sound_of_valid (plot_in lent) p.is_valid

  places_shown : (k : ℕ) → k < used_in lent.state → get_or (plot_in lent).places k free ≡ place_in (freed_places_in lent.state) lent.places k
  unfolding plot_in
  places_shown k h = get_or_tabulate (place_in (freed_places_in lent.state) lent.places) (used_in lent.state) k free h

  places_count : length (plot_in lent).places ≡ used_in lent.state
  unfolding plot_in
  places_count = length_tabulate (place_in (freed_places_in lent.state) lent.places) (used_in lent.state)

  holds_is : (id k : ℕ) → k < used_in lent.state → holds id (get_or (plot_in lent).places k free) ≡ id_in lent.state lent.places id k
  holds_is id k h = ap (holds id) (places_shown k h) ∙ go (member k (freed_places_in lent.state)) refl
    where
      go : (b : Bool) → member k (freed_places_in lent.state) ≡ b → holds id (place_in (freed_places_in lent.state) lent.places k) ≡ id_in lent.state lent.places id k
      go true m = rw m (sym (and_no (eqb (natural_at lent.places (k * component_width)) id)))
      go false m =
          rw m
          (ap (λ (z : ℤ). eqb (nat_abs z) id) (record_first component_width lent.places k (omega arith)) ∙ sym (and_last (eqb (natural_at lent.places (k * component_width)) id)))

  pub found_is : (id : ℕ) → place_of (plot_in lent).places id ≡ first_from (id_in lent.state lent.places id) 0 (used_in lent.state)
  unfolding place_of
  found_is id =
      ap (first_from (λ k. holds id (get_or (plot_in lent).places k free)) 0) places_count
      ∙ first_same (λ k. holds id (get_or (plot_in lent).places k free)) (id_in lent.state lent.places id) 0 (used_in lent.state) (λ k a b. holds_is id k (omega arith))

  -- and whether it is present, as the search says
  pub present_by : (id id' : ℕ) (found : Option ℕ) (b : Bool) → id ≡ id' → found ≡ first_from (id_in lent.state lent.places id) 0 (used_in lent.state) → is_found found ≡ b
      → is_present (plot_in lent).places id' ≡ b
  present_by id id' found b same e f = ap (is_present (plot_in lent).places) (sym same) ∙ (ap is_found (found_is id) ∙ (ap is_found (sym e) ∙ f))

  -- what the search asks of the state
  pub state_room : counts_width + freed_count_in lent.state ≤ length lent.state
  state_room = omega (arith, p.room.state_room, p.freed_few)

  pub places_room : used_in lent.state * component_width ≤ length lent.places
  places_room = omega (arith, p.room.places_room, p.used_few)

  pub ids_natural : IdsNatural lent.places (used_in lent.state)
  ids_natural = record { at_place = λ k h. go k h (member k (freed_places_in lent.state)) refl }
    where
      first : (k : ℕ) → at (record_at component_width lent.places k) 0 ≡ at lent.places (k * component_width)
      first k = record_first component_width lent.places k (omega arith)

      go : (k : ℕ) → k < used_in lent.state → (b : Bool) → member k (freed_places_in lent.state) ≡ b → T (non_neg (at lent.places (k * component_width)))
      go k h true m =
          let block : Record = record_at component_width lent.places k in
          let long : length block ≡ component_width = length-take-le component_width (drop (k * component_width) lent.places) (omega (arith, length-drop (k * component_width) lent.places, p.used_few, p.room.places_room)) in
          let zero_is : block ≡ replicate component_width (pos 0) =
          zeros_are block (every_member (is_blank lent.places) (freed_places_in lent.state) p.blanks k m) ∙ ap (λ (n : ℕ). replicate n (pos 0)) long in
          subst (λ (z : ℤ). T (non_neg z)) (sym (ap (λ (r : Record). at r 0) zero_is) ∙ first k) tt
      go k h false m =
          subst (λ (z : ℤ). T (non_neg z)) (first k)
          (id_natural (record_at component_width lent.places k) (s.places_sound.fit k (record_at component_width lent.places k) (places_shown k h ∙ rw m)))

  pub connections_shown : (plot_in lent).connections ≡ tabulate (record_at port_width lent.connections) (held_in lent.state)
  unfolding plot_in
  connections_shown = refl

  wire_fits : (k : ℕ) → k < held_in lent.state → connection_fits (record_at port_width lent.connections k) ≡ true
  wire_fits k h =
      let all : every connection_fits (tabulate (record_at port_width lent.connections) (held_in lent.state)) ≡ true = subst (λ (cs : List Record). every connection_fits cs ≡ true) connections_shown s.connections_sound.fit in
      subst (λ (r : Record). connection_fits r ≡ true) (get_or_tabulate (record_at port_width lent.connections) (held_in lent.state) k [] h)
      (every_get_or connection_fits (tabulate (record_at port_width lent.connections) (held_in lent.state)) all k (omega (arith, length_tabulate (record_at port_width lent.connections) (held_in lent.state))))

  pub ends_natural : EndsNatural lent.connections (held_in lent.state)
  ends_natural =
      record {
        source = λ k h. subst (λ (z : ℤ). T (non_neg z)) (record_first port_width lent.connections k (omega arith)) (port_natural (record_at port_width lent.connections k) (wire_fits k h)).0;
        sink = λ k h. subst (λ (z : ℤ). T (non_neg z)) (record_field port_width lent.connections k 2 (omega arith)) (port_natural (record_at port_width lent.connections k) (wire_fits k h)).1;
      }

  freed_long : length (plot_in lent).freed ≡ freed_count_in lent.state
  unfolding plot_in freed_places_in
  freed_long =
      length-reverse (take (freed_count_in lent.state) (drop counts_width lent.state))
      ∙ length-take-le (freed_count_in lent.state) (drop counts_width lent.state) (omega (arith, p.freed_few, p.room.state_room, length-drop counts_width lent.state))

  -- ---- the slices afterwards

  module _ (id k : ℕ) (found : place_of (plot_in lent).places id ≡ Some k) where
    stands : Stands (plot_in lent).places id k
    stands = place_found (plot_in lent).places id k found

    pub place_used : k < used_in lent.state
    place_used = omega (arith, taken_below (plot_in lent).places k stands.block stands.here, places_count)

    -- a place is taken, so that not all are freed
    pub freed_room : freed_count_in lent.state < component_limit
    freed_room =
        let all = freed_count (plot_in lent).freed (plot_in lent).places s.freed_sound in
        let some = present_some (plot_in lent).places k stands.block stands.here in
        let freed : length (plot_in lent).freed ≡ freed_count_in lent.state = freed_long in
        omega (arith, all, some, s.places_sound.few)

    state_after : (r : ℕ) → r ≡ length (keep (clear_of id) (plot_in lent).connections) → set (freed_state lent.state k) 3 r ≡ laid_state (length lent.state) (broken_at (plot_in lent) id (Some k))
    unfolding laid_state
    state_after r e =
        let now : lent.state ≡ laid_state (length lent.state) (plot_in lent) = ap (λ (l : Lent). l.state) (lent_back lent p) in
        ap (λ (l : List ℕ). set (freed_state l k) 3 r) now
        ∙ (ap (λ (l : List ℕ). set l 3 r)
        (free_state (plot_in lent).rules (plot_in lent).frontiers (plot_in lent).connections (length lent.state) (plot_in lent).places (plot_in lent).freed k (omega (arith, freed_room, freed_long, p.room.state_room)))
        ∙ ap (set (laid_state (length lent.state) (record { rules = (plot_in lent).rules; frontiers = (plot_in lent).frontiers; places = set (plot_in lent).places k free; freed = k ∷ (plot_in lent).freed; connections = (plot_in lent).connections })) 3) e)

    places_after : cleared_places lent.places k ≡ laid_places (length lent.places) (broken_at (plot_in lent) id (Some k))
    unfolding laid_places
    places_after =
        let now : lent.places ≡ laid_places (length lent.places) (plot_in lent) = ap (λ (l : Lent). l.places) (lent_back lent p) in
        ap (λ (l : List ℤ). cleared_places l k) now
        ∙ free_places (plot_in lent).rules (plot_in lent).frontiers (plot_in lent).connections (length lent.places) (plot_in lent).places (plot_in lent).freed k
        (slots_long (plot_in lent).places s.places_sound.fit) (taken_below (plot_in lent).places k stands.block stands.here)

    kept_same : kept_of lent.connections (held_in lent.state) id ≡ keep (clear_of id) (plot_in lent).connections
    kept_same = ap (keep (clear_of id)) (sym connections_shown)

    kept_long : Long port_width (keep (clear_of id) (plot_in lent).connections)
    kept_long = held_long (keep (clear_of id) (plot_in lent).connections) (every_keep connection_fits (clear_of id) connection_fits (λ x a b. a) (plot_in lent).connections s.connections_sound.fit)

    connections_after : (list : List ℤ) (r : ℕ) → Dropped lent.connections list (held_in lent.state) id r → list ≡ laid_connections (length lent.connections) (broken_at (plot_in lent) id (Some k))
    unfolding laid_connections
    connections_after list r d =
        let h : ℕ = held_in lent.state * port_width in
        let n : ℕ = length lent.connections in
        let kept : List Record = keep (clear_of id) (plot_in lent).connections in
        let behind : drop h lent.connections ≡ replicate (n - h) (pos 0) = zeros_are (drop h lent.connections) p.connection_zeros ∙ ap (λ (k : ℕ). replicate k (pos 0)) (length-drop h lent.connections) in
        let long : length (flat kept) ≡ r * port_width = length_flat port_width kept kept_long ∙ ap (λ (k : ℕ). k * port_width) (ap length (sym kept_same) ∙ sym d.count_is) in
        let total : (held_in lent.state - r) * port_width + (n - h) ≡ n - length (flat kept) = omega (arith, d.few, p.held_few, p.room.connections_room) in
        d.list_is
        ∙ (ap₂ ◌++◌ (ap flat kept_same)
        (ap (λ (t : List ℤ). replicate ((held_in lent.state - r) * port_width) (pos 0) ++ t) behind ∙ (replicate-append-replicate ((held_in lent.state - r) * port_width) (n - h) (pos 0) ∙ ap (λ (k : ℕ). replicate k (pos 0)) total)))

    -- the four slices
    pub broken_layout : (list : List ℤ) (r : ℕ) → Dropped lent.connections list (held_in lent.state) id r
        → record { state = set (freed_state lent.state k) 3 r; frontiers = lent.frontiers; places = cleared_places lent.places k; connections = list } ≡ layout lent (broken_at (plot_in lent) id (Some k))
    unfolding laid_frontiers
    broken_layout list r d =
        λ i. record {
          state = state_after r (d.count_is ∙ ap length kept_same) i;
          frontiers = ap (λ (l : Lent). l.frontiers) (lent_back lent p) i;
          places = places_after i;
          connections = connections_after list r d i;
        }

-- ---- the answer

module _ (lent : Lent) (id : ℕ) where
  pub break_18 : lent_valid lent ≡ false → lent_answer lent (break id) ≡ refusal Fault.StrangePlot None
  unfolding lent_answer
  break_18 v = rw v

  pub break_17 : lent_valid lent ≡ true → place_of (plot_in lent).places id ≡ None → lent_answer lent (break id) ≡ refusal Fault.AbsentId None
  unfolding lent_answer breaking
  break_17 v e = rw (v, e)

  pub break_0 : (k : ℕ) → lent_valid lent ≡ true → place_of (plot_in lent).places id ≡ Some k → lent_answer lent (break id) ≡ Ok tt
  unfolding lent_answer breaking
  break_0 k v e = rw (v, e)
