-- Slices that can be left.
--     room_of, of_room         room, by its parts
--     Passes, passes           what slices that pass show
--     lent_back                laying out what they show gives the slices
--     lent_decides             the test of number 18 is right
--     lent_not, lent_eighteen, lent_kept     number 18, and clicks on slices
-- Assumes nothing.
use Rattle.std.specs.Prelude.{⊤, Result, Ok, Err}
use Rattle.lists.specs.declared.Refusal.{Refusal}
use mathlib.Core.Path.{◌≡◌, refl, sym, ap, ◌∙◌, subst}
use mathlib.Core.Bool.{Bool, true, false, cond}
use mathlib.Core.List.{List, [], ◌∷◌, ◌++◌, map, reverse, reverse-reverse}
use Prim.Native.Nat.{ℕ, zero, suc, ◌+◌, ◌*◌, ◌-◌, ◌/◌, ◌≤◌, ◌<◌}
use native.Mathlib.Omega.{arith}
use lib.ListN.{length, get_or, take, drop, replicate, length-append, length-replicate, length-map, length-reverse, length-drop, take-append-drop}
use lib.Seq.{length-take-le, drop-drop}
use lib.Dec.{eqb, leb}
use lib.IntN.{ℤ, pos}
use borrow.Author.Tests.{leb-true, le-leb}
use Rattle.tables.specs.Order.{member}
use Rattle.lists.specs.Limits.{component_limit, connection_limit, frontier_limit, component_width, port_width, frontier_width}
use Rattle.lists.specs.First.{tabulate}
use Rattle.lists.proofs.Search.{both}
use Rattle.lists.proofs.Some.{and_true}
use Rattle.held.specs.Tests.{every}
use Rattle.held.specs.Plot.{Record, Place, free, taken, Plot}
use Rattle.held.specs.Left.{Click, checks_of, effect_of, left_if, Leavable, valid}
use Rattle.held.specs.Laws.{eighteen}
use Rattle.held.specs.Lent.{Lent, flat, padded, blank, slot_of, counts_width, counts_of, laid_state, laid_frontiers, laid_places, laid_connections, layout, record_at, used_in, freed_count_in, held_in, frontier_count_in, freed_places_in, place_in, plot_in, Roomy, LentLeavable, has_room, counts_fit, zeros_from, is_blank, tidy, lent_valid, LentDecides, lent_answer, lent_if, LentKept}
use Rattle.held.proofs.Lists.{every_member}
use Rattle.held.proofs.Sound.{Sound}
use Rattle.held.proofs.Kept.{freed_count}
use Rattle.held.proofs.Reached.{length_tabulate}
use Rattle.held.proofs.Theorems.{leavable_sound, decides, left_again}
use Rattle.held.proofs.Flat.{length_flat, flat_tabulate, zeros_are, nothing_are, padded_is}
use Rattle.held.proofs.Shown.{slots_long, held_long, frontiers_whole, plot_back, counts_pass, tidy_pass}

-- ---- slices that pass are a layout

five_split : (l : List ℕ) → 5 ≤ length l → l ≡ get_or l 0 0 ∷ get_or l 1 0 ∷ get_or l 2 0 ∷ get_or l 3 0 ∷ get_or l 4 0 ∷ drop 5 l
five_split [] h = absurd (omega arith)
five_split (a ∷ []) h = absurd (omega arith)
five_split (a ∷ b ∷ []) h = absurd (omega arith)
five_split (a ∷ b ∷ c ∷ []) h = absurd (omega arith)
five_split (a ∷ b ∷ c ∷ d ∷ []) h = absurd (omega arith)
five_split (a ∷ b ∷ c ∷ d ∷ e ∷ l) h = refl

pub record Passes (lent : Lent) : Type 0 where
  pub room : Roomy lent
  pub used_few : used_in lent.state ≤ component_limit
  pub freed_few : freed_count_in lent.state ≤ component_limit
  pub held_few : held_in lent.state ≤ connection_limit
  pub frontiers_few : frontier_count_in lent.state ≤ frontier_limit
  pub is_valid : valid (plot_in lent) ≡ true
  pub blanks : every (is_blank lent.places) (freed_places_in lent.state) ≡ true
  pub state_zeros : every (eqb 0) (drop (counts_width + freed_count_in lent.state) lent.state) ≡ true
  pub frontier_zeros : zeros_from (frontier_count_in lent.state * frontier_width) lent.frontiers ≡ true
  pub place_zeros : zeros_from (used_in lent.state * component_width) lent.places ≡ true
  pub connection_zeros : zeros_from (held_in lent.state * port_width) lent.connections ≡ true

pub room_of : (lent : Lent) → has_room lent ≡ true → Roomy lent
unfolding has_room
room_of lent e =
    let a = both (leb (counts_width + component_limit) (length lent.state)) _ e in
    let b = both (leb (frontier_limit * frontier_width) (length lent.frontiers)) _ a.1 in
    let c = both (leb (component_limit * component_width) (length lent.places)) _ b.1 in
    record {
      state_room = leb-true _ _ a.0;
      frontiers_room = leb-true _ _ b.0;
      places_room = leb-true _ _ c.0;
      connections_room = leb-true _ _ c.1;
    }

pub of_room : (lent : Lent) → Roomy lent → has_room lent ≡ true
unfolding has_room
of_room lent r =
    and_true _ _ (le-leb _ _ r.state_room)
    (and_true _ _ (le-leb _ _ r.frontiers_room) (and_true _ _ (le-leb _ _ r.places_room) (le-leb _ _ r.connections_room)))

pub passes : (lent : Lent) → lent_valid lent ≡ true → Passes lent
unfolding lent_valid counts_fit tidy
passes lent e =
    let a = both (has_room lent) _ e in
    let b = both (counts_fit lent.state) _ a.1 in
    let c = both (valid (plot_in lent)) (tidy lent) b.1 in
    let p = both (leb (used_in lent.state) component_limit) _ b.0 in
    let q = both (leb (freed_count_in lent.state) component_limit) _ p.1 in
    let r = both (leb (held_in lent.state) connection_limit) _ q.1 in
    let t = both (every (is_blank lent.places) (freed_places_in lent.state)) _ c.1 in
    let u = both (every (eqb 0) (drop (counts_width + freed_count_in lent.state) lent.state)) _ t.1 in
    let v = both (zeros_from (frontier_count_in lent.state * frontier_width) lent.frontiers) _ u.1 in
    let w = both (zeros_from (used_in lent.state * component_width) lent.places) _ v.1 in
    record {
      room = room_of lent a.0;
      used_few = leb-true _ _ p.0;
      freed_few = leb-true _ _ q.0;
      held_few = leb-true _ _ r.0;
      frontiers_few = leb-true _ _ r.1;
      is_valid = c.0;
      blanks = t.0;
      state_zeros = u.0;
      frontier_zeros = v.0;
      place_zeros = w.0;
      connection_zeros = w.1;
    }

module _ (lent : Lent) (p : Passes lent) where
  frontiers_long : length (take (frontier_count_in lent.state * frontier_width) lent.frontiers) ≡ frontier_count_in lent.state * frontier_width
  frontiers_long = length-take-le (frontier_count_in lent.state * frontier_width) lent.frontiers (omega (arith, p.frontiers_few, p.room.frontiers_room))

  freed_long : length (take (freed_count_in lent.state) (drop counts_width lent.state)) ≡ freed_count_in lent.state
  freed_long =
      length-take-le (freed_count_in lent.state) (drop counts_width lent.state) (omega (arith, p.freed_few, p.room.state_room, length-drop counts_width lent.state))

  -- the counts, as they stand
  counts_shown : counts_of (plot_in lent)
      ≡ get_or lent.state 0 0 ∷ get_or lent.state 1 0 ∷ get_or lent.state 2 0 ∷ get_or lent.state 3 0 ∷ get_or lent.state 4 0
      ∷ take (freed_count_in lent.state) (drop counts_width lent.state)
  unfolding plot_in freed_places_in
  counts_shown =
      let one : length (tabulate (place_in (freed_places_in lent.state) lent.places) (used_in lent.state)) ≡ used_in lent.state =
      length_tabulate (place_in (freed_places_in lent.state) lent.places) (used_in lent.state) in
      let two : length (freed_places_in lent.state) ≡ freed_count_in lent.state = length-reverse (take (freed_count_in lent.state) (drop counts_width lent.state)) ∙ freed_long in
      let three : length (tabulate (record_at port_width lent.connections) (held_in lent.state)) ≡ held_in lent.state =
      length_tabulate (record_at port_width lent.connections) (held_in lent.state) in
      let four : length (take (frontier_count_in lent.state * frontier_width) lent.frontiers) / frontier_width ≡ frontier_count_in lent.state = omega (arith, frontiers_long) in
      let five : reverse (freed_places_in lent.state) ≡ take (freed_count_in lent.state) (drop counts_width lent.state) = reverse-reverse (take (freed_count_in lent.state) (drop counts_width lent.state)) in
      λ i. get_or lent.state 0 0 ∷ one i ∷ two i ∷ three i ∷ four i ∷ five i

  state_back : lent.state ≡ laid_state (length lent.state) (plot_in lent)
  unfolding laid_state
  state_back =
      let rest : List ℕ = drop counts_width lent.state in
      let n : ℕ = freed_count_in lent.state in
      let five = five_split lent.state (omega (arith, p.room.state_room)) in
      let zeros : drop n rest ≡ replicate (length lent.state - length (counts_of (plot_in lent))) 0 =
      drop-drop n counts_width lent.state
      ∙ (nothing_are (drop (counts_width + n) lent.state) p.state_zeros
      ∙ ap (λ (k : ℕ). replicate k 0) (size (length-drop (counts_width + n) lent.state) (ap length counts_shown))) in
      five ∙ (ap (λ (t : List ℕ). get_or lent.state 0 0 ∷ get_or lent.state 1 0 ∷ get_or lent.state 2 0 ∷ get_or lent.state 3 0 ∷ get_or lent.state 4 0 ∷ t)
      (sym (take-append-drop n rest) ∙ ap (λ (t : List ℕ). take n rest ++ t) zeros)
      ∙ ap (λ (c : List ℕ). c ++ replicate (length lent.state - length (counts_of (plot_in lent))) 0) (sym counts_shown))
    where
      size : {d : ℕ} → d ≡ length lent.state - (counts_width + freed_count_in lent.state)
          → length (counts_of (plot_in lent)) ≡ suc (suc (suc (suc (suc (length (take (freed_count_in lent.state) (drop counts_width lent.state)))))))
          → d ≡ length lent.state - length (counts_of (plot_in lent))
      size e f = omega (arith, freed_long)

  frontiers_back' : lent.frontiers ≡ laid_frontiers (length lent.frontiers) (plot_in lent)
  unfolding laid_frontiers plot_in
  frontiers_back' = padded_is lent.frontiers (frontier_count_in lent.state * frontier_width) (omega (arith, p.frontiers_few, p.room.frontiers_room)) p.frontier_zeros

  -- the slot of a place is its record
  slot_back : (k : ℕ) → k < used_in lent.state → slot_of (place_in (freed_places_in lent.state) lent.places k) ≡ record_at component_width lent.places k
  unfolding blank
  slot_back k h = go (member k (freed_places_in lent.state)) refl
    where
      long : length (record_at component_width lent.places k) ≡ component_width
      long =
          length-take-le component_width (drop (k * component_width) lent.places)
          (omega (arith, length-drop (k * component_width) lent.places, p.used_few, p.room.places_room))

      go : (b : Bool) → member k (freed_places_in lent.state) ≡ b → slot_of (cond b free (taken (record_at component_width lent.places k))) ≡ record_at component_width lent.places k
      go true m =
          sym (zeros_are (record_at component_width lent.places k) (every_member (is_blank lent.places) (freed_places_in lent.state) p.blanks k m)
          ∙ ap (λ (n : ℕ). replicate n (pos 0)) long)
      go false m = refl

  slots_back : (n : ℕ) → n ≤ used_in lent.state → map slot_of (tabulate (place_in (freed_places_in lent.state) lent.places) n) ≡ tabulate (record_at component_width lent.places) n
  unfolding tabulate
  slots_back zero h = refl
  slots_back (suc n) h =
      map_snoc (tabulate (place_in (freed_places_in lent.state) lent.places) n) (place_in (freed_places_in lent.state) lent.places n)
      ∙ rw (slots_back n (omega arith), slot_back n (omega arith))
    where
      map_snoc : (ps : List Place) (q : Place) → map slot_of (ps ++ (q ∷ [])) ≡ map slot_of ps ++ (slot_of q ∷ [])
      map_snoc [] q = refl
      map_snoc (r ∷ ps) q = ap (λ (t : List Record). slot_of r ∷ t) (map_snoc ps q)

  places_back' : lent.places ≡ laid_places (length lent.places) (plot_in lent)
  unfolding laid_places plot_in
  places_back' =
      padded_is lent.places (used_in lent.state * component_width) (omega (arith, p.used_few, p.room.places_room)) p.place_zeros
      ∙ ap (padded (length lent.places)) (sym (ap flat (slots_back (used_in lent.state) (omega arith)) ∙ flat_tabulate component_width lent.places (used_in lent.state)))

  connections_back' : lent.connections ≡ laid_connections (length lent.connections) (plot_in lent)
  unfolding laid_connections plot_in
  connections_back' =
      padded_is lent.connections (held_in lent.state * port_width) (omega (arith, p.held_few, p.room.connections_room)) p.connection_zeros
      ∙ ap (padded (length lent.connections)) (sym (flat_tabulate port_width lent.connections (held_in lent.state)))

  pub lent_back : lent ≡ layout lent (plot_in lent)
  lent_back = λ i. record { state = state_back i; frontiers = frontiers_back' i; places = places_back' i; connections = connections_back' i }

-- ---- number 18

pub lent_decides : (lent : Lent) → LentDecides lent
unfolding lent_valid
lent_decides lent = (test, left)
  where
    test : LentLeavable lent → lent_valid lent ≡ true
    test l =
        let s = leavable_sound l.left in
        and_true _ _ (of_room lent l.room)
        (and_true _ _ (counts_pass lent l.plot s l.shown)
        (and_true _ _ (subst (λ (q : Plot). valid q ≡ true) (sym (plot_back lent l.plot s l.shown)) ((decides l.plot).0 l.left)) (tidy_pass lent l.plot s l.shown)))

    left : lent_valid lent ≡ true → LentLeavable lent
    left e =
        let p = passes lent e in
        record { plot = plot_in lent; left = (decides (plot_in lent)).1 p.is_valid; room = p.room; shown = lent_back lent p }

-- ---- clicks on slices

-- a layout is as long as the slices
module _ (lent : Lent) (plot : Plot) (s : Sound plot) (r : Roomy lent) where
  long_padded : (n : ℕ) (l : List ℤ) → length l ≤ n → length (padded n l) ≡ n
  long_padded n l h = length-append l (replicate (n - length l) (pos 0)) ∙ omega (arith, length-replicate (n - length l) (pos 0))

  pub long_state : length (laid_state (length lent.state) plot) ≡ length lent.state
  unfolding laid_state
  long_state =
      let few : length plot.freed ≤ component_limit = omega (arith, freed_count plot.freed plot.places s.freed_sound, s.places_sound.few) in
      length-append (counts_of plot) (replicate (length lent.state - length (counts_of plot)) 0)
      ∙ omega (arith, length-replicate {A = ℕ} (length lent.state - length (counts_of plot)) 0, length-reverse plot.freed, few, r.state_room)

  pub long_frontiers : length (laid_frontiers (length lent.frontiers) plot) ≡ length lent.frontiers
  unfolding laid_frontiers
  long_frontiers =
      let whole = frontiers_whole plot.rules plot.frontiers s.opens in
      long_padded (length lent.frontiers) plot.frontiers (omega (arith, whole.0, whole.1, r.frontiers_room))

  pub long_places : length (laid_places (length lent.places) plot) ≡ length lent.places
  unfolding laid_places
  long_places =
      long_padded (length lent.places) (flat (map slot_of plot.places))
      (omega (arith, length_flat component_width (map slot_of plot.places) (slots_long plot.places s.places_sound.fit), length-map plot.places slot_of, s.places_sound.few, r.places_room))

  pub long_connections : length (laid_connections (length lent.connections) plot) ≡ length lent.connections
  unfolding laid_connections
  long_connections =
      long_padded (length lent.connections) (flat plot.connections)
      (omega (arith, length_flat port_width plot.connections (held_long plot.connections s.connections_sound.fit), s.connections_sound.few, r.connections_room))

  pub laid_leavable : Leavable plot → LentLeavable (layout lent plot)
  laid_leavable l =
      record {
        plot = plot;
        left = l;
        room = record {
          state_room = omega (arith, long_state, r.state_room);
          frontiers_room = omega (arith, long_frontiers, r.frontiers_room);
          places_room = omega (arith, long_places, r.places_room);
          connections_room = omega (arith, long_connections, r.connections_room);
        };
        shown = λ i. record {
          state = laid_state (sym long_state i) plot;
          frontiers = laid_frontiers (sym long_frontiers i) plot;
          places = laid_places (sym long_places i) plot;
          connections = laid_connections (sym long_connections i) plot;
        };
      }

module _ (lent : Lent) (click : Click) where
  pub lent_valid_lem : lent_valid lent ≡ true → lent_answer lent click ≡ checks_of (plot_in lent) click
  unfolding lent_answer
  lent_valid_lem e = rw e

  pub lent_not : lent_valid lent ≡ false → lent_answer lent click ≡ Err eighteen
  unfolding lent_answer
  lent_not e = rw e

  -- slices that cannot be left are refused with 18
  pub lent_eighteen : (LentLeavable lent → ⊥) → lent_answer lent click ≡ Err eighteen
  lent_eighteen n = lent_not (none (lent_valid lent) refl)
    where
      none : (b : Bool) → lent_valid lent ≡ b → lent_valid lent ≡ false
      none true e = absurd (n ((lent_decides lent).1 e))
      none false e = e

  pub lent_kept : LentKept lent click
  lent_kept l =
      let v = (lent_decides lent).0 l in
      let p = passes lent v in
      let left : Leavable (plot_in lent) = (decides (plot_in lent)).1 p.is_valid in
      go (lent_answer lent click) (checks_of (plot_in lent) click) refl (lent_valid_lem v) p (left_again left click)
    where
      go : (a c : Result ⊤ Refusal) → checks_of (plot_in lent) click ≡ c → a ≡ checks_of (plot_in lent) click → Passes lent → Leavable (left_if (checks_of (plot_in lent) click) (effect_of (plot_in lent) click) (plot_in lent))
          → LentLeavable (lent_if a (layout lent (effect_of (plot_in lent) click)) lent)
      go (Err r) c q e p after = l
      go (Ok tt) c q e p after =
          let left : Leavable (effect_of (plot_in lent) click) =
          subst (λ (x : Result ⊤ Refusal). Leavable (left_if x (effect_of (plot_in lent) click) (plot_in lent))) (sym e) after in
          laid_leavable lent (effect_of (plot_in lent) click) (leavable_sound left) p.room left
