-- A layout shows the plot that was laid out, and passes the test of number 18.
--     fits_long, slots_long, held_long      the records of a sound plot
--     plot_back                             reading a layout gives the plot
--     lent_valid_lem                        the layout of a sound plot passes
-- Assumes nothing.
use Rattle.std.specs.Prelude.{Some, None, Ok}
use Rattle.lists.specs.declared.Fault.{Fault}
use Rattle.lists.specs.declared.Section.{Section}
use Rattle.checks.specs.Refusals.{strange_rules}
use mathlib.Core.Path.{◌≡◌, refl, sym, ap, ◌∙◌, subst}
use mathlib.Core.Bool.{Bool, true, false, cond}
use mathlib.Core.List.{List, [], ◌∷◌, ◌++◌, map, reverse, reverse-reverse}
use Prim.Native.Nat.{ℕ, suc, ◌+◌, ◌*◌, ◌-◌, ◌/◌, ◌≤◌, ◌<◌}
use native.Mathlib.Omega.{arith}
use lib.ListN.{length, get_or, take, drop, replicate, length-map, length-reverse, get_or-map}
use lib.Seq.{ext_get_or, take_at, drop_at}
use lib.Dec.{eqb, leb}
use lib.IntN.{ℤ, pos}
use borrow.Author.Tests.{eqb-true, le-leb}
use Rattle.tables.specs.Order.{member}
use Rattle.lists.specs.Limits.{component_limit, connection_limit, frontier_limit, component_width, port_width, frontier_width}
use Rattle.lists.specs.Ranges.{record_in_range, first_out_of_range, frontier_low, frontier_high}
use Rattle.lists.specs.First.{tabulate}
use Rattle.lists.proofs.Search.{both}
use Rattle.lists.proofs.Some.{and_true}
use Rattle.checks.specs.Refusals.{refuse, ◌or_else◌, not_whole, too_short}
use Rattle.checks.proofs.Chain.{both_accept}
use Rattle.checks.proofs.Accepts.{refuse_none, whole_few, whole_all}
use Rattle.held.specs.Tests.{every}
use Rattle.held.specs.Plot.{Record, Place, free, taken, Plot, at, fits, block_fits, connection_fits, opening}
use Rattle.held.specs.Lent.{Lent, flat, padded, blank, slot_of, counts_width, counts_of, laid_state, laid_frontiers, laid_places, laid_connections, layout, record_at, counter, used_in, freed_count_in, held_in, frontier_count_in, freed_places_in, place_in, plot_in, counts_fit, zeros_from, is_blank, tidy}
use Rattle.held.proofs.Lists.{true_not_false, member_every}
use Rattle.held.proofs.Sound.{Sound}
use Rattle.held.proofs.Kept.{freed_count}
use Rattle.held.proofs.Reached.{length_tabulate, get_or_tabulate}
use Rattle.held.proofs.Flat.{Long, length_flat, record_flat, are_zeros, are_nothing}

-- ---- the records of a sound plot

pub fits_long : (low high : List ℤ) (r : Record) → fits low high r ≡ true → length r ≡ length low
unfolding fits
fits_long low high r e = eqb-true (length r) (length low) (both (eqb (length r) (length low)) (record_in_range low high r 0) e).0

blank_long : length blank ≡ component_width
unfolding blank
blank_long = refl

pub slots_long : (ps : List Place) → ((k : ℕ) (r : Record) → at ps k ≡ taken r → block_fits r ≡ true) → Long component_width (map slot_of ps)
slots_long [] fit = tt
slots_long (free ∷ ps) fit = (blank_long, slots_long ps (λ k r e. fit (suc k) r e))
slots_long (taken b ∷ ps) fit = (fits_long _ _ b (fit 0 b refl), slots_long ps (λ k r e. fit (suc k) r e))

pub held_long : (cs : List Record) → every connection_fits cs ≡ true → Long port_width cs
unfolding every
held_long [] e = tt
held_long (c ∷ cs) e =
    let p = both (connection_fits c) (every connection_fits cs) e in
    (fits_long _ _ c p.0, held_long cs p.1)

pub frontiers_whole : (rules : ℕ) (fs : List ℤ) → opening rules fs true ≡ Ok tt → (length fs / frontier_width * frontier_width ≡ length fs) × (length fs / frontier_width ≤ frontier_limit)
unfolding opening
frontiers_whole rules fs e =
    let first = both_accept (refuse Fault.UnknownRules None (strange_rules rules)) _ e in
    let second = both_accept (refuse Fault.ListLength (Some Section.Frontiers) (not_whole frontier_width frontier_limit (length fs))) (refuse Fault.ShortSlice None (too_short true) or_else refuse Fault.OutOfRange (Some Section.Frontiers) (first_out_of_range frontier_low frontier_high fs)) first.1 in
    let whole : not_whole frontier_width frontier_limit (length fs) ≡ None = refuse_none Fault.ListLength (Some Section.Frontiers) (not_whole frontier_width frontier_limit (length fs)) second.0 in
    (omega (arith, whole_all frontier_width frontier_limit (length fs) whole), whole_few frontier_width frontier_limit (length fs) whole)

-- ---- a layout shows the plot that was laid out

module _ (lent : Lent) (plot : Plot) (s : Sound plot) (shown : lent ≡ layout lent plot) where
  state_is : lent.state ≡ counts_of plot ++ replicate (length lent.state - length (counts_of plot)) 0
  unfolding laid_state
  state_is = ap (λ (l : Lent). l.state) shown

  frontiers_are : lent.frontiers ≡ padded (length lent.frontiers) plot.frontiers
  unfolding laid_frontiers
  frontiers_are = ap (λ (l : Lent). l.frontiers) shown

  places_are : lent.places ≡ padded (length lent.places) (flat (map slot_of plot.places))
  unfolding laid_places
  places_are = ap (λ (l : Lent). l.places) shown

  connections_are : lent.connections ≡ padded (length lent.connections) (flat plot.connections)
  unfolding laid_connections
  connections_are = ap (λ (l : Lent). l.connections) shown

  used_is : used_in lent.state ≡ length plot.places
  used_is = ap (λ (l : List ℕ). used_in l) state_is

  freed_count_is : freed_count_in lent.state ≡ length plot.freed
  freed_count_is = ap (λ (l : List ℕ). freed_count_in l) state_is

  held_is : held_in lent.state ≡ length plot.connections
  held_is = ap (λ (l : List ℕ). held_in l) state_is

  frontier_count_is : frontier_count_in lent.state ≡ length plot.frontiers / frontier_width
  frontier_count_is = ap (λ (l : List ℕ). frontier_count_in l) state_is

  freed_are : freed_places_in lent.state ≡ plot.freed
  unfolding freed_places_in
  freed_are =
      let behind : drop counts_width lent.state ≡ reverse plot.freed ++ replicate (length lent.state - length (counts_of plot)) 0 = ap (λ (l : List ℕ). drop counts_width l) state_is in
      rw (freed_count_is, behind, take_at (reverse plot.freed) (replicate (length lent.state - length (counts_of plot)) 0) (length plot.freed) (length-reverse plot.freed))
      (reverse-reverse plot.freed)

  -- record k of the places
  slot_is : (k : ℕ) → k < length plot.places → record_at component_width lent.places k ≡ slot_of (at plot.places k)
  slot_is k h =
      let n : ℕ = length lent.places - length (flat (map slot_of plot.places)) in
      ap (λ (l : List ℤ). record_at component_width l k) places_are
      ∙ (record_flat component_width (map slot_of plot.places) k (replicate n (pos 0)) (slot_of free) (slots_long plot.places s.places_sound.fit) (omega (arith, length-map plot.places slot_of))
      ∙ get_or-map slot_of plot.places k free)

  pub places_back : tabulate (place_in (freed_places_in lent.state) lent.places) (used_in lent.state) ≡ plot.places
  places_back =
      rw (freed_are, used_is)
      (ext_get_or free (tabulate (place_in plot.freed lent.places) (length plot.places)) plot.places (length_tabulate (place_in plot.freed lent.places) (length plot.places))
      (λ k b. each k (omega (arith, length_tabulate (place_in plot.freed lent.places) (length plot.places)))))
    where
      each : (k : ℕ) → k < length plot.places → at (tabulate (place_in plot.freed lent.places) (length plot.places)) k ≡ at plot.places k
      each k h = get_or_tabulate (place_in plot.freed lent.places) (length plot.places) k free h ∙ go (member k plot.freed) refl (at plot.places k) refl
        where
          go : (b : Bool) → member k plot.freed ≡ b → (p : Place) → at plot.places k ≡ p → cond b free (taken (record_at component_width lent.places k)) ≡ at plot.places k
          go true m p e = sym (s.freed_sound.frees k m)
          go false m free e = true_not_false (sym (s.freed_sound.all k h e) ∙ m)
          go false m (taken r) e = ap taken (slot_is k h ∙ ap slot_of e) ∙ sym e

  pub connections_back : tabulate (record_at port_width lent.connections) (held_in lent.state) ≡ plot.connections
  connections_back =
      rw held_is
      (ext_get_or [] (tabulate (record_at port_width lent.connections) (length plot.connections)) plot.connections (length_tabulate (record_at port_width lent.connections) (length plot.connections))
      (λ k b. each k (omega (arith, length_tabulate (record_at port_width lent.connections) (length plot.connections)))))
    where
      each : (k : ℕ) → k < length plot.connections → get_or (tabulate (record_at port_width lent.connections) (length plot.connections)) k [] ≡ get_or plot.connections k []
      each k h =
          let n : ℕ = length lent.connections - length (flat plot.connections) in
          get_or_tabulate (record_at port_width lent.connections) (length plot.connections) k [] h
          ∙ (ap (λ (l : List ℤ). record_at port_width l k) connections_are
          ∙ record_flat port_width plot.connections k (replicate n (pos 0)) [] (held_long plot.connections s.connections_sound.fit) h)

  pub frontiers_back : take (frontier_count_in lent.state * frontier_width) lent.frontiers ≡ plot.frontiers
  frontiers_back =
      let whole = frontiers_whole plot.rules plot.frontiers s.opens in
      ap (λ (l : List ℤ). take (frontier_count_in lent.state * frontier_width) l) frontiers_are
      ∙ take_at plot.frontiers (replicate (length lent.frontiers - length plot.frontiers) (pos 0)) (frontier_count_in lent.state * frontier_width) (rw frontier_count_is (sym whole.0))

  pub plot_back : plot_in lent ≡ plot
  unfolding plot_in
  plot_back =
      λ i. record {
        rules = ap (λ (l : List ℕ). counter l 0) state_is i;
        frontiers = frontiers_back i;
        places = places_back i;
        freed = freed_are i;
        connections = connections_back i;
      }

  -- the layout passes the test
  pub counts_pass : counts_fit lent.state ≡ true
  unfolding counts_fit
  counts_pass =
      and_true _ _ (subst (λ (n : ℕ). leb n component_limit ≡ true) (sym used_is) (le-leb (length plot.places) component_limit s.places_sound.few))
      (and_true _ _ (subst (λ (n : ℕ). leb n component_limit ≡ true) (sym freed_count_is) (le-leb (length plot.freed) component_limit freed_few))
      (and_true _ _ (subst (λ (n : ℕ). leb n connection_limit ≡ true) (sym held_is) (le-leb (length plot.connections) connection_limit s.connections_sound.few))
      (subst (λ (n : ℕ). leb n frontier_limit ≡ true) (sym frontier_count_is)
      (le-leb (length plot.frontiers / frontier_width) frontier_limit (frontiers_whole plot.rules plot.frontiers s.opens).1))))
    where
      freed_few : length plot.freed ≤ component_limit
      freed_few = omega (arith, freed_count plot.freed plot.places s.freed_sound, s.places_sound.few)

  -- behind what is laid out stand zeros
  zeros_behind : (laid : List ℤ) (list : List ℤ) (m : ℕ) → list ≡ padded (length list) laid → length laid ≡ m → zeros_from m list ≡ true
  zeros_behind laid list m e l =
      let rest : drop m list ≡ replicate (length list - length laid) (pos 0) =
      ap (λ (t : List ℤ). drop m t) e ∙ drop_at laid (replicate (length list - length laid) (pos 0)) m l in
      rw rest (are_zeros (length list - length laid))

  pub tidy_pass : tidy lent ≡ true
  unfolding tidy
  tidy_pass =
      and_true _ _ blanks
      (and_true _ _ state_behind
      (and_true _ _
      (zeros_behind plot.frontiers lent.frontiers (frontier_count_in lent.state * frontier_width) frontiers_are
      (sym (frontiers_whole plot.rules plot.frontiers s.opens).0 ∙ ap (λ (n : ℕ). n * frontier_width) (sym frontier_count_is)))
      (and_true _ _
      (zeros_behind (flat (map slot_of plot.places)) lent.places (used_in lent.state * component_width) places_are
      (length_flat component_width (map slot_of plot.places) (slots_long plot.places s.places_sound.fit)
      ∙ ap (λ (n : ℕ). n * component_width) (length-map plot.places slot_of ∙ sym used_is)))
      (zeros_behind (flat plot.connections) lent.connections (held_in lent.state * port_width) connections_are
      (length_flat port_width plot.connections (held_long plot.connections s.connections_sound.fit) ∙ ap (λ (n : ℕ). n * port_width) (sym held_is))))))
    where
      blanks : every (is_blank lent.places) (freed_places_in lent.state) ≡ true
      blanks =
          rw freed_are
          (member_every (is_blank lent.places) plot.freed
          (λ k m.
          let b : record_at component_width lent.places k ≡ blank = slot_is k (s.freed_sound.used k m) ∙ ap slot_of (s.freed_sound.frees k m) in
          rw b (unfold blank in are_zeros component_width)))

      state_behind : every (eqb 0) (drop (counts_width + freed_count_in lent.state) lent.state) ≡ true
      state_behind =
          let size : length (counts_of plot) ≡ counts_width + freed_count_in lent.state = omega (arith, freed_count_is, length-reverse plot.freed) in
          let rest : drop (counts_width + freed_count_in lent.state) lent.state ≡ replicate (length lent.state - length (counts_of plot)) 0 =
          ap (λ (t : List ℕ). drop (counts_width + freed_count_in lent.state) t) state_is
          ∙ drop_at (counts_of plot) (replicate (length lent.state - length (counts_of plot)) 0) (counts_width + freed_count_in lent.state) size in
          rw rest (are_nothing (length lent.state - length (counts_of plot)))
