-- Every click keeps a plot sound.
--     Placing, Connecting, placing_accepts, breaking_accepts, connecting_accepts    what an accepted click says, and
--     accepts_placing, accepts_breaking, accepts_connecting                          what accepts it
--     opened_sound, placed_sound, broken_sound, connected-sound, left_sound, run_sound
--     seat_free, seat_changed               where a placed block goes
--     freed_count                           how many are present, by the freed places
-- Assumes nothing.
use Rattle.std.specs.Prelude.{⊤, Option, Some, None, Result, Ok, Err}
use Rattle.lists.specs.declared.Fault.{Fault}
use Rattle.lists.specs.declared.Section.{Section}
use Rattle.lists.specs.declared.Refusal.{Refusal}
use mathlib.Core.Path.{◌≡◌, refl, sym, ap, ◌∙◌, subst}
use mathlib.Core.Bool.{Bool, true, false, not, cond, ◌&&◌}
use mathlib.Core.List.{List, [], ◌∷◌, ◌++◌}
use mathlib.Core.Logic.{◌⊎◌, inl, inr, ⊎_elim}
use Prim.Native.Nat.{ℕ, suc, ◌+◌, ◌≤◌, ◌<◌}
use native.Mathlib.Omega.{arith}
use lib.ListN.{length, set, length-set, length-append, get_or-eq_default}
use lib.Dec.{eqb, ltb}
use lib.IntN.{ℤ}
use borrow.Author.Tests.{eqb-false, ltb-true, lt-ltb, not-true, not-false}
use Rattle.tables.specs.Order.{member}
use Rattle.lists.specs.Limits.{component_limit, connection_limit}
use Rattle.lists.proofs.Search.{never, both}
use Rattle.lists.proofs.Some.{and_true}
use Rattle.checks.specs.Refusals.{refuse}
use Rattle.checks.proofs.Chain.{both_accept}
use Rattle.checks.proofs.Accepts.{refuse_none}
use Rattle.held.specs.Tests.{every, distinct, keep, same_numbers}
use Rattle.held.specs.Plot.{Record, Place, free, taken, Plot, at, present, id_of, source_of, sink_of, place_of, is_present, fault_at, block_fits, connection_fits, ends_present, opening, opened, placing, placed, seat_of, seated, still_free, breaking, clear_of, broken_at, is_held, connecting, joined}
use Rattle.held.specs.Left.{Click, place, break, connect, checks_of, effect_of, left_if, left_by, run}
use Rattle.held.proofs.Lists.{true_not_false, or_neither, member_head, member_tail, member_cases, distinct_head, distinct_tail, distinct_cons, every_imp, every_keep, every_snoc, distinct_keep, distinct_snoc}
use Rattle.held.proofs.Places.{same_or_not, not_both, same_block, taken_below, Stands, present_at, present_found, absent, place_found, Changed, set_changed, snoc_changed, still_stands, count_all, count_set_taken}
use Rattle.held.proofs.Sound.{SoundFreed, Sound}

-- ---- what an accepted click says

fault_none : (item : ℕ) (wrong : Bool) → fault_at item wrong ≡ None → wrong ≡ false
fault_none item true e = let z : ◌≡◌ {A = ℕ} 0 1 = cc in absurd (omega arith)
fault_none item false e = refl

no_fault : (fault : Fault) (list : Option Section) (item : ℕ) (wrong : Bool) → refuse fault list (fault_at item wrong) ≡ Ok tt → wrong ≡ false
no_fault fault list item wrong e = fault_none item wrong (refuse_none fault list (fault_at item wrong) e)

pub record Placing (plot : Plot) (block : Record) : Type 0 where
  pub fit : block_fits block ≡ true
  pub new : is_present plot.places (id_of block) ≡ false
  pub room : present plot.places < component_limit

pub placing_accepts : (plot : Plot) (block : Record) → placing plot block ≡ Ok tt → Placing plot block
unfolding placing
placing_accepts plot block e =
    let first = both_accept _ _ e in
    let second = both_accept _ _ first.1 in
    record {
      fit = not-false _ (no_fault Fault.OutOfRange (Some Section.Components) 0 _ first.0);
      new = no_fault Fault.PresentId None 0 _ second.0;
      room = ltb-true _ _ (not-false _ (no_fault Fault.FullPlot None 0 _ second.1));
    }

pub accepts_placing : (plot : Plot) (block : Record) → Placing plot block → placing plot block ≡ Ok tt
unfolding placing
accepts_placing plot block p = rw (p.fit, p.new, lt-ltb (present plot.places) component_limit p.room)

pub breaking_accepts : (plot : Plot) (id : ℕ) → breaking plot id ≡ Ok tt → is_present plot.places id ≡ true
unfolding breaking
breaking_accepts plot id e = not-false _ (no_fault Fault.AbsentId None 0 _ e)

pub accepts_breaking : (plot : Plot) (id : ℕ) → is_present plot.places id ≡ true → breaking plot id ≡ Ok tt
unfolding breaking
accepts_breaking plot id e = rw e

pub record Connecting (plot : Plot) (connection : Record) : Type 0 where
  pub fit : connection_fits connection ≡ true
  pub ends : ends_present plot.places connection ≡ true
  pub room : is_held plot connection ≡ false → length plot.connections < connection_limit

pub connecting_accepts : (plot : Plot) (connection : Record) → connecting plot connection ≡ Ok tt → Connecting plot connection
unfolding connecting
connecting_accepts plot connection e =
    let first = both_accept _ _ e in
    let second = both_accept _ _ first.1 in
    record {
      fit = not-false _ (no_fault Fault.OutOfRange (Some Section.Connections) 0 _ first.0);
      ends = not-false _ (no_fault Fault.AbsentId None 0 _ second.0);
      room = λ new.
          let t : (not (is_held plot connection) && not (ltb (length plot.connections) connection_limit)) ≡ false = no_fault Fault.ListLength (Some Section.Connections) connection_limit _ second.1 in
          ltb-true _ _ (not-false _ (rw new at t));
    }

pub accepts_connecting : (plot : Plot) (connection : Record) → connection_fits connection ≡ true → ends_present plot.places connection ≡ true
    → length plot.connections < connection_limit → connecting plot connection ≡ Ok tt
unfolding connecting
accepts_connecting plot connection f e l = rw (f, e, lt-ltb (length plot.connections) connection_limit l) (go (is_held plot connection))
  where
    go : (b : Bool) → refuse Fault.ListLength (Some Section.Connections) (fault_at connection_limit (not b && false)) ≡ Ok tt
    go true = refl
    go false = refl

-- ---- opening

none_member : {X : Type 0} (k : ℕ) → member k [] ≡ true → X
unfolding member
none_member k e = never e

pub opened_sound : (rules : ℕ) (frontiers : List ℤ) → opening rules frontiers true ≡ Ok tt → Sound (opened rules frontiers)
unfolding distinct every
opened_sound rules frontiers e =
    record {
      opens = e;
      places_sound = record { few = omega arith; fit = λ k r h. not_both free r h refl; one = λ j k r s p q i. not_both free r p refl };
      freed_sound = record { once = refl; used = λ k m. none_member k m; frees = λ k m. none_member k m; all = λ k h f. absurd (omega arith) };
      connections_sound = record { few = omega arith; fit = refl; once = refl; ends = refl };
    }

-- ---- placing

-- the seat is free, and only it changes
pub seat_free : (freed : List ℕ) (ps : List Place) → SoundFreed ps freed → at ps (seat_of freed ps) ≡ free
seat_free [] ps s = get_or-eq_default ps free (omega arith)
seat_free (k ∷ freed) ps s = s.frees k (member_head k freed)

pub seat_changed : (freed : List ℕ) (ps : List Place) (r : Record) → SoundFreed ps freed → Changed ps (seated freed ps r) (seat_of freed ps) (taken r)
unfolding seated
seat_changed [] ps r s = snoc_changed ps (taken r)
seat_changed (k ∷ freed) ps r s = set_changed ps k (taken r) (s.used k (member_head k freed))

seat_few : (freed : List ℕ) (ps : List Place) (r : Record) → SoundFreed ps freed → length ps ≤ component_limit → present ps < component_limit
    → length (seated freed ps r) ≤ component_limit
unfolding seated
seat_few [] ps r s l h =
    let full : present ps ≡ length ps = count_all ps (λ k b f. none_member k (s.all k b f)) in
    omega (arith, length-append ps (taken r ∷ []))
seat_few (k ∷ freed) ps r s l h = omega (arith, length-set ps k (taken r))

pub seated_freed : (freed : List ℕ) (ps : List Place) (r : Record) → SoundFreed ps freed → SoundFreed (seated freed ps r) (still_free freed)
unfolding seated still_free
seated_freed [] ps r s = record { once = s.once; used = λ k m. none_member k m; frees = λ k m. none_member k m; all = covers }
  where
    c : Changed ps (ps ++ (taken r ∷ [])) (length ps) (taken r)
    c = snoc_changed ps (taken r)

    covers : (k : ℕ) → k < length (ps ++ (taken r ∷ [])) → at (ps ++ (taken r ∷ [])) k ≡ free → member k [] ≡ true
    covers k h f =
        ⊎_elim
        (λ (same : k ≡ length ps). not_both (at (ps ++ (taken r ∷ [])) (length ps)) r c.here (subst (λ (i : ℕ). at (ps ++ (taken r ∷ [])) i ≡ free) same f))
        (λ (n : k ≡ length ps → ⊥). s.all k (below n) (sym (c.other k n) ∙ f))
        (same_or_not k (length ps))
      where
        below : (k ≡ length ps → ⊥) → k < length ps
        below n = omega (arith, n, simp length-append at h)
seated_freed (q ∷ freed) ps r s =
    record { once = distinct_tail eqb q freed s.once; used = λ k m. rw length-set (s.used k (member_tail k q freed m)); frees = frees; all = covers }
  where
    c : Changed ps (set ps q (taken r)) q (taken r)
    c = set_changed ps q (taken r) (s.used q (member_head q freed))

    frees : (k : ℕ) → member k freed ≡ true → at (set ps q (taken r)) k ≡ free
    frees k m =
        c.other k (λ same. true_not_false (sym m ∙ subst (λ (i : ℕ). member i freed ≡ false) (sym same) (distinct_head q freed s.once)))
        ∙ s.frees k (member_tail k q freed m)

    covers : (k : ℕ) → k < length (set ps q (taken r)) → at (set ps q (taken r)) k ≡ free → member k freed ≡ true
    covers k h f =
        ⊎_elim
        (λ (same : k ≡ q). not_both (at (set ps q (taken r)) q) r c.here (subst (λ (i : ℕ). at (set ps q (taken r)) i ≡ free) same f))
        (λ (n : k ≡ q → ⊥).
        ⊎_elim (λ (same : k ≡ q). absurd (n same)) (λ (m : member k freed ≡ true). m)
        (member_cases k q freed (s.all k (simp length-set at h) (sym (c.other k n) ∙ f))))
        (same_or_not k q)

-- the number present is the number of places used less the freed ones
pub freed_count : (freed : List ℕ) (ps : List Place) → SoundFreed ps freed → length freed + present ps ≡ length ps
unfolding seated still_free
freed_count [] ps s = omega (arith, count_all ps (λ k b f. none_member k (s.all k b f)))
freed_count (q ∷ freed) ps s =
    let more : length freed + present (set ps q (taken [])) ≡ length (set ps q (taken [])) = freed_count freed (set ps q (taken [])) (seated_freed (q ∷ freed) ps [] s) in
    let one : present (set ps q (taken [])) ≡ suc (present ps) = count_set_taken ps q [] (s.used q (member_head q freed)) (s.frees q (member_head q freed)) in
    omega (arith, more, one, length-set ps q (taken []))

-- one place gets a new block
module _ {old new : List Place} {k : ℕ} {r : Record} (c : Changed old new k (taken r)) where
  fill_fit : ((j : ℕ) (s : Record) → at old j ≡ taken s → block_fits s ≡ true) → block_fits r ≡ true → (j : ℕ) (s : Record) → at new j ≡ taken s → block_fits s ≡ true
  fill_fit fit f j s e =
      ⊎_elim
      (λ (same : j ≡ k).
      let here : at new j ≡ taken r = subst (λ (i : ℕ). at new i ≡ taken r) (sym same) c.here in
      subst (λ (x : Record). block_fits x ≡ true) (same_block r s (sym here ∙ e)) f)
      (λ (n : j ≡ k → ⊥). fit j s (sym (c.other j n) ∙ e))
      (same_or_not j k)

  fill_one : ((i j : ℕ) (s t : Record) → at old i ≡ taken s → at old j ≡ taken t → id_of s ≡ id_of t → i ≡ j) → is_present old (id_of r) ≡ false
      → (i j : ℕ) (s t : Record) → at new i ≡ taken s → at new j ≡ taken t → id_of s ≡ id_of t → i ≡ j
  fill_one one none i j s t p q e = go (same_or_not i k) (same_or_not j k)
    where
      -- a block elsewhere with the id of the new one
      clash : (m : ℕ) (x : Record) → (m ≡ k → ⊥) → at new m ≡ taken x → id_of x ≡ id_of r → ⊥
      clash m x n a b = absent old (id_of r) none m (record { block = x; here = sym (c.other m n) ∙ a; named = b })

      new_is : (m : ℕ) (x : Record) → m ≡ k → at new m ≡ taken x → r ≡ x
      new_is m x same a = same_block r x (sym (subst (λ (i : ℕ). at new i ≡ taken r) (sym same) c.here) ∙ a)

      go : (i ≡ k) ⊎ (i ≡ k → ⊥) → (j ≡ k) ⊎ (j ≡ k → ⊥) → i ≡ j
      go (inl a) (inl b) = a ∙ sym b
      go (inl a) (inr b) = absurd (clash j t b q (sym e ∙ sym (ap id_of (new_is i s a p))))
      go (inr a) (inl b) = absurd (clash i s a p (e ∙ sym (ap id_of (new_is j t b q))))
      go (inr a) (inr b) = one i j s t (sym (c.other i a) ∙ p) (sym (c.other j b) ∙ q) e

  -- who was present is present still
  fill_present : at old k ≡ free → (id : ℕ) → is_present old id ≡ true → is_present new id ≡ true
  fill_present f id e =
      let s = present_found old id e in
      present_at new id s.0
      (still_stands c id s.0 (λ same. not_both (at old k) s.1.block (subst (λ (i : ℕ). at old i ≡ taken s.1.block) same s.1.here) f) s.1)

ends_more : (old new : List Place) → ((id : ℕ) → is_present old id ≡ true → is_present new id ≡ true) → (x : Record) → ends_present old x ≡ true → ends_present new x ≡ true
ends_more old new h x e =
    let p = both (is_present old (source_of x)) (is_present old (sink_of x)) e in
    and_true _ _ (h (source_of x) p.0) (h (sink_of x) p.1)

pub placed_sound : (plot : Plot) (block : Record) → Sound plot → Placing plot block → Sound (placed plot block)
placed_sound plot block s p =
    let c = seat_changed plot.freed plot.places block s.freed_sound in
    let f = seat_free plot.freed plot.places s.freed_sound in
    record {
      opens = s.opens;
      places_sound = record {
        few = seat_few plot.freed plot.places block s.freed_sound s.places_sound.few p.room;
        fit = fill_fit c s.places_sound.fit p.fit;
        one = fill_one c s.places_sound.one p.new;
      };
      freed_sound = seated_freed plot.freed plot.places block s.freed_sound;
      connections_sound = record {
        few = s.connections_sound.few;
        fit = s.connections_sound.fit;
        once = s.connections_sound.once;
        ends = every_imp (ends_present plot.places) (ends_present (seated plot.freed plot.places block))
            (ends_more plot.places (seated plot.freed plot.places block) (fill_present c f)) plot.connections s.connections_sound.ends;
      };
    }

-- ---- breaking

module _ {old new : List Place} {k : ℕ} (c : Changed old new k free) where
  clear_stood : (j : ℕ) (s : Record) → at new j ≡ taken s → at old j ≡ taken s
  clear_stood j s e =
      ⊎_elim
      (λ (same : j ≡ k). not_both (at new j) s e (subst (λ (i : ℕ). at new i ≡ free) (sym same) c.here))
      (λ (n : j ≡ k → ⊥). sym (c.other j n) ∙ e)
      (same_or_not j k)

  -- who has another id is present still
  clear_present : (id other : ℕ) → Stands old id k → (other ≡ id → ⊥) → is_present old other ≡ true → is_present new other ≡ true
  clear_present id other here n e =
      let s = present_found old other e in
      present_at new other s.0
      (still_stands c other s.0
      (λ same. n (sym s.1.named ∙ (ap id_of (same_block s.1.block here.block (sym (subst (λ (i : ℕ). at old i ≡ taken s.1.block) same s.1.here) ∙ here.here)) ∙ here.named)))
      s.1)

clear_ends : (id : ℕ) (x : Record) → clear_of id x ≡ true → (source_of x ≡ id → ⊥) × (sink_of x ≡ id → ⊥)
clear_ends id x e =
    let p = or_neither (eqb (source_of x) id) (eqb (sink_of x) id) (not-true _ e) in
    (eqb-false (source_of x) id p.0, eqb-false (sink_of x) id p.1)

keep_few : {A : Type 0} (test : A → Bool) (xs : List A) → length (keep test xs) ≤ length xs
unfolding keep
keep_few test [] = omega arith
keep_few test (x ∷ xs) = go (test x) (keep_few test xs)
  where
    go : (b : Bool) → length (keep test xs) ≤ length xs → length (cond b (x ∷ keep test xs) (keep test xs)) ≤ suc (length xs)
    go true h = omega arith
    go false h = omega arith

pub broken_freed : (ps : List Place) (freed : List ℕ) (k : ℕ) (r : Record) → SoundFreed ps freed → at ps k ≡ taken r → SoundFreed (set ps k free) (k ∷ freed)
broken_freed ps freed k r s e =
    record { once = distinct_cons k freed fresh s.once; used = λ j m. rw length-set (used j (member_cases j k freed m)); frees = λ j m. frees j (member_cases j k freed m); all = covers }
  where
    c : Changed ps (set ps k free) k free
    c = set_changed ps k free (taken_below ps k r e)

    fresh : member k freed ≡ false
    fresh = go (member k freed) refl
      where
        go : (b : Bool) → member k freed ≡ b → member k freed ≡ false
        go true m = not_both (at ps k) r e (s.frees k m)
        go false m = m

    used : (j : ℕ) → (j ≡ k) ⊎ (member j freed ≡ true) → j < length ps
    used j (inl same) = subst (λ (i : ℕ). i < length ps) (sym same) (taken_below ps k r e)
    used j (inr m) = s.used j m

    frees : (j : ℕ) → (j ≡ k) ⊎ (member j freed ≡ true) → at (set ps k free) j ≡ free
    frees j (inl same) = subst (λ (i : ℕ). at (set ps k free) i ≡ free) (sym same) c.here
    frees j (inr m) = c.other j (λ same. not_both (at ps k) r e (subst (λ (i : ℕ). at ps i ≡ free) same (s.frees j m))) ∙ s.frees j m

    covers : (j : ℕ) → j < length (set ps k free) → at (set ps k free) j ≡ free → member j (k ∷ freed) ≡ true
    covers j h f =
        ⊎_elim
        (λ (same : j ≡ k). subst (λ (i : ℕ). member i (k ∷ freed) ≡ true) (sym same) (member_head k freed))
        (λ (n : j ≡ k → ⊥). member_tail j k freed (s.all j (simp length-set at h) (sym (c.other j n) ∙ f)))
        (same_or_not j k)

pub broken_sound : (plot : Plot) (id k : ℕ) → Sound plot → place_of plot.places id ≡ Some k → Sound (broken_at plot id (Some k))
broken_sound plot id k s e =
    let here = place_found plot.places id k e in
    let c = set_changed plot.places k free (taken_below plot.places k here.block here.here) in
    record {
      opens = s.opens;
      places_sound = record {
        few = omega (arith, length-set plot.places k free, s.places_sound.few);
        fit = λ j r h. s.places_sound.fit j r (clear_stood c j r h);
        one = λ i j r t p q h. s.places_sound.one i j r t (clear_stood c i r p) (clear_stood c j t q) h;
      };
      freed_sound = broken_freed plot.places plot.freed k here.block s.freed_sound here.here;
      connections_sound = record {
        few = omega (arith, keep_few (clear_of id) plot.connections, s.connections_sound.few);
        fit = every_keep connection_fits (clear_of id) connection_fits (λ x a b. a) plot.connections s.connections_sound.fit;
        once = distinct_keep same_numbers (clear_of id) plot.connections s.connections_sound.once;
        ends = every_keep (ends_present plot.places) (clear_of id) (ends_present (set plot.places k free)) (kept c here) plot.connections s.connections_sound.ends;
      };
    }
  where
    kept : Changed plot.places (set plot.places k free) k free → Stands plot.places id k → (x : Record) → ends_present plot.places x ≡ true
        → clear_of id x ≡ true → ends_present (set plot.places k free) x ≡ true
    kept c here x a b =
        let p = both (is_present plot.places (source_of x)) (is_present plot.places (sink_of x)) a in
        let q = clear_ends id x b in
        and_true _ _ (clear_present c id (source_of x) here q.0 p.0) (clear_present c id (sink_of x) here q.1 p.1)

-- ---- connecting

pub joined_sound : (plot : Plot) (connection : Record) → Sound plot → Connecting plot connection → is_held plot connection ≡ false → Sound (joined plot connection)
joined_sound plot connection s p new =
    record {
      opens = s.opens;
      places_sound = s.places_sound;
      freed_sound = s.freed_sound;
      connections_sound = record {
        few = omega (arith, length-append plot.connections (connection ∷ []), p.room new);
        fit = every_snoc connection_fits plot.connections connection s.connections_sound.fit p.fit;
        once = distinct_snoc same_numbers plot.connections connection s.connections_sound.once new;
        ends = every_snoc (ends_present plot.places) plot.connections connection s.connections_sound.ends p.ends;
      };
    }

-- ---- any click

effect_sound : (plot : Plot) (click : Click) → Sound plot → checks_of plot click ≡ Ok tt → Sound (effect_of plot click)
effect_sound plot (place block) s e = placed_sound plot block s (placing_accepts plot block e)
effect_sound plot (break id) s e = go (place_of plot.places id) refl
  where
    go : (f : Option ℕ) → place_of plot.places id ≡ f → Sound (broken_at plot id f)
    go (Some k) q = broken_sound plot id k s q
    go None q = s
effect_sound plot (connect connection) s e = go (is_held plot connection) refl
  where
    go : (b : Bool) → is_held plot connection ≡ b → Sound (cond b plot (joined plot connection))
    go true q = s
    go false q = joined_sound plot connection s (connecting_accepts plot connection e) q

pub left_sound : (plot : Plot) (click : Click) → Sound plot → Sound (left_by plot click)
left_sound plot click s = go (checks_of plot click) refl
  where
    go : (c : Result ⊤ Refusal) → checks_of plot click ≡ c → Sound (left_if c (effect_of plot click) plot)
    go (Ok tt) q = effect_sound plot click s q
    go (Err r) q = s

pub run_sound : (plot : Plot) (clicks : List Click) → Sound plot → Sound (run plot clicks)
unfolding run
run_sound plot [] s = s
run_sound plot (click ∷ clicks) s = run_sound (left_by plot click) clicks (left_sound plot click s)
