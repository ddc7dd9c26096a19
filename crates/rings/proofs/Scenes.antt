-- The rings of a scene.
--     numbered_laws          the laws of its signals' regions, by number
--     on_ring_has, has_on_ring, region_rings     the test says whether some component of the region is on a ring
--     scene_laws             what specs/Scene.antt states
--     rings_accepted         the entry's answer, where the checks accept
-- Assumes nothing.
use Rattle.std.specs.Prelude.{Ok}
use mathlib.Core.Path.{◌≡◌, refl, sym, ap, subst, ◌∙◌}
use mathlib.Core.Bool.{Bool, true, false, ◌&&◌, ◌||◌, false≢true, true≢false}
use mathlib.Core.List.{List, [], ◌∷◌}
use mathlib.Core.Logic.{inl, inr, ⊎_elim, ◌↔◌}
use Prim.Native.Nat.{ℕ, ◌≤◌, ◌<◌}
use native.Mathlib.Omega.{arith}
use lib.Dec.{eqb, leb}
use lib.ListN.{length, get_or, drop}
use lib.IntN.{ℤ}
use borrow.Author.Tests.{eqb-true, eq-eqb, ne_eqb, leb-true, le-leb}
use Rattle.sets.specs.Members.{count_below}
use Rattle.tables.specs.Order.{member}
use Rattle.tables.specs.Laws.{order?}
use Rattle.lists.specs.Records.{component, component_count, port_count}
use Rattle.lists.specs.First.{some}
use Rattle.lists.specs.Ids.{smaller_ids, member_of}
use Rattle.lists.proofs.Members.{member_below, count_less}
use Rattle.lists.proofs.Search.{both}
use Rattle.lists.proofs.Some.{some_at, some_found}
use Rattle.regions.proofs.Laws.Lists.{or_right}
use Rattle.regions.specs.Graph.{Both, at}
use Rattle.signals.specs.Signals.{is_signal, source_member, sink_member, signals}
use Rattle.signals.specs.Regions.{labels, region_count, region_of_place, regions_of, is_cyclic}
use Rattle.signals.proofs.Within.{scene_regions}
use Rattle.liveness.specs.Scene.{Scene}
use Rattle.liveness.proofs.Demands.{signals_within, demand_3, region_laid, edge_led, led_edge}
use Rattle.liveness.proofs.Meanings.{asked_below}
use Rattle.rings.specs.Rings.{Steps, Distinct, RingThrough, OnRing, Along, RingOfThree, RingLawsOf, joined, pair_count}
use Rattle.rings.specs.Scene.{Leads, RegionHasRing, members_of_region, has_ring, TwoWayTree, RingSceneLaws}
use Rattle.rings.specs.Entry.{rings_refusal, RingsBy, RingsFound}
use Rattle.rings.specs.declared.Rings.{Rings}
use Rattle.rings.proofs.Closed.{or_cases}
use Rattle.rings.proofs.Laws.{ring_laws, reach_below}
use Rattle.rings.proofs.Named.{Stands, stands_at, standing, edge_leads, leads_edge, ring_leads, ring_along}

module _ (cs ps : List ℤ) (scene : Scene cs ps) where
  -- a member of the region, and the laws from it
  record Numbered (r : ℕ) : Type 0 where
    node : ℕ
    below : node < component_count cs
    is : at (labels cs ps) node ≡ r
    laws : RingLawsOf (component_count cs) (signals cs ps) node (members_of_region cs ps r)

  numbered_laws : (r : ℕ) → r < region_count cs ps → Numbered r
  numbered_laws r h =
      let n = component_count cs in
      let m = (scene_regions cs ps scene.ends).onto r h in
      record {
        node = m.0;
        below = m.1;
        is = m.2;
        laws = subst (λ (q : ℕ). RingLawsOf n (signals cs ps) m.0 (members_of_region cs ps q)) m.2
            (ring_laws n (signals cs ps) (signals_within cs ps scene) m.0 m.1);
      }

  module _ (r : ℕ) (h : r < region_count cs ps) where
    abbrev from : Numbered r
    from = numbered_laws r h

    in_both : (a : ℕ) → a < component_count cs → at (labels cs ps) a ≡ r → Both (signals cs ps) from.node a
    in_both a l e = ((scene_regions cs ps scene.ends).same from.node a from.below l).0 (from.is ∙ sym e)

    both_in : (a : ℕ) → Both (signals cs ps) from.node a → (a < component_count cs) × (at (labels cs ps) a ≡ r)
    both_in a b =
        let l = reach_below (signals_within cs ps scene) b.0 from.below in
        (l, sym (((scene_regions cs ps scene.ends).same from.node a from.below l).1 b) ∙ from.is)

    -- a component of the region on a ring
    pub on_ring_has : (p : ℕ) → p < component_count cs → region_of_place cs ps p ≡ r → OnRing (Leads ps) (component cs p).id → has_ring cs ps r ≡ true
    on_ring_has p l e on =
        let b = in_both (member_of cs p) (member_below cs p l) e in
        let s = stands_at cs ps scene p l in
        from.laws.any.1 (⊎_elim
        (λ ring. inl record { first = member_of cs p; here = b; ring = ring_along cs ps scene s ring })
        (λ self. inr (member_of cs p, b, leads_edge cs ps scene self))
        on)

    pub has_on_ring : has_ring cs ps r ≡ true
        → (p : ℕ) × (p < component_count cs) × (region_of_place cs ps p ≡ r) × OnRing (Leads ps) (component cs p).id
    has_on_ring e = ⊎_elim
        (λ three. at_member three.first three.here (λ i s. inl (ring_leads cs ps scene s three.ring)))
        (λ self. at_member self.0 self.1 (λ i s. inr (edge_leads cs ps scene s s self.2)))
        (from.laws.any.0 e)
      where
        at_member : (a : ℕ) → Both (signals cs ps) from.node a → ((i : ℕ) → Stands cs ps scene a i → OnRing (Leads ps) i)
            → (p : ℕ) × (p < component_count cs) × (region_of_place cs ps p ≡ r) × OnRing (Leads ps) (component cs p).id
        at_member a b on =
            let i = both_in a b in
            let s = (standing cs ps scene a i.0).1 in
            (s.place, s.below, ap (at (labels cs ps)) s.is_member ∙ i.1, subst (OnRing (Leads ps)) (sym s.is_id) (on _ s))

    pub region_rings : {regions : List ℕ} → ((p : ℕ) → p < component_count cs → get_or regions p 0 ≡ region_of_place cs ps p)
        → (has_ring cs ps r ≡ true) ↔ RegionHasRing cs ps regions r
    region_rings laid = (
      λ e. let f = has_on_ring e in record { place = f.0; below = f.1; in_it = laid f.0 f.1 ∙ f.2; on_ring = f.3 },
      λ g. on_ring_has g.place g.below (sym (laid g.place g.below) ∙ g.in_it) g.on_ring,
    )

    -- ---- beside `cyclic`

    abbrev size : ℕ
    size = count_below (members_of_region cs ps r) (component_count cs)

    abbrev pairs : ℕ
    pairs = pair_count (joined (signals cs ps) (members_of_region cs ps r)) (component_count cs)

    three_has : RingOfThree (signals cs ps) from.node → has_ring cs ps r ≡ true
    three_has t = from.laws.any.1 (inl t)

    large_cyclic : 2 ≤ size → is_cyclic cs ps r ≡ true
    unfolding is_cyclic
    large_cyclic l =
        ap (λ (b : Bool). b || some (λ k. is_signal ps k && (eqb (source_member cs ps k) (sink_member cs ps k) && eqb (at (labels cs ps) (sink_member cs ps k)) r)) (port_count ps))
        (le-leb 2 size l)

    cyclic_large : is_cyclic cs ps r ≡ true → has_ring cs ps r ≡ false → 2 ≤ size
    unfolding is_cyclic
    cyclic_large e none = ⊎_elim (leb-true 2 size) (λ s. absurd (true≢false (sym (self s) ∙ none))) (or_cases _ _ e)
      where
        self : some (λ k. is_signal ps k && (eqb (source_member cs ps k) (sink_member cs ps k) && eqb (at (labels cs ps) (sink_member cs ps k)) r)) (port_count ps) ≡ true
            → has_ring cs ps r ≡ true
        self s =
            let f = some_found _ (port_count ps) s in
            let p = both (is_signal ps f.0) _ f.2 in
            let q = both (eqb (source_member cs ps f.0) (sink_member cs ps f.0)) _ p.1 in
            let edge : signals cs ps (sink_member cs ps f.0) (sink_member cs ps f.0) ≡ true =
            ap (λ (a : ℕ). signals cs ps a (sink_member cs ps f.0)) (sym (eqb-true _ _ q.0)) ∙ led_edge cs ps f.0 f.1 p.0 in
            from.laws.any.1 (inr (sink_member cs ps f.0, in_both _ (signals_within cs ps scene _ _ edge).1 (eqb-true _ _ q.1), edge))

    is_tree : is_cyclic cs ps r ≡ true → has_ring cs ps r ≡ false → TwoWayTree cs ps r
    is_tree cyclic none =
        record {
          members = cyclic_large cyclic none;
          two_way = λ v w hv hw rv rw' l.
              let s = stands_at cs ps scene v hv in
              let t = stands_at cs ps scene w hw in
              edge_leads cs ps scene t s (back (member_of cs v) (member_of cs w) (in_both _ (member_below cs v hv) rv) (in_both _ (member_below cs w hw) rw') (leads_edge cs ps scene l));
          no_self = λ v hv rv l. no (on_ring_has v hv rv (inr l));
          tree = omega (arith, from.laws.connected, fewer);
        }
      where
        no : has_ring cs ps r ≡ true → ⊥
        no e = true≢false (sym e ∙ none)

        fewer : pairs < size
        fewer = ⊎_elim (λ (l : size ≤ pairs). absurd (no (three_has (from.laws.three.0 (le-leb size pairs l))))) (λ (l : pairs < size). l) (order? size pairs)

        back : (a b : ℕ) → Both (signals cs ps) from.node a → Both (signals cs ps) from.node b → signals cs ps a b ≡ true → signals cs ps b a ≡ true
        back a b ha hb e = go (signals cs ps b a) refl
          where
            go : (t : Bool) → signals cs ps b a ≡ t → signals cs ps b a ≡ true
            go true f = f
            go false f = absurd (no (three_has (from.laws.one_way a b ha hb e f)))

    tree_none : TwoWayTree cs ps r → has_ring cs ps r ≡ false
    tree_none t = go (has_ring cs ps r) refl
      where
        self : (a : ℕ) → Both (signals cs ps) from.node a → signals cs ps a a ≡ true → ⊥
        self a b e =
            let i = both_in a b in
            let s = stands_at cs ps scene (standing cs ps scene a i.0).1.place (standing cs ps scene a i.0).1.below in
            let q = (standing cs ps scene a i.0).1 in
            t.no_self q.place q.below (ap (at (labels cs ps)) q.is_member ∙ i.1)
            (edge_leads cs ps scene s s (rw q.is_member e))

        go : (b : Bool) → has_ring cs ps r ≡ b → has_ring cs ps r ≡ false
        go false e = e
        go true e = absurd (⊎_elim
            (λ three. omega (arith, t.tree, leb-true size pairs (from.laws.three.1 three)))
            (λ s. self s.0 s.1 s.2)
            (from.laws.any.0 e))

    -- a ring of three has two members
    rise : (x y : ℕ) (l : List ℕ) → Steps (Along (signals cs ps)) x l y → at (labels cs ps) x ≤ at (labels cs ps) y
    rise x y [] e = omega (arith, ap (at (labels cs ps)) e)
    rise x y (z ∷ l) e = omega (arith, (scene_regions cs ps scene.ends).rises x z e.0, rise z y l e.1)

    ring_large : RingOfThree (signals cs ps) from.node → 2 ≤ size
    unfolding member
    ring_large t = go t.ring.rest t.ring.three t.ring.steps t.ring.distinct
      where
        go : (l : List ℕ) → 2 ≤ length l → Steps (Along (signals cs ps)) t.first l t.ring.last → Distinct (t.first ∷ l) → 2 ≤ size
        go [] h s d = absurd (omega arith)
        go (z ∷ l) h s d =
            let n = component_count cs in
            let first = both_in t.first t.here in
            let rises = (scene_regions cs ps scene.ends).rises in
            let same : at (labels cs ps) z ≡ r = omega (arith, rises t.first z s.0, rise z t.ring.last l s.1, rises t.ring.last t.first t.ring.closes, first.1) in
            let one = count_less (λ k. false) (eqb t.first) n (λ k i e. absurd (false≢true e)) t.first first.0 refl (eq-eqb t.first t.first refl) in
            let two =
            count_less (eqb t.first) (members_of_region cs ps r) n (λ k i e. eq-eqb _ _ (ap (at (labels cs ps)) (sym (eqb-true t.first k e)) ∙ first.1)) z
            (signals_within cs ps scene t.first z s.0).1
            (ne_eqb t.first z (λ e. true≢false (sym (ap (λ (b : Bool). b || member t.first l) (eq-eqb t.first z e)) ∙ d.0)))
            (eq-eqb _ _ same) in
            omega arith

    self_cyclic : (a : ℕ) → Both (signals cs ps) from.node a → signals cs ps a a ≡ true → is_cyclic cs ps r ≡ true
    unfolding is_cyclic
    self_cyclic a b e =
        let edge = edge_led cs ps a a e in
        let is = (both_in a b).1 in
        or_right (leb 2 size)
        (some_at _ (port_count ps) edge.k edge.below
        (rw (edge.signal, edge.source, edge.sink) (rw (eq-eqb a a refl, eq-eqb (at (labels cs ps) a) r is) refl)))

    ring_is_cyclic : has_ring cs ps r ≡ true → is_cyclic cs ps r ≡ true
    ring_is_cyclic e = ⊎_elim (λ t. large_cyclic (ring_large t)) (λ s. self_cyclic s.0 s.1 s.2) (from.laws.any.0 e)

  -- ---- a ring's region

  -- the region of an id
  abbrev lies : ℕ → ℕ
  lies i = at (labels cs ps) (smaller_ids cs i)

  leads_up : {i j : ℕ} → Leads ps i j → lies i ≤ lies j
  leads_up l = (scene_regions cs ps scene.ends).rises _ _ (leads_edge cs ps scene l)

  steps_up : (i j : ℕ) (k : List ℕ) → Steps (Leads ps) i k j → lies i ≤ lies j
  steps_up i j [] e = omega (arith, ap lies e)
  steps_up i j (z ∷ k) e = omega (arith, leads_up e.0, steps_up z j k e.1)

  between : (i j : ℕ) (k : List ℕ) → Steps (Leads ps) i k j → (a : ℕ) → member a k ≡ true → (lies i ≤ lies a) × (lies a ≤ lies j)
  unfolding member
  between i j [] e a m = absurd (false≢true m)
  between i j (z ∷ k) e a m = ⊎_elim
      (λ q.
      let is : lies a ≡ lies z = ap lies (eqb-true a z q) in
      (omega (arith, leads_up e.0), omega (arith, steps_up z j k e.1)))
      (λ q. let rest = between z j k e.1 a q in (omega (arith, leads_up e.0, rest.0), rest.1))
      (or_cases (eqb a z) (member a k) m)

  one_region : (v w : ℕ) (ring : RingThrough (Leads ps) (component cs v).id) → member (component cs w).id ring.rest ≡ true
      → region_of_place cs ps w ≡ region_of_place cs ps v
  one_region v w ring m =
      let b = between (component cs v).id ring.last ring.rest ring.steps (component cs w).id m in
      omega (arith, b.0, b.1, leads_up ring.closes)

  pub scene_laws : RingSceneLaws cs ps
  scene_laws = record {
    one_region = one_region;
    cyclic = λ r h. (λ p. is_tree r h p.0 p.1, λ t. (large_cyclic r h t.members, tree_none r h t));
    ring_cyclic = λ r h. ring_is_cyclic r h;
  }

-- ---- the answer

pub rings_accepted : {rules : ℕ} {cs ps fs : List ℤ} {regions regions' stack stack' : List ℕ} {a : Rings}
    → rings_refusal rules cs ps fs (length regions) (length stack) ≡ Ok tt → Scene cs ps
    → RingsBy (Ok tt) cs ps regions regions' stack stack' (Ok a) → RingsFound rules cs ps fs regions regions' stack stack' (Ok a)
rings_accepted {cs = cs} {ps} {fs} {regions} {regions'} {a = a} e scene by =
    let rest : List ℕ = drop (length (regions_of cs ps)) regions in record {
      by = rw e by;
      demand = rw (by.regions_left, by.found.count_is) (demand_3 cs ps scene rest);
      rings = λ q h.
          let below : q < region_count cs ps = omega (arith, by.found.count_is) in
          let found = region_rings cs ps scene q below (λ p l. ap (λ (k : List ℕ). get_or k p 0) by.regions_left ∙ region_laid cs ps rest p l) in
          let asked = asked_below by.found.rings_set q below in
          (λ m. found.0 (sym asked ∙ m), λ g. asked ∙ found.1 g);
      laws = scene_laws cs ps scene;
    }
