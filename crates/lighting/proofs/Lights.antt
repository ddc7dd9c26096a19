-- One pass over the regions, by rising number, lights exactly the regions of the driven components.
--     lit_rule          a mark after the pass, by the marks of smaller numbers
--     lit_drive         a member is driven exactly if its region is lit
--     light_laws        what holds on every accepted scene
-- Assumes nothing.
use mathlib.Core.Path.{◌≡◌, refl, sym, ap, subst, ◌∙◌}
use mathlib.Core.Bool.{Bool, true, false, ◌&&◌, ◌||◌}
use mathlib.Core.List.{List, [], ◌∷◌}
use mathlib.Core.Logic.{◌↔◌, ⊎_elim}
use Prim.Native.Nat.{ℕ, zero, suc, ◌≤◌, ◌<◌}
use native.Mathlib.Nat.{eq-or-lt_of_le, le_of_suc-le-suc}
use native.Mathlib.Omega.{arith}
use lib.Dec.{eqb}
use lib.ListN.{length, length-append, get_or-append}
use lib.Seq.{get_or_at}
use lib.IntN.{ℤ}
use borrow.Author.Tests.{eqb-true, eq-eqb}
use Rattle.tables.specs.Laws.{same?}
use Rattle.lists.specs.Records.{component_count, port_count}
use Rattle.lists.specs.First.{is_found, some}
use Rattle.lists.specs.Ids.{member_of}
use Rattle.lists.proofs.Search.{both}
use Rattle.lists.proofs.Some.{some_at, some_found, and_true}
use Rattle.lists.proofs.Members.{member_below}
use Rattle.regions.specs.Graph.{Reach, here, step, at, marked}
use Rattle.regions.specs.Theorems.{RegionLaws}
use Rattle.regions.proofs.Laws.Lists.{or_right}
use Rattle.regions.proofs.Laws.Walks.{Reach·trans}
use Rattle.regions.proofs.Theorems.{region_laws}
use Rattle.signals.specs.Signals.{is_signal, source_member, sink_member, signals}
use Rattle.signals.specs.Sources.{is_drive}
use Rattle.signals.specs.Regions.{labels, region_count, region_of_place, holds_drive}
use Rattle.signals.specs.Drive.{members_where, drive}
use Rattle.signals.proofs.Tabulated.{first_cong}
use Rattle.signals.proofs.Neighbours.{or_left, either}
use Rattle.signals.proofs.Tested.{same_truth}
use Rattle.liveness.specs.Scene.{Scene}
use Rattle.liveness.proofs.Demands.{member_stands, edge_led, led_edge, chain_reach, reach_chain, signals_within}
use Rattle.liveness.proofs.Meanings.{walked_from}
use Rattle.lighting.specs.Pass.{feeds, lights, lit_below, lit}
use Rattle.lighting.specs.Laws.{Fed, LightLaws}

-- ---- the pass

module _ (cs ps fs : List ℤ) where
  lit_length : (n : ℕ) → length (lit_below cs ps fs n) ≡ n
  unfolding lit_below
  lit_length zero = refl
  lit_length (suc n) = rw (length-append, lit_length n) (omega arith)

  -- a mark is set when its region is looked at, and stays
  lit_settled : (n r : ℕ) → r < n → marked (lit_below cs ps fs n) r ≡ lights cs ps fs r (lit_below cs ps fs r)
  unfolding lit_below
  lit_settled zero r h = absurd (omega arith)
  lit_settled (suc n) r h =
      ⊎_elim
      (λ (same : r ≡ n). rw same (get_or_at (lit_below cs ps fs n) (lights cs ps fs n (lit_below cs ps fs n)) [] false n (lit_length n)))
      (λ (less : r < n).
      get_or-append (lit_below cs ps fs n) (lights cs ps fs n (lit_below cs ps fs n) ∷ []) false r (rw (lit_length n) less) ∙ lit_settled n r less)
      (eq-or-lt_of_le (le_of_suc-le-suc h))

  pub lit_rule : (r : ℕ) → r < region_count cs ps → lit cs ps fs r ≡ (holds_drive cs ps fs r || some (λ q. lit cs ps fs q && feeds cs ps q r) r)
  unfolding lit
  lit_rule r h =
      lit_settled (region_count cs ps) r h
      ∙ ap (λ (t : Bool). holds_drive cs ps fs r || t)
      (ap is_found (first_cong (λ q. marked (lit_below cs ps fs r) q && feeds cs ps q r) (λ q. marked (lit_below cs ps fs (region_count cs ps)) q && feeds cs ps q r) 0 r (λ q a b.
      ap (λ (t : Bool). t && feeds cs ps q r) (lit_settled r q (omega arith) ∙ sym (lit_settled (region_count cs ps) q (omega arith))))))

-- ---- what feeds a region

-- an edge from a member of region q to one of region r
pub record Feeding (cs ps : List ℤ) (q r : ℕ) : Type 0 where
  pub from : ℕ
  pub to : ℕ
  pub edge : signals cs ps from to ≡ true
  pub from_region : at (labels cs ps) from ≡ q
  pub to_region : at (labels cs ps) to ≡ r

module _ (cs ps : List ℤ) where
  abbrev crossing : ℕ → ℕ → ℕ → Bool
  crossing q r k = is_signal ps k && (eqb (at (labels cs ps) (source_member cs ps k)) q && eqb (at (labels cs ps) (sink_member cs ps k)) r)

  pub fed_edge : (q r : ℕ) → feeds cs ps q r ≡ true → Feeding cs ps q r
  unfolding feeds
  fed_edge q r e =
      let (k, h, t) = some_found (crossing q r) (port_count ps) e in
      let a = source_member cs ps k in
      let b = sink_member cs ps k in
      let (s, u) = both (is_signal ps k) (eqb (at (labels cs ps) a) q && eqb (at (labels cs ps) b) r) t in
      let (x, y) = both (eqb (at (labels cs ps) a) q) (eqb (at (labels cs ps) b) r) u in
      record {
        from = a;
        to = b;
        edge = led_edge cs ps k h s;
        from_region = eqb-true (at (labels cs ps) a) q x;
        to_region = eqb-true (at (labels cs ps) b) r y;
      }

  pub edge_feeds : (a b : ℕ) → signals cs ps a b ≡ true → feeds cs ps (at (labels cs ps) a) (at (labels cs ps) b) ≡ true
  unfolding feeds
  edge_feeds a b e =
      let l = edge_led cs ps a b e in
      let region : ℕ → ℕ = at (labels cs ps) in
      some_at (crossing (region a) (region b)) (port_count ps) l.k l.below
      (and_true (is_signal ps l.k) _ l.signal
      (and_true (eqb (region (source_member cs ps l.k)) (region a)) (eqb (region (sink_member cs ps l.k)) (region b))
      (eq-eqb _ _ (ap region l.source)) (eq-eqb _ _ (ap region l.sink))))

-- ---- an accepted scene

module _ (cs ps fs : List ℤ) (scene : Scene cs ps) where
  laws : RegionLaws (component_count cs) (signals cs ps)
  laws = region_laws (component_count cs) (signals cs ps) (signals_within cs ps scene)

  abbrev region : ℕ → ℕ
  region m = at (labels cs ps) m

  -- member m is driven
  abbrev driven : ℕ → Bool
  driven m = marked (drive cs ps fs) m

  -- ---- drive, by edges

  -- a drive source reaches it
  drive_reached : (m : ℕ) → (driven m ≡ true) ↔ ((p : ℕ) × (p < component_count cs) × (is_drive cs fs p ≡ true) × Reach (signals cs ps) (member_of cs p) m)
  unfolding drive members_where
  drive_reached =
      walked_from (component_count cs) (signals cs ps) (signals_within cs ps scene) (component_count cs) (is_drive cs fs) (member_of cs)
      (λ p h _. member_below cs p h)

  -- what is driven drives on
  drive_on : {a b : ℕ} → Reach (signals cs ps) a b → driven a ≡ true → driven b ≡ true
  drive_on {a} {b} r e = let (p, h, d, s) = (drive_reached a).0 e in (drive_reached b).1 (p, h, d, Reach·trans s r)

  -- members of one region are both driven or neither
  same_driven : (a b : ℕ) → a < component_count cs → b < component_count cs → region a ≡ region b → driven a ≡ true → driven b ≡ true
  same_driven a b h l e d = drive_on ((laws.same a b h l).0 e).0 d

  -- ---- a lit region's members are driven

  -- of each region looked at so far
  sound_below : (n r : ℕ) → r < n → r < region_count cs ps → lit cs ps fs r ≡ true → (b : ℕ) → b < component_count cs → region b ≡ r → driven b ≡ true
  unfolding holds_drive
  sound_below zero r h few e b l q = absurd (omega arith)
  sound_below (suc n) r h few e b l q =
      ⊎_elim
      (λ held.
      let (p, k, t) = some_found (λ p. is_drive cs fs p && eqb (region_of_place cs ps p) r) (component_count cs) held in
      let (x, y) = both (is_drive cs fs p) (eqb (region_of_place cs ps p) r) t in
      (drive_reached b).1 (p, k, x, ((laws.same (member_of cs p) b (member_below cs p k) l).0 (eqb-true (region_of_place cs ps p) r y ∙ sym q)).0))
      (λ given.
      let (s, k, t) = some_found (λ s. lit cs ps fs s && feeds cs ps s r) r given in
      let (x, y) = both (lit cs ps fs s) (feeds cs ps s r) t in
      let f = fed_edge cs ps s r y in
      let w = signals_within cs ps scene f.from f.to f.edge in
      let first = sound_below n s (omega arith) (omega arith) x f.from w.0 f.from_region in
      same_driven f.to b w.1 l (f.to_region ∙ sym q) (drive_on (step f.edge here) first))
      (either (holds_drive cs ps fs r) (some (λ s. lit cs ps fs s && feeds cs ps s r) r) (sym (lit_rule cs ps fs r few) ∙ e))

  sound : (b : ℕ) → b < component_count cs → lit cs ps fs (region b) ≡ true → driven b ≡ true
  sound b h e = sound_below (suc (region b)) (region b) (omega arith) (laws.below b h) e b h refl

  -- ---- a driven member's region is lit

  held_lit : (p : ℕ) → p < component_count cs → is_drive cs fs p ≡ true → lit cs ps fs (region_of_place cs ps p) ≡ true
  unfolding holds_drive
  held_lit p h d =
      lit_rule cs ps fs (region_of_place cs ps p) (laws.below (member_of cs p) (member_below cs p h))
      ∙ or_left _ (some_at (λ q. is_drive cs fs q && eqb (region_of_place cs ps q) (region_of_place cs ps p)) (component_count cs) p h
      (and_true (is_drive cs fs p) _ d (eq-eqb (region_of_place cs ps p) (region_of_place cs ps p) refl)))

  -- an edge leads from a lit region to a lit region
  lit_edge : (a b : ℕ) → signals cs ps a b ≡ true → lit cs ps fs (region a) ≡ true → lit cs ps fs (region b) ≡ true
  lit_edge a b e m =
      let w = signals_within cs ps scene a b e in
      let le = laws.rises a b e in
      ⊎_elim
      (λ (q : region a ≡ region b). subst (λ (r : ℕ). lit cs ps fs r ≡ true) q m)
      (λ ne.
      let less : region a < region b = ⊎_elim (λ (q : region a ≡ region b). absurd (ne q)) (λ l. l) (eq-or-lt_of_le le) in
      lit_rule cs ps fs (region b) (laws.below b w.1)
      ∙ or_right (holds_drive cs ps fs (region b)) (some_at (λ q. lit cs ps fs q && feeds cs ps q (region b)) (region b) (region a) less
      (and_true (lit cs ps fs (region a)) (feeds cs ps (region a) (region b)) m (edge_feeds cs ps a b e))))
      (same? (region a) (region b))

  along : {a b : ℕ} → Reach (signals cs ps) a b → lit cs ps fs (region a) ≡ true → lit cs ps fs (region b) ≡ true
  along here m = m
  along (step {a} {b} e p) m = along p (lit_edge a b e m)

  complete : (b : ℕ) → driven b ≡ true → lit cs ps fs (region b) ≡ true
  complete b e = let (p, h, d, r) = (drive_reached b).0 e in along r (held_lit p h d)

  pub lit_drive : (m : ℕ) → m < component_count cs → driven m ≡ lit cs ps fs (region m)
  lit_drive m h = same_truth (driven m) (lit cs ps fs (region m)) (complete m) (sound m h)

  -- ---- components

  fed_to : (p : ℕ) → p < component_count cs → lit cs ps fs (region_of_place cs ps p) ≡ true → Fed cs ps fs p
  fed_to p h e =
      let (s, l, d, r) = (drive_reached (member_of cs p)).0 (sound (member_of cs p) (member_below cs p h) e) in
      (s, l, d, reach_chain cs ps scene r s p l h refl refl)

  fed_from : (p : ℕ) → p < component_count cs → Fed cs ps fs p → lit cs ps fs (region_of_place cs ps p) ≡ true
  fed_from p h (s, l, d, r) = complete (member_of cs p) ((drive_reached (member_of cs p)).1 (s, l, d, chain_reach cs ps r))

  feeds_lit : (q r : ℕ) → feeds cs ps q r ≡ true → lit cs ps fs q ≡ true → lit cs ps fs r ≡ true
  feeds_lit q r e m =
      let f = fed_edge cs ps q r e in
      subst (λ (t : ℕ). lit cs ps fs t ≡ true) f.to_region
      (lit_edge f.from f.to f.edge (subst (λ (t : ℕ). lit cs ps fs t ≡ true) (sym f.from_region) m))

  feeds_rises : (q r : ℕ) → feeds cs ps q r ≡ true → q ≤ r
  feeds_rises q r e =
      let f = fed_edge cs ps q r e in
      omega (arith, laws.rises f.from f.to f.edge, f.from_region, f.to_region)

  pub light_laws : LightLaws cs ps fs
  light_laws = record {
    driven = λ p h. lit_drive (member_of cs p) (member_below cs p h);
    fed = λ p h. (fed_to p h, fed_from p h);
    whole = λ p q h l e.
        lit_drive (member_of cs p) (member_below cs p h) ∙ ap (lit cs ps fs) e ∙ sym (lit_drive (member_of cs q) (member_below cs q l));
    once = lit_rule cs ps fs;
    rises = feeds_rises;
    enough = feeds_lit;
    holds = λ r h. (
      λ e.
          let m = laws.onto r h in
          let p = member_stands cs scene.distinct scene.components m.0 m.1 in
          let in_region : region_of_place cs ps p.0 ≡ r = ap region p.2 ∙ m.2 in
          (p.0, p.1, in_region, sound (member_of cs p.0) (member_below cs p.0 p.1) (subst (λ (t : ℕ). lit cs ps fs t ≡ true) (sym in_region) e)),
      λ x. subst (λ (t : ℕ). lit cs ps fs t ≡ true) x.2 (complete (member_of cs x.0) x.3),
    );
  }
