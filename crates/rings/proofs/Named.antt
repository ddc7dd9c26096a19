-- Rings of members are rings of ids.
--     Stands                    member m is the component of an id
--     edge_leads, leads_edge    an edge is a connection
--     Named                     a list of members, and the ids of their components
--     ring_leads, ring_along    a ring of the one sort is one of the other
-- Assumes nothing.
use mathlib.Core.Path.{◌≡◌, refl, sym, ap, ap₂, ◌∙◌, subst}
use mathlib.Core.Bool.{true, ◌||◌}
use mathlib.Core.List.{List, [], ◌∷◌}
use mathlib.Core.Logic.{⊎_elim}
use Prim.Native.Nat.{ℕ, suc, ◌<◌}
use native.Mathlib.Omega.{arith}
use lib.Dec.{eqb}
use lib.ListN.{length}
use lib.IntN.{ℤ}
use borrow.Author.Tests.{eqb-true, eq-eqb, ne_eqb}
use Rattle.tables.specs.Order.{member}
use Rattle.tables.specs.Laws.{same?}
use Rattle.lists.specs.Records.{component, port_connection, component_count}
use Rattle.lists.specs.Ids.{smaller_ids, member_of}
use Rattle.lists.proofs.Members.{member_inj}
use Rattle.signals.specs.Signals.{signals}
use Rattle.signals.proofs.Ends.{found_place, ends_below, source_is}
use Rattle.liveness.specs.Scene.{Scene}
use Rattle.liveness.proofs.Demands.{member_stands, edge_led, led_edge, signals_within}
use Rattle.rings.specs.Rings.{Steps, Distinct, Along, RingThrough}
use Rattle.rings.specs.Scene.{Leads}

module _ (cs ps : List ℤ) (scene : Scene cs ps) where
  pub record Stands (m i : ℕ) : Type 0 where
    pub place : ℕ
    pub below : place < component_count cs
    pub is_member : member_of cs place ≡ m
    pub is_id : (component cs place).id ≡ i

  pub stands_at : (p : ℕ) → p < component_count cs → Stands (member_of cs p) (component cs p).id
  stands_at p h = record { place = p; below = h; is_member = refl; is_id = refl }

  pub standing : (m : ℕ) → m < component_count cs → (i : ℕ) × Stands m i
  standing m h =
      let p = member_stands cs scene.distinct scene.components m h in
      ((component cs p.0).id, record { place = p.0; below = p.1; is_member = p.2; is_id = refl })

  -- ---- edges

  pub edge_leads : {a b i j : ℕ} → Stands a i → Stands b j → signals cs ps a b ≡ true → Leads ps i j
  edge_leads {a} {b} s t e =
      let edge = edge_led cs ps a b e in
      let ended = ends_below cs ps scene.ends edge.k edge.below edge.signal in
      let next = found_place cs (port_connection ps edge.k).sink ended.sink_found in
      let from : (port_connection ps edge.k).source ≡ (component cs s.place).id =
      eqb-true _ _ (sym (source_is cs ps scene.ends edge.k edge.below edge.signal s.place s.below) ∙ eq-eqb _ _ (edge.source ∙ sym s.is_member)) in
      let there : next.0 ≡ t.place =
      member_inj cs scene.distinct next.0 t.place next.1 t.below (ap (smaller_ids cs) next.2 ∙ edge.sink ∙ sym t.is_member) in
      record {
        k = edge.k;
        below = edge.below;
        signal = edge.signal;
        source = from ∙ s.is_id;
        sink = sym next.2 ∙ ap (λ (p : ℕ). (component cs p).id) there ∙ t.is_id;
      }

  pub leads_edge : {i j : ℕ} → Leads ps i j → signals cs ps (smaller_ids cs i) (smaller_ids cs j) ≡ true
  leads_edge l = rw (← l.source, ← l.sink) (led_edge cs ps l.k l.below l.signal)

  pub leads_to : {i j : ℕ} → Leads ps i j → Stands (smaller_ids cs j) j
  leads_to {j = j} l =
      let ended = ends_below cs ps scene.ends l.k l.below l.signal in
      let next = found_place cs (port_connection ps l.k).sink ended.sink_found in
      let is = next.2 ∙ l.sink in
      record { place = next.0; below = next.1; is_member = ap (smaller_ids cs) is; is_id = is }

  pub stands_of : {m i : ℕ} → Stands m i → m ≡ smaller_ids cs i
  stands_of s = sym s.is_member ∙ ap (smaller_ids cs) s.is_id

  -- ---- lists

  abbrev Named : List ℕ → List ℕ → Type 0
  Named [] [] = Unit
  Named (m ∷ l) (i ∷ k) = Stands m i × Named l k
  Named [] (i ∷ k) = ⊥
  Named (m ∷ l) [] = ⊥

  named_length : (l k : List ℕ) → Named l k → length l ≡ length k
  named_length [] [] n = refl
  named_length (m ∷ l) (i ∷ k) n = ap suc (named_length l k n.1)
  named_length [] (i ∷ k) n = absurd n
  named_length (m ∷ l) [] n = absurd n

  same_stands : {m i m' i' : ℕ} → Stands m i → Stands m' i' → eqb m m' ≡ eqb i i'
  same_stands {m} {i} {m'} {i'} s t = ⊎_elim
      (λ (e : m ≡ m').
      let there = member_inj cs scene.distinct s.place t.place s.below t.below (s.is_member ∙ e ∙ sym t.is_member) in
      eq-eqb m m' e ∙ sym (eq-eqb i i' (sym s.is_id ∙ ap (λ (p : ℕ). (component cs p).id) there ∙ t.is_id)))
      (λ (ne : m ≡ m' → ⊥).
      ne_eqb m m' ne ∙ sym (ne_eqb i i' (λ e. ne (stands_of s ∙ ap (smaller_ids cs) e ∙ sym (stands_of t)))))
      (same? m m')

  named_member : {m i : ℕ} → Stands m i → (l k : List ℕ) → Named l k → member m l ≡ member i k
  unfolding member
  named_member s [] [] n = refl
  named_member s (m' ∷ l) (i' ∷ k) n = ap₂ ◌||◌ (same_stands s n.0) (named_member s l k n.1)
  named_member s [] (i ∷ k) n = absurd n
  named_member s (m ∷ l) [] n = absurd n

  named_distinct : (l k : List ℕ) → Named l k → Distinct l → Distinct k
  named_distinct [] [] n d = tt
  named_distinct (m ∷ l) (i ∷ k) n d = (sym (named_member n.0 l k n.1) ∙ d.0, named_distinct l k n.1 d.1)
  named_distinct [] (i ∷ k) n d = absurd n
  named_distinct (m ∷ l) [] n d = absurd n

  distinct_named : (l k : List ℕ) → Named l k → Distinct k → Distinct l
  distinct_named [] [] n d = tt
  distinct_named (m ∷ l) (i ∷ k) n d = (named_member n.0 l k n.1 ∙ d.0, distinct_named l k n.1 d.1)
  distinct_named [] (i ∷ k) n d = absurd n
  distinct_named (m ∷ l) [] n d = absurd n

  -- ---- chains

  record Follows (i : ℕ) (l : List ℕ) (y : ℕ) : Type 0 where
    ids : List ℕ
    last : ℕ
    at_last : Stands y last
    steps : Steps (Leads ps) i ids last
    named : Named l ids

  follow : (x i : ℕ) → Stands x i → (l : List ℕ) (y : ℕ) → Steps (Along (signals cs ps)) x l y → Follows i l y
  follow x i s [] y e = record { ids = []; last = i; at_last = subst (λ (u : ℕ). Stands u i) e s; steps = refl; named = tt }
  follow x i s (z ∷ l) y e =
      let there = standing z (signals_within cs ps scene x z e.0).1 in
      let rest = follow z there.0 there.1 l y e.1 in
      record {
        ids = there.0 ∷ rest.ids;
        last = rest.last;
        at_last = rest.at_last;
        steps = (edge_leads s there.1 e.0, rest.steps);
        named = (there.1, rest.named);
      }

  pub ring_leads : {x i : ℕ} → Stands x i → RingThrough (Along (signals cs ps)) x → RingThrough (Leads ps) i
  ring_leads {x} {i} s r =
      let f = follow x i s r.rest r.last r.steps in
      record {
        rest = f.ids;
        last = f.last;
        three = omega (arith, r.three, named_length r.rest f.ids f.named);
        steps = f.steps;
        closes = edge_leads f.at_last s r.closes;
        distinct = named_distinct (x ∷ r.rest) (i ∷ f.ids) (s, f.named) r.distinct;
      }

  abbrev members : List ℕ → List ℕ
  members [] = []
  members (i ∷ k) = smaller_ids cs i ∷ members k

  along : (i : ℕ) (k : List ℕ) (j : ℕ) → Steps (Leads ps) i k j → Steps (Along (signals cs ps)) (smaller_ids cs i) (members k) (smaller_ids cs j)
  along i [] j e = ap (smaller_ids cs) e
  along i (z ∷ k) j e = (leads_edge e.0, along z k j e.1)

  names : (i : ℕ) (k : List ℕ) (j : ℕ) → Steps (Leads ps) i k j → Named (members k) k
  names i [] j e = tt
  names i (z ∷ k) j e = (leads_to e.0, names z k j e.1)

  pub ring_along : {x i : ℕ} → Stands x i → RingThrough (Leads ps) i → RingThrough (Along (signals cs ps)) x
  ring_along {x} {i} s r =
      let named = names i r.rest r.last r.steps in
      let is = stands_of s in
      record {
        rest = members r.rest;
        last = smaller_ids cs r.last;
        three = omega (arith, r.three, named_length (members r.rest) r.rest named);
        steps = rw is (along i r.rest r.last r.steps);
        closes = rw is (leads_edge r.closes);
        distinct = distinct_named (x ∷ members r.rest) (i ∷ r.rest) (s, named) r.distinct;
      }
