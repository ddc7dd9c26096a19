-- Demand 3 of the definitions: the regions of an accepted scene, on ids and chains of its port connections.
--     member_stands                    each member below the number of components stands for one of them
--     Led, edge_led, led_edge          an edge is a signal connection
--     signals_within                   between two members
--     chain_reach, reach_chain         a chain of port connections on ids is one of edges on members
--     region_laid                      the region answered at a list place
--     demand_3                         what holds of the regions
--     same_regions                     and so of any list that begins with the same numbers
-- Assumes nothing.
use Rattle.std.specs.Prelude.{Option, Some, None}
use mathlib.Core.Path.{◌≡◌, refl, sym, ap, ◌∙◌, subst}
use mathlib.Core.Bool.{Bool, true, ◌&&◌}
use mathlib.Core.Logic.{⊎_elim}
use mathlib.Core.List.{List, ◌++◌}
use Prim.Native.Nat.{ℕ, zero, suc, ◌+◌, ◌≤◌, ◌<◌}
use native.Mathlib.Omega.{arith}
use lib.Dec.{eqb, ltb}
use lib.ListN.{get_or, get_or-append}
use lib.IntN.{ℤ}
use borrow.Author.Tests.{eqb-true, eq-eqb, ne_eqb, lt-ltb, le-ltb}
use Rattle.sets.specs.Members.{as_nat, count_below}
use Rattle.sets.proofs.Counts.{count_cong, count_none}
use Rattle.tables.specs.Laws.{order?}
use Rattle.lists.specs.Records.{component, port_connection, component_count, port_count}
use Rattle.lists.specs.First.{first_from}
use Rattle.lists.specs.Ids.{smaller_ids, member_of, first_repeated}
use Rattle.lists.specs.Within.{Components}
use Rattle.lists.proofs.Search.{both, found_at, none_found}
use Rattle.lists.proofs.Fields.{first_most}
use Rattle.lists.proofs.Members.{count_once, ids_distinct, member_below, member_inj}
use Rattle.regions.specs.Graph.{Within, Reach, here, step, at}
use Rattle.regions.proofs.Theorems.{region_laws}
use Rattle.signals.specs.Signals.{is_signal, source_member, sink_member, signals}
use Rattle.signals.specs.Regions.{labels, region_count, region_of_place, regions_of}
use Rattle.liveness.specs.Scene.{Scene}
use Rattle.liveness.specs.Demand.{Chain, nil, link, RegionsOfScene}
use Rattle.signals.proofs.Tabulated.{tab_length, tab_at}
use Rattle.signals.proofs.Ends.{found_place, ends_below, ends_within, source_is}
use Rattle.lists.proofs.Some.{some_at}
use Rattle.lists.proofs.Some.{some_found}

-- ---- every member stands for a component

-- where R holds exactly one of P and Q does
count_parts : (P Q R : ℕ → Bool) (n : ℕ) → ((k : ℕ) → as_nat (R k) ≡ as_nat (P k) + as_nat (Q k)) → count_below R n ≡ count_below P n + count_below Q n
unfolding count_below
count_parts P Q R zero h = refl
count_parts P Q R (suc n) h = omega (arith, count_parts P Q R n h, h n)

count_all : (n : ℕ) → count_below (λ _. true) n ≡ n
unfolding count_below
count_all zero = refl
count_all (suc n) = omega (arith, count_all n)

-- below the next number is below this one, or this one
next_below : (v x : ℕ) → as_nat (ltb v (suc x)) ≡ as_nat (ltb v x) + as_nat (eqb v x)
next_below v x =
    ⊎_elim
    (λ (le : v ≤ x). ⊎_elim
    (λ (ge : x ≤ v). let same : v ≡ x = omega arith in rw (lt-ltb v (suc x) (omega arith), le-ltb v x ge, eq-eqb v x same))
    (λ (less : v < x). rw (lt-ltb v (suc x) (omega arith), lt-ltb v x less, ne_eqb v x (λ e. omega arith)))
    (order? x v))
    (λ (more : x < v). rw (le-ltb v (suc x) more, le-ltb v x (omega arith), ne_eqb v x (λ e. omega arith)))
    (order? v x)

module _ (cs : List ℤ) (once : first_repeated cs ≡ None) where
  next_smaller : (x : ℕ) → smaller_ids cs (suc x) ≡ smaller_ids cs x + count_below (λ k. eqb (component cs k).id x) (component_count cs)
  unfolding smaller_ids
  next_smaller x =
      count_parts (λ k. ltb (component cs k).id x) (λ k. eqb (component cs k).id x) (λ k. ltb (component cs k).id (suc x)) (component_count cs)
      (λ k. next_below (component cs k).id x)

  -- an id is that of one component at most
  id_once : (x : ℕ) → count_below (λ k. eqb (component cs k).id x) (component_count cs) ≤ 1
  id_once x =
      count_once (λ k. eqb (component cs k).id x) (component_count cs) (λ i j l h p q.
      let same = ids_distinct cs once i j (omega arith) h (eqb-true (component cs i).id x p ∙ sym (eqb-true (component cs j).id x q)) in
      omega arith)

  none_smaller : smaller_ids cs 0 ≡ 0
  unfolding smaller_ids
  none_smaller = count_none (λ k. ltb (component cs k).id 0) (component_count cs) (λ k l. le-ltb (component cs k).id 0 (omega arith))

  -- where more than m ids are below x, member m stands for a component
  stands_below : (m x : ℕ) → m < smaller_ids cs x → (p : ℕ) × (p < component_count cs) × (member_of cs p ≡ m)
  stands_below m zero h = absurd (omega (arith, none_smaller))
  stands_below m (suc x) h = ⊎_elim (λ le. go (first_from test 0 (component_count cs)) refl le) (stands_below m x) (order? (smaller_ids cs x) m)
    where
      test : ℕ → Bool
      test k = eqb (component cs k).id x

      go : (f : Option ℕ) → first_from test 0 (component_count cs) ≡ f → smaller_ids cs x ≤ m → (p : ℕ) × (p < component_count cs) × (member_of cs p ≡ m)
      go (Some p) e le =
          let f = found_at test 0 (component_count cs) p e in
          let id : (component cs p).id ≡ x = eqb-true (component cs p).id x f.passes in
          let is : smaller_ids cs x ≡ m = omega (arith, next_smaller x, id_once x) in
          (p, omega (arith, f.below), ap (smaller_ids cs) id ∙ is)
      go None e le =
          let none = count_none test (component_count cs) (λ k l. none_found test 0 (component_count cs) e k (omega arith) (omega arith)) in
          absurd (omega (arith, next_smaller x))

  pub member_stands : Components cs → (m : ℕ) → m < component_count cs → (p : ℕ) × (p < component_count cs) × (member_of cs p ≡ m)
  unfolding smaller_ids
  member_stands w m h =
      let all = count_cong (λ k. ltb (component cs k).id 4294967296) (λ _. true) (component_count cs)
      (λ k l. lt-ltb (component cs k).id 4294967296 (omega (arith, first_most w k l (omega arith) 4294967295 refl refl))) in
      stands_below m 4294967296 (omega (arith, all, count_all (component_count cs)))

-- ---- edges

-- port connection k is the edge from member a to member b
pub record Led (cs ps : List ℤ) (a b : ℕ) : Type 0 where
  pub k : ℕ
  pub below : k < port_count ps
  pub signal : is_signal ps k ≡ true
  pub source : source_member cs ps k ≡ a
  pub sink : sink_member cs ps k ≡ b

module _ (cs ps : List ℤ) where
  abbrev leads : ℕ → ℕ → ℕ → Bool
  leads a b k = is_signal ps k && (eqb (source_member cs ps k) a && eqb (sink_member cs ps k) b)

  pub edge_led : (a b : ℕ) → signals cs ps a b ≡ true → Led cs ps a b
  unfolding signals
  edge_led a b e =
      let f = some_found (leads a b) (port_count ps) e in
      let k = f.0 in
      let p = both (is_signal ps k) (eqb (source_member cs ps k) a && eqb (sink_member cs ps k) b) f.2 in
      let q = both (eqb (source_member cs ps k) a) (eqb (sink_member cs ps k) b) p.1 in
      record {
        k = k;
        below = f.1;
        signal = p.0;
        source = eqb-true (source_member cs ps k) a q.0;
        sink = eqb-true (sink_member cs ps k) b q.1;
      }

  pub led_edge : (k : ℕ) → k < port_count ps → is_signal ps k ≡ true → signals cs ps (source_member cs ps k) (sink_member cs ps k) ≡ true
  unfolding signals
  led_edge k h s =
      let a = source_member cs ps k in
      let b = sink_member cs ps k in
      some_at (leads a b) (port_count ps) k h (rw (s, eq-eqb a a refl) (eq-eqb b b refl))

  pub chain_reach : {a b : ℕ} → Chain ps a b → Reach (signals cs ps) (smaller_ids cs a) (smaller_ids cs b)
  chain_reach nil = here
  chain_reach (link k h s rest) = step (led_edge k h s) (chain_reach rest)

-- ---- an accepted scene

module _ (cs ps : List ℤ) (scene : Scene cs ps) where
  pub signals_within : Within (component_count cs) (signals cs ps)
  signals_within a b e =
      let l = edge_led cs ps a b e in
      let ends = ends_within cs ps scene.ends l.k l.below l.signal in
      (omega (arith, ends.0, l.source), omega (arith, ends.1, l.sink))

  -- between the components of the members at its ends
  pub reach_chain : {a b : ℕ} → Reach (signals cs ps) a b → (v w : ℕ) → v < component_count cs → w < component_count cs
      → member_of cs v ≡ a → member_of cs w ≡ b → Chain ps (component cs v).id (component cs w).id
  reach_chain here v w h l p q =
      subst (λ (u : ℕ). Chain ps (component cs v).id (component cs u).id) (member_inj cs scene.distinct v w h l (p ∙ sym q)) nil
  reach_chain (step {a} {b} {c} e rest) v w h l p q =
      let edge = edge_led cs ps a b e in
      let ended = ends_below cs ps scene.ends edge.k edge.below edge.signal in
      let next = found_place cs (port_connection ps edge.k).sink ended.sink_found in
      let from : (port_connection ps edge.k).source ≡ (component cs v).id =
      eqb-true _ _ (sym (source_is cs ps scene.ends edge.k edge.below edge.signal v h) ∙ eq-eqb _ _ (edge.source ∙ sym p)) in
      let onward : Chain ps (component cs next.0).id (component cs w).id =
      reach_chain rest next.0 w next.1 l (ap (smaller_ids cs) next.2 ∙ edge.sink) q in
      subst (λ (x : ℕ). Chain ps x (component cs w).id) from
      (link edge.k edge.below edge.signal (subst (λ (x : ℕ). Chain ps x (component cs w).id) next.2 onward))

-- the region answered at a list place
pub region_laid : (cs ps : List ℤ) (rest : List ℕ) (v : ℕ) → v < component_count cs → get_or (regions_of cs ps ++ rest) v 0 ≡ region_of_place cs ps v
region_laid cs ps rest v h =
    get_or-append (regions_of cs ps) rest 0 v (rw (tab_length (region_of_place cs ps) (component_count cs)) h)
    ∙ tab_at (region_of_place cs ps) (component_count cs) v h

pub demand_3 : (cs ps : List ℤ) → Scene cs ps → (rest : List ℕ) → RegionsOfScene cs ps (regions_of cs ps ++ rest) (region_count cs ps)
demand_3 cs ps scene rest =
    let n = component_count cs in
    let laws = region_laws n (signals cs ps) (signals_within cs ps scene) in
    let laid = region_laid cs ps rest in
    record {
      same = λ v w h l.
          let m = member_of cs v in
          let j = member_of cs w in
          let both_ways = laws.same m j (member_below cs v h) (member_below cs w l) in (
            λ e.
                let r = both_ways.0 (sym (laid v h) ∙ e ∙ laid w l) in
                (reach_chain cs ps scene r.0 v w h l refl refl, reach_chain cs ps scene r.1 w v l h refl refl),
            λ c. laid v h ∙ both_ways.1 (chain_reach cs ps c.0, chain_reach cs ps c.1) ∙ sym (laid w l),
          );
      below = λ v h. rw (laid v h) (laws.below (member_of cs v) (member_below cs v h));
      onto = λ r h.
          let m = laws.onto r h in
          let p = member_stands cs scene.distinct scene.components m.0 m.1 in
          (p.0, p.1, laid p.0 p.1 ∙ ap (at (labels cs ps)) p.2 ∙ m.2);
      rises = λ k v w h s lv lw source sink.
          let e : signals cs ps (member_of cs v) (member_of cs w) ≡ true = rw (source, sink) (led_edge cs ps k h s) in
          rw (laid v lv, laid w lw) (laws.rises (member_of cs v) (member_of cs w) e);
    }

pub same_regions : (cs ps : List ℤ) (count : ℕ) {regions regions' : List ℕ} → ((v : ℕ) → v < component_count cs → get_or regions v 0 ≡ get_or regions' v 0)
    → RegionsOfScene cs ps regions count → RegionsOfScene cs ps regions' count
same_regions cs ps count e d = record {
  same = λ v w h l. (λ f. (d.same v w h l).0 (e v h ∙ f ∙ sym (e w l)), λ m. sym (e v h) ∙ (d.same v w h l).1 m ∙ e w l);
  below = λ v h. rw (sym (e v h)) (d.below v h);
  onto = λ r h. let p = d.onto r h in (p.0, p.1, sym (e p.0 p.1) ∙ p.2);
  rises = λ k v w h s lv lw source sink. rw (sym (e v lv), sym (e w lw)) (d.rises k v w h s lv lw source sink);
}
