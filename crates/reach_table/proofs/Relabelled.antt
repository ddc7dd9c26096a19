-- The numbers of classes of list places are those of the classes of members.
--     Alike             a state of the one numbering and one of the other
--     numbers_alike     the numbers of two orders, the one by list place and the other by member
--     place_numbers     so the classes of the finished table's rows get the quick walk's numbers
-- Assumes nothing.
use mathlib.Core.Path.{◌≡◌, refl, sym, ap, ap₂, subst, subst₂, ◌∙◌}
use mathlib.Core.Bool.{Bool, true, false, cond, ◌||◌}
use mathlib.Core.List.{List, [], ◌∷◌, map, reverse}
use mathlib.Core.Logic.{◌↔◌}
use Prim.Native.Nat.{ℕ, zero, suc, ◌<◌}
use native.Mathlib.Omega.{arith}
use lib.Dec.{eqb}
use lib.IntN.{ℤ}
use lib.ListN.{length, get_or}
use lib.Seq.{ext_get_or}
use borrow.Author.Tests.{eqb-true, eq-eqb}
use Rattle.std.proofs.lemmas.List.{get_or-replicate, get_or-map, length-map}
use Rattle.lists.specs.Ids.{member_of}
use Rattle.lists.specs.Records.{component_count}
use Rattle.lists.proofs.Members.{member_below}
use Rattle.regions.specs.Graph.{Edges, Both, at, marked, each}
use Rattle.regions.specs.Kosaraju as Kosaraju
use Rattle.regions.specs.Kosaraju.{Labels, unlabelled, order}
use Rattle.regions.proofs.Laws.Main.{order_length}
use Rattle.regions.proofs.Theorems.{region_laws}
use Rattle.signals.specs.Regions.{region_count, region_of_place}
use Rattle.signals.specs.Signals.{signals}
use Rattle.signals.proofs.Tabulated.{tabulated_at}
use Rattle.liveness.specs.Scene.{Scene}
use Rattle.liveness.proofs.Demands.{signals_within}
use Rattle.reach_table.specs.Table.{is_same_row}
use Rattle.reach_table.specs.Numbers.{number_class, number_next, numbers}
use Rattle.reach_table.specs.Scene.{reaches}
use Rattle.reach_table.specs.Square.{PlacesIn}
use Rattle.reach_table.proofs.Classes.{each_turned}
use Rattle.reach_table.proofs.Numbering.{numbers_same}
use Rattle.reach_table.proofs.Rows.{equal_tests}
use Rattle.reach_table.proofs.Scenes.{both_reach}

module _ (n : ℕ) (same other : Edges) (node : ℕ → ℕ) (low : (p : ℕ) → p < n → node p < n)
    (tests : (p q : ℕ) → p < n → q < n → same p q ≡ other (node p) (node q)) where
  -- what the one keeps of a place the other keeps of its node
  record Alike (s t : Labels) : Type 0 where
    visited : (p : ℕ) → p < n → marked s.visited p ≡ marked t.visited (node p)
    numbered : (p : ℕ) → p < n → at s.region_of p ≡ at t.region_of (node p)
    counted : s.count ≡ t.count

  none_alike : Alike (unlabelled n) (unlabelled n)
  none_alike = record {
    visited = λ p h. get_or-replicate n p false false h ∙ sym (get_or-replicate n (node p) false false (low p h));
    numbered = λ p h. get_or-replicate n p zero 0 h ∙ sym (get_or-replicate n (node p) zero 0 (low p h));
    counted = refl;
  }

  class_alike : (p : ℕ) → p < n → (s t : Labels) → Alike s t → Alike (number_class n same p s) (number_class n other (node p) t)
  class_alike p hp s t a = record {
    visited = λ q h.
        tabulated_at (λ y. marked s.visited y || same p y) false n q h
        ∙ ap₂ ◌||◌ (a.visited q h) (tests p q hp h)
        ∙ sym (tabulated_at (λ y. marked t.visited y || other (node p) y) false n (node q) (low q h));
    numbered = λ q h.
        tabulated_at (λ y. cond (same p y) s.count (at s.region_of y)) 0 n q h
        ∙ ap (λ d. cond d s.count (at s.region_of q)) (tests p q hp h)
        ∙ ap₂ (λ (c : ℕ) (r : ℕ). cond (other (node p) (node q)) c r) a.counted (a.numbered q h)
        ∙ sym (tabulated_at (λ y. cond (other (node p) y) t.count (at t.region_of y)) 0 n (node q) (low q h));
    counted = ap suc a.counted;
  }

  next_alike : (p : ℕ) → p < n → (s t : Labels) → Alike s t → Alike (number_next n same p s) (number_next n other (node p) t)
  unfolding number_next
  next_alike p hp s t a =
      subst (λ d. Alike (cond d s (number_class n same p s)) (cond (marked t.visited (node p)) t (number_class n other (node p) t))) (sym (a.visited p hp))
      (go (marked t.visited (node p)))
    where
      go : (d : Bool) → Alike (cond d s (number_class n same p s)) (cond d t (number_class n other (node p) t))
      go true = a
      go false = class_alike p hp s t a

  each_alike : (l : List ℕ) → ((i : ℕ) → i < length l → get_or l i 0 < n)
      → Alike (each (number_next n same) (reverse l) (unlabelled n)) (each (number_next n other) (reverse (map node l)) (unlabelled n))
  unfolding each
  each_alike [] w = none_alike
  each_alike (p ∷ l) w =
      subst₂ (λ (s : Labels) (t : Labels). Alike s t)
      (sym (each_turned (number_next n same) p l (unlabelled n)))
      (sym (each_turned (number_next n other) (node p) (map node l) (unlabelled n)))
      (next_alike p (w 0 (omega arith)) _ _ (each_alike l (λ i h. w (suc i) (omega arith))))

  numbers_alike : (places nodes : List ℕ) → PlacesIn n places → length nodes ≡ n → ((k : ℕ) → k < n → node (get_or places k 0) ≡ get_or nodes k 0)
      → Alike (numbers n same places) (numbers n other nodes)
  unfolding numbers
  numbers_alike places nodes o long at_node =
      let e : map node places ≡ nodes = ext_get_or 0 (map node places) nodes (length-map places node ∙ o.long ∙ sym long) (λ i l.
      let h : i < n = omega (arith, length-map places node, o.long) in
      get_or-map node places i 0 0 (omega (arith, o.long)) ∙ at_node i h) in
      subst (λ (l : List ℕ). Alike (each (number_next n same) (reverse places) (unlabelled n)) (each (number_next n other) (reverse l) (unlabelled n))) e
      (each_alike places (λ i h. o.below i (omega (arith, o.long))))

-- ---- an accepted scene

module _ (cs ps : List ℤ) (scene : Scene cs ps) where
  -- whether two members share a region of the quick walk
  abbrev shared : Edges
  shared x y = eqb (at (Kosaraju.region_of (component_count cs) (signals cs ps)) x) (at (Kosaraju.region_of (component_count cs) (signals cs ps)) y)

  shared_both : (x y : ℕ) → x < component_count cs → y < component_count cs → (shared x y ≡ true) ↔ Both (signals cs ps) x y
  shared_both x y hx hy =
      let same = (region_laws (component_count cs) (signals cs ps) (signals_within cs ps scene)).same x y hx hy in
      (λ e. same.0 (eqb-true _ _ e), λ p. eq-eqb _ _ (same.1 p))

  rows_shared : (p q : ℕ) → p < component_count cs → q < component_count cs
      → is_same_row (component_count cs) (reaches cs ps) p q ≡ shared (member_of cs p) (member_of cs q)
  rows_shared p q hp hq =
      let rows = both_reach cs ps scene p q hp hq in
      let members = shared_both (member_of cs p) (member_of cs q) (member_below cs p hp) (member_below cs q hq) in
      equal_tests _ _ (λ e. members.1 (rows.0 e)) (λ e. rows.1 (members.0 e))

  pub place_numbers : (places : List ℕ) → PlacesIn (component_count cs) places
      → ((k : ℕ) → k < component_count cs → member_of cs (get_or places k 0) ≡ at (order (component_count cs) (signals cs ps)) k)
      → let s = numbers (component_count cs) (is_same_row (component_count cs) (reaches cs ps)) places in
      (s.count ≡ region_count cs ps) × ((p : ℕ) → p < component_count cs → at s.region_of p ≡ region_of_place cs ps p)
  place_numbers places o nodes =
      let n = component_count cs in
      let within = signals_within cs ps scene in
      let a = numbers_alike n (is_same_row n (reaches cs ps)) shared (member_of cs) (member_below cs) rows_shared places (order n (signals cs ps)) o
      (order_length n (signals cs ps) within) nodes in
      let e = numbers_same n (signals cs ps) shared within shared_both in (
        a.counted ∙ ap (λ (s : Labels). s.count) e,
        λ p h. a.numbered p h ∙ ap (λ (s : Labels). at s.region_of (member_of cs p)) e,
      )
