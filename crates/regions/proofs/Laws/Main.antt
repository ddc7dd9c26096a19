-- The theorems of `Theorems`, with the lemmas that lead from the invariants to them.
-- Assumes nothing.
use mathlib.Core.Path.{◌≡◌, sym, ap, ◌∙◌, subst}
use mathlib.Core.Bool.{true}
use mathlib.Core.List.{List, [], ◌∷◌, reverse}
use mathlib.Core.Logic.{◌⊎◌, inl, inr, ⊎_elim, ◌↔◌}
use Prim.Native.Nat.{ℕ, zero, suc, ◌+◌, ◌-◌, ◌≤◌, ◌<◌, zero-le}
use native.Mathlib.Nat.{le_antisymm, le_of_suc-le-suc, not-suc-le-zero}
use native.Mathlib.Omega.{arith}
use lib.ListN.{length, length-reverse}
use Rattle.regions.specs.Graph.{at, range, Edges, Within, Reach, Both}
use Rattle.regions.specs.Kosaraju.{order, labels, region_of, count}
use Rattle.regions.proofs.Laws.Lists.{◌∈◌, Nodup, range-∈, ∈-range, nodup_range, length_range, length_table, pigeonhole, nodup_below, get_or-∈, ∈-get_or, ∈-reverse, reverse-∈, nodup_reverse, get_or_reverse}
use Rattle.regions.proofs.Laws.Model.{explored, assigned, regions, number}
use Rattle.regions.proofs.Laws.Refine.{labelled, order_refines, labels_refines, labelled_at}
use Rattle.regions.proofs.Laws.Regions.{Ready, parts, regions_le, number_lt, same→both, both→same, number_onto, number_rises}
use Rattle.regions.proofs.Laws.Walks.{Ends, Inv, walked}

module _ (n : ℕ) (edge : Edges) (within : Within n edge) where
  -- ---- (1)

  finished : List ℕ
  finished = (explored n edge).finished

  inv : Inv n edge [] [] (explored n edge)
  inv = (walked n edge within).inv

  covers : (x : ℕ) → x < n → x ∈ finished
  unfolding finished
  covers x h = ⊎_elim absurd (⊎_elim absurd (λ k. k)) (inv.seen x ((walked n edge within).done x (range-∈ x zero n zero-le (omega arith))))

  length_finished : length finished ≡ n
  unfolding finished
  length_finished =
      le_antisymm (nodup_below n finished inv.nodup inv.below)
      (subst (λ (k : ℕ). k ≤ length finished) (length_range zero n)
      (pigeonhole (range zero n) finished (nodup_range zero n) (λ y h. let p = ∈-range y zero n h in covers y (omega (arith, p)))))

  order_is : order n edge ≡ reverse finished
  unfolding finished
  order_is = order_refines n edge

  pub order_nodup : Nodup (order n edge)
  unfolding finished
  order_nodup = rw order_is (nodup_reverse finished inv.nodup)

  pub order_nodes : (x : ℕ) → (x ∈ order n edge) ↔ (x < n)
  unfolding finished
  order_nodes x = rw order_is (λ h. inv.below x (∈-reverse x finished h), λ h. reverse-∈ x finished (covers x h))

  pub order_length : length (order n edge) ≡ n
  order_length = ap length order_is ∙ length-reverse finished ∙ length_finished

  -- ---- (2)

  -- the same for the nodes from the last to the first: place j is behind place k, or is k
  ends_at : (l : List ℕ) → Ends edge [] l → (k j b : ℕ) → k ≤ j → j < length l → edge (at l j) b ≡ true
      → ((i : ℕ) × (k ≤ i) × (i < length l) × (at l i ≡ b)) ⊎ Reach edge b (at l k)
  ends_at [] en k j b kj jl e = absurd (not-suc-le-zero jl)
  ends_at (z ∷ l) en zero j b kj jl e = go (en.0 (at (z ∷ l) j) b (get_or-∈ (z ∷ l) j 0 jl) e)
    where
      go : (b ∈ []) ⊎ (b ∈ (z ∷ l)) ⊎ Reach edge b z → ((i : ℕ) × (zero ≤ i) × (i < suc (length l)) × (at (z ∷ l) i ≡ b)) ⊎ Reach edge b z
      go (inl h) = absurd h
      go (inr (inl h)) = let p = ∈-get_or b (z ∷ l) 0 h in inl (p.0, zero-le, p.1, p.2)
      go (inr (inr r)) = inr r
  ends_at (z ∷ l) en (suc k) zero b kj jl e = absurd (not-suc-le-zero kj)
  ends_at (z ∷ l) en (suc k) (suc j) b kj jl e =
      ⊎_elim (λ p. inl (suc p.0, omega (arith, p.1), omega (arith, p.2), p.3)) inr
      (ends_at l en.1 k j b (le_of_suc-le-suc kj) (le_of_suc-le-suc jl) e)

  turn : (i j : ℕ) → suc (i + j) ≡ n → at (order n edge) i ≡ at finished j
  turn i j h = ap (λ l. at l i) order_is ∙ get_or_reverse finished i j 0 (h ∙ sym length_finished)

  pub order_exits : (p q b : ℕ) → p < n → q ≤ p → edge (at (order n edge) q) b ≡ true
      → ((r : ℕ) × (r ≤ p) × (at (order n edge) r ≡ b)) ⊎ Reach edge b (at (order n edge) p)
  unfolding finished
  order_exits p q b pn qp e =
      ⊎_elim
      (λ r. inl (n - suc r.0, omega (arith, r.1, r.2, length_finished), turn (n - suc r.0) r.0 (omega (arith, r.2, length_finished)) ∙ r.3))
      (λ r. inr (subst (λ (z : ℕ). Reach edge b z) (sym (turn p (n - suc p) (omega arith))) r))
      (ends_at finished inv.ends (n - suc p) (n - suc q) b (omega arith) (omega (arith, length_finished))
      (subst (λ (z : ℕ). edge z b ≡ true) (turn q (n - suc q) (omega arith)) e))

  -- ---- (3)

  ready : Ready n edge finished []
  unfolding finished assigned
  ready =
      record {
        ends = inv.ends;
        nodup = inv.nodup;
        below = inv.below;
        cover = λ y h. inl (covers y h);
        closed = λ a b e h. h;
        components = tt;
      }

  parted : Ready n edge [] (regions n edge)
  unfolding finished regions
  parted = parts n edge within finished [] ready

  covered : (a : ℕ) → a < n → a ∈ assigned (regions n edge)
  covered a h = ⊎_elim absurd (λ k. k) (parted.cover a h)

  labels_are : labels n edge ≡ labelled n (regions n edge)
  unfolding finished
  labels_are = labels_refines n edge within ready

  region_is : (a : ℕ) → a < n → at (region_of n edge) a ≡ number (regions n edge) a
  region_is a h = ap (λ s. at s.region_of a) labels_are ∙ labelled_at n (regions n edge) a h

  count_is : count n edge ≡ length (regions n edge)
  count_is = ap (λ s. s.count) labels_are

  pub region_of_length : length (region_of n edge) ≡ n
  region_of_length = ap (λ s. length s.region_of) labels_are ∙ length_table n (number (regions n edge))

  pub count_le : count n edge ≤ n
  count_le = rw count_is (regions_le n edge (regions n edge) parted.components)

  pub region_same : (a b : ℕ) → a < n → b < n → (at (region_of n edge) a ≡ at (region_of n edge) b) ↔ Both edge a b
  region_same a b ha hb = (
    λ e. same→both n edge (regions n edge) parted.components a b (covered a ha) (covered b hb) (sym (region_is a ha) ∙ e ∙ region_is b hb),
    λ p. region_is a ha ∙ both→same n edge (regions n edge) parted.components a b p ∙ sym (region_is b hb),
  )

  pub region_below : (a : ℕ) → a < n → at (region_of n edge) a < count n edge
  region_below a h = let p = number_lt (regions n edge) a (covered a h) in omega (arith, p, region_is a h, count_is)

  pub region_onto : (k : ℕ) → k < count n edge → (a : ℕ) × (a < n) × (at (region_of n edge) a ≡ k)
  region_onto k h =
      let p = number_onto n edge (regions n edge) parted.components k (omega (arith, count_is)) in
      (p.0, p.1, region_is p.0 p.1 ∙ p.3)

  pub region_rises : (a b : ℕ) → edge a b ≡ true → at (region_of n edge) a ≤ at (region_of n edge) b
  region_rises a b e =
      let w = within a b e in
      let p = number_rises n edge (regions n edge) parted.components a b e (covered b w.1) in
      omega (arith, p, region_is a w.0, region_is b w.1)
