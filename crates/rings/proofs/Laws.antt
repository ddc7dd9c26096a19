-- A region has a ring exactly if it has at least as many joined pairs as members.
--     join_split, joins_same     the pairs of distinct nodes, and those of a node and itself; of tests that agree
--     ring_laws                  what specs/Rings.antt states
-- Assumes nothing.
use Rattle.std.specs.Prelude.{Option, Some, None}
use mathlib.Core.Path.{◌≡◌, refl, sym, ap, ap₂, ◌∙◌}
use mathlib.Core.Bool.{Bool, true, false, ◌&&◌, ◌||◌, false≢true}
use mathlib.Core.Logic.{inl, inr, ⊎_elim}
use Prim.Native.Nat.{ℕ, zero, suc, ◌+◌, ◌≤◌, ◌<◌}
use native.Mathlib.Omega.{arith}
use lib.Dec.{ltb}
use borrow.Author.Tests.{eqb-true, eq-eqb, ltb-true, lt-ltb, leb-true, le-leb}
use Rattle.sets.specs.Members.{count_below}
use Rattle.sets.proofs.Counts.{count_cong, count_none}
use Rattle.tables.specs.Laws.{order?}
use Rattle.lists.specs.First.{first_from}
use Rattle.lists.proofs.Search.{both, found_at, none_found}
use Rattle.lists.proofs.Members.{count_less}
use Rattle.regions.specs.Graph.{Edges, Within, Reach, here, step, Both, at}
use Rattle.regions.specs.Kosaraju.{region_of}
use Rattle.regions.proofs.Theorems.{region_laws}
use Rattle.rings.specs.Rings.{RingOfThree, SelfEdge, HasRing, joined, pair_count, join_count, in_region, ring_test, RingLaws}
use Rattle.rings.proofs.Pairs.{count_same}
use Rattle.rings.proofs.Closed.{or_cases, one_way, pairs_ring, joined_most, ring_pairs}

-- ---- nodes joined to themselves

pub join_split : (test : Edges) (n : ℕ) → join_count test n ≡ pair_count test n + count_below (λ a. test a a) n
unfolding join_count pair_count count_below
join_split test zero = refl
join_split test (suc b) = omega (arith, join_split test b)

pub joins_same : (test test' : Edges) (n : ℕ) → ((a b : ℕ) → a < n → b < n → test a b ≡ test' a b) → join_count test n ≡ join_count test' n
joins_same test test' n h =
    omega (
      arith,
      join_split test n,
      join_split test' n,
      count_same test test' n h,
      count_cong (λ a. test a a) (λ a. test' a a) n (λ a l. h a a l l),
    )

-- a number that passes is counted
pub count_some : (test : ℕ → Bool) (n a : ℕ) → a < n → test a ≡ true → 1 ≤ count_below test n
count_some test n a l h = omega (arith, count_less (λ _. false) test n (λ i m f. absurd (false≢true f)) a l refl h)

pub some_counted : (test : ℕ → Bool) (n : ℕ) → 1 ≤ count_below test n → (a : ℕ) × (a < n) × (test a ≡ true)
some_counted test n h = go (first_from test 0 n) refl
  where
    go : (f : Option ℕ) → first_from test 0 n ≡ f → (a : ℕ) × (a < n) × (test a ≡ true)
    go (Some a) e = let f = found_at test 0 n a e in (a, omega (arith, f.below), f.passes)
    go None e =
        absurd (omega (arith, h, count_none test n (λ k l. none_found test 0 n e k (omega arith) (omega arith))))

-- ---- the regions of the quick walk

pub reach_below : {n : ℕ} {edge : Edges} → Within n edge → {a b : ℕ} → Reach edge a b → a < n → b < n
reach_below within here h = h
reach_below within (step {a} {b} e p) h = reach_below within p (within a b e).1

module _ (n : ℕ) (edge : Edges) (within : Within n edge) (r : ℕ) (below : r < n) where
  abbrev mine : ℕ → Bool
  mine = in_region n edge (at (region_of n edge) r)

  -- the members below n
  part : ℕ → Bool
  part a = ltb a n && in_region n edge (at (region_of n edge) r) a

  part_low : (a : ℕ) → part a ≡ true → a < n
  unfolding part
  part_low a h = ltb-true a n (both (ltb a n) (mine a) h).0

  part_of : (a : ℕ) → part a ≡ true → Both edge r a
  unfolding part
  part_of a h =
      let p = both (ltb a n) (mine a) h in
      let q = ((region_laws n edge within).same a r (part_low a h) below).0 (eqb-true _ _ p.1) in
      (q.1, q.0)

  all_part : (a : ℕ) → Both edge r a → part a ≡ true
  unfolding part
  all_part a p =
      let l = reach_below within p.0 below in
      ap₂ ◌&&◌ (lt-ltb a n l) (eq-eqb _ _ (((region_laws n edge within).same a r l below).1 (p.1, p.0)))

  part_same : (a : ℕ) → a < n → mine a ≡ part a
  unfolding part
  part_same a h = sym (ap (λ t. t && mine a) (lt-ltb a n h))

  joined_part : (a b : ℕ) → a < n → b < n → joined edge mine a b ≡ joined edge part a b
  joined_part a b ha hb = ap₂ (λ (u : Bool) (v : Bool). u && (v && (edge a b || edge b a))) (part_same a ha) (part_same b hb)

  members_same : count_below mine n ≡ count_below part n
  members_same = count_cong mine part n part_same

  pairs_same : pair_count (joined edge mine) n ≡ pair_count (joined edge part) n
  pairs_same = count_same (joined edge mine) (joined edge part) n joined_part

  most : count_below mine n ≤ pair_count (joined edge mine) n + 1
  most = omega (arith, joined_most n edge r part part_low part_of all_part, members_same, pairs_same)

  enough_three : count_below mine n ≤ pair_count (joined edge mine) n → RingOfThree edge r
  enough_three h = pairs_ring n edge r part part_low part_of all_part (omega (arith, h, members_same, pairs_same))

  three_enough : RingOfThree edge r → count_below mine n ≤ pair_count (joined edge mine) n
  three_enough t = omega (arith, ring_pairs n edge r part part_low part_of all_part t, members_same, pairs_same)

  -- ---- with the nodes joined to themselves

  self_counted : SelfEdge edge r → 1 ≤ count_below (λ a. joined edge mine a a) n
  self_counted s =
      let l = part_low s.0 (all_part s.0 s.1) in
      let here = part_same s.0 l ∙ all_part s.0 s.1 in
      count_some (λ a. joined edge mine a a) n s.0 l (rw (here, s.2) refl)

  counted_self : 1 ≤ count_below (λ a. joined edge mine a a) n → SelfEdge edge r
  counted_self h =
      let f = some_counted (λ a. joined edge mine a a) n h in
      let p = both (mine f.0) (mine f.0 && (edge f.0 f.0 || edge f.0 f.0)) f.2 in
      let q = both (mine f.0) (edge f.0 f.0 || edge f.0 f.0) p.1 in
      (f.0, part_of f.0 (sym (part_same f.0 f.1) ∙ p.0), ⊎_elim (λ e. e) (λ e. e) (or_cases (edge f.0 f.0) (edge f.0 f.0) q.1))

  test_ring : ring_test n edge mine ≡ true → HasRing edge r
  test_ring e =
      let all = leb-true (count_below mine n) (join_count (joined edge mine) n) e in
      ⊎_elim
      (λ (h : 1 ≤ count_below (λ a. joined edge mine a a) n). inr (counted_self h))
      (λ (h : count_below (λ a. joined edge mine a a) n < 1).
      inl (enough_three (omega (arith, all, join_split (joined edge mine) n, h))))
      (order? 1 (count_below (λ a. joined edge mine a a) n))

  ring_tested : HasRing edge r → ring_test n edge mine ≡ true
  ring_tested (inl t) =
      le-leb (count_below mine n) (join_count (joined edge mine) n) (omega (arith, three_enough t, join_split (joined edge mine) n))
  ring_tested (inr s) =
      le-leb (count_below mine n) (join_count (joined edge mine) n) (omega (arith, self_counted s, most, join_split (joined edge mine) n))

  pub ring_laws : RingLaws n edge r
  ring_laws =
      record {
        three = (
          λ e. enough_three (leb-true (count_below mine n) (pair_count (joined edge mine) n) e),
          λ t. le-leb (count_below mine n) (pair_count (joined edge mine) n) (three_enough t),
        );
        any = (test_ring, ring_tested);
        one_way = one_way edge r;
        connected = most;
      }
