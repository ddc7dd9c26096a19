-- How many groups there are, counted by their least places, and what a coarser grouping does to the count. A grouping is given by a number for
-- each place, its root.
--     least                 no earlier place has its root
--     classes               as many roots are met as there are least places
--     coarser_less          a coarser grouping has no more groups
--     merged_most           one that at most merges two groups has at most one fewer
-- Assumes nothing.
use mathlib.Core.Path.{◌≡◌, refl, sym, ap, ◌∙◌}
use mathlib.Core.Bool.{Bool, true, false, not, ◌&&◌, ◌||◌}
use mathlib.Core.Logic.{◌⊎◌, inl, inr, ⊎_elim}
use Prim.Native.Nat.{ℕ, zero, suc, ◌+◌, ◌≤◌, ◌<◌}
use native.Mathlib.Numerals.{add-one}
use native.Mathlib.Omega.{arith}
use lib.Dec.{eqb}
use borrow.Author.Tests.{eqb-true, eq-eqb, ne_eqb}
use Rattle.sets.specs.Members.{as_nat, count_below}
use Rattle.sets.proofs.Counts.{count_cong, count_none, count_more}
use Rattle.lists.specs.First.{some}
use Rattle.lists.proofs.Search.{never, both, some_more}
use Rattle.lists.proofs.Some.{some_at, some_none, some_found}
use Rattle.lists.proofs.Members.{count_mono, count_once}
use Rattle.circuit.specs.Forest.{redirect}
use Rattle.circuit.proofs.Lists.{same_or_not, redirect_hit, redirect_miss}

-- some place before v has the root of v
abbrev pub earlier : (ℕ → ℕ) → ℕ → Bool
earlier roots v = some (λ w. eqb (roots w) (roots v)) v

abbrev pub least : (ℕ → ℕ) → ℕ → Bool
least roots v = not (earlier roots v)

-- r is the root of some place below n
abbrev pub met : (ℕ → ℕ) → ℕ → ℕ → Bool
met roots n r = some (λ v. eqb (roots v) r) n

-- ---- truth values

holds_not : {t : Bool} → t ≡ true → not t ≡ true → ⊥
holds_not {t} e f = never (sym (ap not e) ∙ f)

not_holds : (t : Bool) → (t ≡ true → ⊥) → not t ≡ true
not_holds true h = absurd (h refl)
not_holds false h = refl

-- ---- as many roots as least places

module _ (roots : ℕ → ℕ) where
  met_more : (n r : ℕ) → met roots (suc n) r ≡ (met roots n r || eqb (roots n) r)
  met_more n r = ap (λ (m : ℕ). met roots m r) (sym (add-one n)) ∙ some_more (λ v. eqb (roots v) r) n

  met_other : (n r : ℕ) → (r ≡ roots n → ⊥) → met roots (suc n) r ≡ met roots n r
  met_other n r h = met_more n r ∙ rw (ne_eqb (roots n) r (λ e. h (sym e))) (go (met roots n r))
    where
      go : (t : Bool) → (t || false) ≡ t
      go true = refl
      go false = refl

  met_here : (n : ℕ) → met roots (suc n) (roots n) ≡ true
  met_here n = some_at (λ v. eqb (roots v) (roots n)) (suc n) n (omega arith) (eq-eqb (roots n) (roots n) refl)

  pub classes : (m n : ℕ) → ((v : ℕ) → v < n → roots v < m) → count_below (met roots n) m ≡ count_below (least roots) n
  unfolding count_below
  classes m zero below = count_none (met roots zero) m (λ r h. some_none (λ v. eqb (roots v) r) zero (λ v l. absurd (omega arith)))
  classes m (suc n) below = go (classes m n (λ v h. below v (omega arith))) (earlier roots n) refl
    where
      same : met roots n (roots n) ≡ true → (r : ℕ) → met roots (suc n) r ≡ met roots n r
      same e r =
          ⊎_elim
          (λ (q : r ≡ roots n). ap (met roots (suc n)) q ∙ met_here n ∙ sym e ∙ sym (ap (met roots n) q))
          (met_other n r)
          (same_or_not r (roots n))

      go : count_below (met roots n) m ≡ count_below (least roots) n → (t : Bool) → earlier roots n ≡ t
          → count_below (met roots (suc n)) m ≡ count_below (least roots) n + as_nat (not t)
      go ih true e = omega (arith, count_cong (met roots (suc n)) (met roots n) m (λ r h. same e r))
      go ih false e = omega (arith, count_more (met roots n) (met roots (suc n)) (roots n) m (below n (omega arith)) e (met_here n) (met_other n))

-- ---- two groupings

count_within : (P Q R : ℕ → Bool) (n : ℕ) → ((k : ℕ) → as_nat (R k) ≤ as_nat (P k) + as_nat (Q k)) → count_below R n ≤ count_below P n + count_below Q n
unfolding count_below
count_within P Q R zero h = omega arith
count_within P Q R (suc n) h = omega (arith, count_within P Q R n h, h n)

both_ways : (a b : Bool) → as_nat a ≤ as_nat (not b) + as_nat (a && b)
both_ways true true = omega arith
both_ways true false = omega arith
both_ways false true = omega arith
both_ways false false = omega arith

-- two numbers that a redirection makes one were one, or the two that it joins
redirect_cases : (l k x y : ℕ) → redirect l k x ≡ redirect l k y → (x ≡ y) ⊎ (((x ≡ l) × (y ≡ k)) ⊎ ((x ≡ k) × (y ≡ l)))
redirect_cases l k x y e = go (same_or_not x l) (same_or_not y l)
  where
    hit : (z : ℕ) → z ≡ l → redirect l k z ≡ k
    hit z q = ap (redirect l k) q ∙ redirect_hit l k

    go : (x ≡ l) ⊎ (x ≡ l → ⊥) → (y ≡ l) ⊎ (y ≡ l → ⊥) → (x ≡ y) ⊎ (((x ≡ l) × (y ≡ k)) ⊎ ((x ≡ k) × (y ≡ l)))
    go (inl p) (inl q) = inl (p ∙ sym q)
    go (inl p) (inr q) = inr (inl (p, sym (sym (hit x p) ∙ e ∙ redirect_miss l k y q)))
    go (inr p) (inl q) = inr (inr (sym (redirect_miss l k x p) ∙ e ∙ hit y q, q))
    go (inr p) (inr q) = inl (sym (redirect_miss l k x p) ∙ e ∙ redirect_miss l k y q)

-- one that joins a number with itself joins nothing
pub redirect_same : (l k : ℕ) → l ≡ k → {x y : ℕ} → redirect l k x ≡ redirect l k y → x ≡ y
redirect_same l k one {x} {y} e =
    ⊎_elim (λ q. q) (⊎_elim (λ (q : (x ≡ l) × (y ≡ k)). q.0 ∙ one ∙ sym q.1) (λ (q : (x ≡ k) × (y ≡ l)). q.0 ∙ sym one ∙ sym q.1)) (redirect_cases l k x y e)

module _ (fine coarse : ℕ → ℕ) (n : ℕ) where
  -- an earlier place of one root
  earlier_at : (roots : ℕ → ℕ) (v w : ℕ) → w < v → roots w ≡ roots v → earlier roots v ≡ true
  earlier_at roots v w h e = some_at (λ u. eqb (roots u) (roots v)) v w h (eq-eqb (roots w) (roots v) e)

  earlier_found : (roots : ℕ → ℕ) (v : ℕ) → earlier roots v ≡ true → (w : ℕ) × (w < v) × (roots w ≡ roots v)
  earlier_found roots v e =
      let f = some_found (λ w. eqb (roots w) (roots v)) v e in
      (f.0, f.1, eqb-true (roots f.0) (roots v) f.2)

  pub coarser_less : ((v w : ℕ) → v < n → w < n → fine v ≡ fine w → coarse v ≡ coarse w) → count_below (least coarse) n ≤ count_below (least fine) n
  coarser_less more = count_mono (least coarse) (least fine) n (λ v h t. not_holds (earlier fine v) (λ e.
      let f = earlier_found fine v e in
      holds_not (earlier_at coarse v f.0 f.1 (more f.0 v (omega (arith, f.1)) h f.2)) t))

  -- the coarse grouping joins what the fine one does, and the groups of the roots l and k
  module _ (l k : ℕ) (joins : (v w : ℕ) → v < n → w < n → coarse v ≡ coarse w → redirect l k (fine v) ≡ redirect l k (fine w)) where
    -- least in the fine grouping only
    abbrev lost : ℕ → Bool
    lost v = least fine v && earlier coarse v

    -- then its root is l or k, and the other is met earlier
    record Lost (v : ℕ) : Type 0 where
      other : ℕ
      before : other < v
      is : ((fine other ≡ l) × (fine v ≡ k)) ⊎ ((fine other ≡ k) × (fine v ≡ l))

    lost_is : (v : ℕ) → v < n → lost v ≡ true → Lost v
    lost_is v h t =
        let parts = both (least fine v) (earlier coarse v) t in
        let f = earlier_found coarse v parts.1 in
        record {
          other = f.0;
          before = f.1;
          is = ⊎_elim
              (λ e. absurd (holds_not (earlier_at fine v f.0 f.1 e) parts.0))
              (λ e. e)
              (redirect_cases l k (fine f.0) (fine v) (joins f.0 v (omega (arith, f.1)) h f.2));
        }

    lost_once : count_below lost n ≤ 1
    lost_once = count_once lost n (λ i j less h p q.
        let a = lost_is i (omega arith) p in
        let first = (both (least fine j) (earlier coarse j) q).0 in
        let taken : (w : ℕ) → w < j → fine w ≡ fine j → ⊥ = λ w m e. holds_not (earlier_at fine j w m e) first in
        go i j less a (lost_is j h q).is taken a.is)
      where
        go : (i j : ℕ) → i < j → (a : Lost i) → {w : ℕ} → ((w ≡ l) × (fine j ≡ k)) ⊎ ((w ≡ k) × (fine j ≡ l)) → ((w : ℕ) → w < j → fine w ≡ fine j → ⊥)
            → ((fine a.other ≡ l) × (fine i ≡ k)) ⊎ ((fine a.other ≡ k) × (fine i ≡ l)) → ⊥
        go i j less a (inl (_, e)) taken (inl (p, q)) = taken i less (q ∙ sym e)
        go i j less a (inl (_, e)) taken (inr (p, q)) = taken a.other (omega (arith, a.before)) (p ∙ sym e)
        go i j less a (inr (_, e)) taken (inl (p, q)) = taken a.other (omega (arith, a.before)) (p ∙ sym e)
        go i j less a (inr (_, e)) taken (inr (p, q)) = taken i less (q ∙ sym e)

    pub merged_most : count_below (least fine) n ≤ count_below (least coarse) n + 1
    merged_most = omega (arith, count_within (least coarse) lost (least fine) n (λ v. both_ways (least fine v) (earlier coarse v)), lost_once)
