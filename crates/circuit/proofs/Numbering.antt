-- Theorems on the groups' numbers of specs/Groups.antt (document 01, "circuit.rs: groups").
--     group_same          two places have one number exactly where they have one root
--     roots_most          there are no more groups than places
--     group_below         a place's number is below the number of groups
--     group_onto          each number below the number of groups is a root's: no gap, and no group without a member
--     all_well_formed     pairs of places, united one after the other from single places, leave a well-formed forest
--     group_joined        there, two places have one number exactly where the pairs join them
--     joined_more         what some pairs join, more pairs join
--     Stays, roots_stay   pairs of places below n leave the roots of these below n, and every other place its own root
-- Assumes nothing.
use Prim.Native.Nat.{ℕ, zero, suc, ◌+◌, ◌≤◌, ◌<◌, zero-le}
use native.Mathlib.Nat.{le_of_suc-le-suc, not-suc-le-zero, eq-or-lt_of_le}
use native.Mathlib.Omega.{arith}
use mathlib.Core.Path.{◌≡◌, refl, sym, ap, ◌∙◌}
use mathlib.Core.Bool.{Bool, true, false, cond}
use mathlib.Core.List.{List, [], ◌∷◌, Memᴰ}
use mathlib.Core.Logic.{◌⊎◌, inl, inr, ⊎_elim, ◌↔◌}
use lib.ListN.{length}
use borrow.Author.Tests.{eqb-true, eq-eqb}
use Rattle.lists.specs.Limits.{component_limit}
use Rattle.circuit.specs.Forest.{Forest, root, singletons, unite, unite_all, WellFormed}
use Rattle.circuit.specs.Connected.{Joined, pair, same, flip, chain, PairsBelow, PlacePairs}
use Rattle.circuit.specs.Groups.{is_root, roots_below, group_of}
use Rattle.circuit.proofs.Lists.{three_ways}
use Rattle.circuit.proofs.Link.{singleton_root, singletons_length, singletons_well_formed}
use Rattle.circuit.proofs.Unite.{united_well_formed}
use Rattle.circuit.proofs.Closure.{Merges, unite_merges, connected}

-- a root counts among those below any later place
roots_rise : (f : Forest) (r : ℕ) → root f r ≡ r → (n : ℕ) → r < n → roots_below f r < roots_below f n
unfolding roots_below
roots_rise f r e zero h = absurd (not-suc-le-zero h)
roots_rise f r e (suc n) h =
    ⊎_elim
    (λ q. rw (eq-eqb (root f n) n (ap (root f) (sym q) ∙ e ∙ q)) (omega (arith, ap (roots_below f) q)))
    (λ lt. omega (arith, roots_rise f r e n lt))
    (eq-or-lt_of_le (le_of_suc-le-suc h))

pub roots_most : (f : Forest) (n : ℕ) → roots_below f n ≤ n
unfolding roots_below
roots_most f zero = zero-le
roots_most f (suc n) = go (is_root f n) (roots_most f n)
  where
    go : (t : Bool) → roots_below f n ≤ n → roots_below f n + cond t 1 0 ≤ suc n
    go true h = omega arith
    go false h = omega arith

pub group_below : (f : Forest) → WellFormed f → (n v : ℕ) → v < component_limit → root f v < n → group_of f v < roots_below f n
group_below f wf n v h lt = roots_rise f (root f v) (wf.rooted v h).fixed n lt

pub group_same : (f : Forest) → WellFormed f → (v w : ℕ) → v < component_limit → w < component_limit → (group_of f v ≡ group_of f w) ↔ (root f v ≡ root f w)
group_same f wf v w hv hw = (
  λ e. ⊎_elim
      (λ lt. absurd (omega (arith, group_below f wf (root f w) v hv lt)))
      (⊎_elim (λ q. q) (λ lt. absurd (omega (arith, group_below f wf (root f v) w hw lt))))
      (three_ways (root f v) (root f w)),
  λ e. ap (roots_below f) e,
)

pub group_onto : (f : Forest) (n g : ℕ) → g < roots_below f n → (v : ℕ) × (v < n) × (is_root f v ≡ true) × (group_of f v ≡ g)
unfolding roots_below
group_onto f zero g h = absurd (not-suc-le-zero h)
group_onto f (suc n) g h = go (is_root f n) refl h (λ lt. let (v, below, own, e) = group_onto f n g lt in (v, omega arith, own, e))
  where
    go : (t : Bool) → is_root f n ≡ t → g < roots_below f n + cond t 1 0
        → (g < roots_below f n → (v : ℕ) × (v < suc n) × (is_root f v ≡ true) × (group_of f v ≡ g))
        → (v : ℕ) × (v < suc n) × (is_root f v ≡ true) × (group_of f v ≡ g)
    go true own h before =
        ⊎_elim
        (λ e. (n, omega arith, own, ap (roots_below f) (eqb-true (root f n) n own) ∙ sym e))
        before
        (eq-or-lt_of_le (le_of_suc-le-suc (omega arith)))
    go false own h before = before (omega arith)

pub all_well_formed : (pairs : List (ℕ × ℕ)) → PlacePairs pairs → WellFormed (unite_all singletons pairs)
all_well_formed pairs bounded = united_well_formed pairs singletons singletons_well_formed bounded

pub group_joined : (pairs : List (ℕ × ℕ)) → PlacePairs pairs → (v w : ℕ) → v < component_limit → w < component_limit
    → (group_of (unite_all singletons pairs) v ≡ group_of (unite_all singletons pairs) w) ↔ Joined pairs v w
group_joined pairs bounded v w hv hw =
    let numbers = group_same (unite_all singletons pairs) (all_well_formed pairs bounded) v w hv hw in
    let roots = connected pairs bounded v w hv hw in
    (λ e. roots.0 (numbers.0 e), λ j. numbers.1 (roots.1 j))

pub joined_more : (pairs pairs' : List (ℕ × ℕ)) → ((a b : ℕ) → Memᴰ (a, b) pairs → Memᴰ (a, b) pairs') → {a b : ℕ} → Joined pairs a b → Joined pairs' a b
joined_more pairs pairs' more (pair {a} {b} m) = pair (more a b m)
joined_more pairs pairs' more same = same
joined_more pairs pairs' more (flip j) = flip (joined_more pairs pairs' more j)
joined_more pairs pairs' more (chain i j) = chain (joined_more pairs pairs' more i) (joined_more pairs pairs' more j)

-- no group reaches over the place n
pub record Stays (f : Forest) (n : ℕ) : Type 0 where
  pub inside : (v : ℕ) → v < n → root f v < n
  pub alone : (v : ℕ) → n ≤ v → v < component_limit → root f v ≡ v

module _ (n : ℕ) (limit : n ≤ component_limit) where
  unite_stays : (f g : Forest) (a b : ℕ) → a < n → b < n → Stays f n → Merges f g (root f a) (root f b) → Stays g n
  unite_stays f g a b ha hb stays m =
      record {
        inside = λ v h. rw (m.mapped v (omega arith)) (within (root f v) (stays.inside v h) (m.moves (root f v)));
        alone = λ v h lt. m.mapped v lt ∙ ap m.to (stays.alone v h lt) ∙ apart v h (m.moves v);
      }
    where
      within : (x : ℕ) → x < n → (m.to x ≡ x) ⊎ (((x ≡ root f a) × (m.to x ≡ root f b)) ⊎ ((x ≡ root f b) × (m.to x ≡ root f a))) → m.to x < n
      within x h (inl e) = omega arith
      within x h (inr (inl e)) = omega (arith, e.1, stays.inside b hb)
      within x h (inr (inr e)) = omega (arith, e.1, stays.inside a ha)

      apart : (v : ℕ) → n ≤ v → (m.to v ≡ v) ⊎ (((v ≡ root f a) × (m.to v ≡ root f b)) ⊎ ((v ≡ root f b) × (m.to v ≡ root f a))) → m.to v ≡ v
      apart v h (inl e) = e
      apart v h (inr (inl e)) = absurd (omega (arith, e.0, stays.inside a ha))
      apart v h (inr (inr e)) = absurd (omega (arith, e.0, stays.inside b hb))

  united_stays : (pairs : List (ℕ × ℕ)) (f : Forest) → length f.roots ≡ component_limit → PairsBelow n pairs → Stays f n → Stays (unite_all f pairs) n
  unfolding unite_all
  united_stays [] f len bounded stays = stays
  united_stays (p ∷ pairs) f len bounded stays =
      let here = bounded p.0 p.1 (Memᴰ.head refl) in
      let m = unite_merges f len p.0 p.1 in
      united_stays pairs (unite f p.0 p.1) m.length_kept (λ a b at. bounded a b (Memᴰ.tail at))
      (unite_stays f (unite f p.0 p.1) p.0 p.1 here.0 here.1 stays m)

  pub roots_stay : (pairs : List (ℕ × ℕ)) → PairsBelow n pairs → Stays (unite_all singletons pairs) n
  roots_stay pairs bounded =
      united_stays pairs singletons singletons_length bounded
      record { inside = λ v h. rw (singleton_root v (omega arith)) h; alone = λ v h lt. singleton_root v lt }
