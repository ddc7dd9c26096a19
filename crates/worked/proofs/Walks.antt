-- Graphs: the walks and the regions of crate `regions`, computed at small ones, and a use of its theorems.
-- Assumes nothing.
use mathlib.Core.Path.{◌≡◌, refl, sym, subst}
use mathlib.Core.Bool.{Bool, true, false, ◌||◌, ◌&&◌, false≢true}
use mathlib.Core.List.{List, [], ◌∷◌}
use Prim.Native.Nat.{ℕ, ◌<◌}
use native.Mathlib.Omega.{arith}
use borrow.Author.Tests.{eqb-true}
use lib.Dec.{eqb}
use Rattle.regions.specs.Graph.{range, filter, each, Edges, Within, next, Both}
use Rattle.regions.specs.Kosaraju.{visit, order, paint, label, labels, region_of, count, reached}
use Rattle.regions.proofs.Theorems.{region_laws}

-- the edges of a list of pairs
pairs : List (ℕ × ℕ) → Edges
pairs [] a b = false
pairs (e ∷ l) a b = (eqb a e.0 && eqb b e.1) || pairs l a b

abbrev Below : ℕ → List (ℕ × ℕ) → Type 0
Below n [] = Unit {0}
Below n (e ∷ l) = (e.0 < n) × (e.1 < n) × Below n l

pairs_within : (n : ℕ) (l : List (ℕ × ℕ)) → Below n l → Within n (pairs l)
unfolding pairs
pairs_within n [] h a b q = absurd (false≢true q)
pairs_within n (e ∷ l) h a b q = go (eqb a e.0) refl (eqb b e.1) refl (pairs_within n l h.2 a b) q
  where
    go : (x : Bool) → eqb a e.0 ≡ x → (y : Bool) → eqb b e.1 ≡ y → (pairs l a b ≡ true → (a < n) × (b < n))
        → ((x && y) || pairs l a b) ≡ true → (a < n) × (b < n)
    go true p true r ih q = (subst (λ (z : ℕ). z < n) (sym (eqb-true a e.0 p)) h.0, subst (λ (z : ℕ). z < n) (sym (eqb-true b e.1 r)) h.1)
    go true p false r ih q = ih q
    go false p y r ih q = ih q

-- 0 → 1 → 2 → 0, 2 → 3, 3 ⇄ 4, 5 → 4: the components {5}, {0, 1, 2} and {3, 4}
six : Edges
six = pairs ((0, 1) ∷ (1, 2) ∷ (2, 0) ∷ (2, 3) ∷ (3, 4) ∷ (4, 3) ∷ (5, 4) ∷ [])

six_order : order 6 six ≡ 4 ∷ 3 ∷ 2 ∷ 1 ∷ 0 ∷ 5 ∷ []
unfolding six pairs range filter each next visit order
six_order = refl

six_regions : region_of 6 six ≡ 1 ∷ 1 ∷ 1 ∷ 2 ∷ 2 ∷ 0 ∷ []
unfolding six pairs range filter each next visit order paint label labels
six_regions = refl

six_count : count 6 six ≡ 3
unfolding six pairs range filter each next visit order paint label labels
six_count = refl

-- no edge: every node is a component
bare_regions : region_of 3 (pairs []) ≡ 2 ∷ 1 ∷ 0 ∷ []
unfolding pairs range filter each next visit order paint label labels
bare_regions = refl

six_within : Within 6 six
unfolding six
six_within = pairs_within 6 _ (omega arith)

-- 0 and 2 have the same region number, so they reach each other
six_both : Both six 0 2
unfolding six pairs range filter each next visit order paint label labels
six_both = ((region_laws 6 six six_within).same 0 2 (omega arith) (omega arith)).0 refl

-- 3 and 5 reach 4 and themselves
six_reached : reached 6 six (false ∷ false ∷ false ∷ true ∷ false ∷ true ∷ []) ≡ false ∷ false ∷ false ∷ true ∷ true ∷ true ∷ []
unfolding six pairs range filter each next visit reached
six_reached = refl
