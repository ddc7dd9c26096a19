-- The arrays say which forest they stand for.
--     follow_own      a place that is its own parent is never left
--     follow_root     rank_limit steps up the parents lead to the root
--     seen_forest     the forest that the arrays stand for, by those steps
--     represents_seen     the arrays stand for it
-- Assumes nothing.
use Prim.Native.Nat.{ℕ, zero, suc, ◌+◌, ◌≤◌, ◌<◌}
use native.Mathlib.Omega.{arith}
use mathlib.Core.Path.{◌≡◌, refl, sym, ap, ◌∙◌}
use mathlib.Core.List.{List, map}
use mathlib.Core.Logic.{⊎_elim}
use lib.ListN.{get_or, length-map}
use lib.Seq.{ext_get_or}
use Rattle.lists.specs.Limits.{component_limit, rank_limit}
use Rattle.circuit.specs.Forest.{Forest, root, rank, range, Represents, follow, seen}
use Rattle.circuit.proofs.Lists.{length_range, get_or_map, get_or_range}
use Rattle.circuit.proofs.Link.{rank-≤}

pub follow_own : (parents : List ℕ) (k v : ℕ) → get_or parents v 0 ≡ v → follow parents k v ≡ v
unfolding follow
follow_own parents zero v e = refl
follow_own parents (suc k) v e = ap (follow parents k) e ∙ follow_own parents k v e

module _ (parents ranks : List ℕ) (f : Forest) (rep : Represents parents ranks f) where
  -- enough steps: as many as the rank is below rank_limit
  follow_enough : (k v : ℕ) → v < component_limit → rank_limit ≤ rank f v + k → follow parents k v ≡ root f v
  unfolding follow
  follow_enough zero v h enough =
      ⊎_elim
      (λ e. sym ((rep.linked v h).own e))
      (λ lt. absurd (omega (arith, rank-≤ f rep.forest (get_or parents v 0) (rep.linked v h).below)))
      (rep.linked v h).rises
  follow_enough (suc k) v h enough =
      ⊎_elim
      (λ e. follow_own parents (suc k) v e ∙ sym ((rep.linked v h).own e))
      (λ lt. follow_enough k (get_or parents v 0) (rep.linked v h).below (omega arith) ∙ (rep.linked v h).same)
      (rep.linked v h).rises

  pub follow_root : (v : ℕ) → v < component_limit → follow parents rank_limit v ≡ root f v
  follow_root v h = follow_enough rank_limit v h (omega arith)

-- the arrays stand for no other forest
pub seen_forest : (parents ranks : List ℕ) (f : Forest) → Represents parents ranks f → seen parents ranks ≡ f
unfolding seen
seen_forest parents ranks f rep = λ i. record { roots = same_roots i; ranks = rep.same_ranks i }
  where
    same_roots : map (follow parents rank_limit) (range component_limit) ≡ f.roots
    same_roots =
        ext_get_or 0 _ f.roots (length-map (range component_limit) (follow parents rank_limit) ∙ length_range component_limit ∙ sym rep.forest.roots_length)
        (λ v h.
        let lt : v < component_limit = omega (arith, length-map (range component_limit) (follow parents rank_limit), length_range component_limit) in
        get_or_map (follow parents rank_limit) (range component_limit) v (rw (length_range component_limit) lt)
        ∙ ap (follow parents rank_limit) (get_or_range component_limit v lt)
        ∙ follow_root parents ranks f rep v lt)

pub represents_seen : (parents ranks : List ℕ) (f : Forest) → Represents parents ranks f → Represents parents ranks (seen parents ranks)
represents_seen parents ranks f rep = rw (seen_forest parents ranks f rep) rep
