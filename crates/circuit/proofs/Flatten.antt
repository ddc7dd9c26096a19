-- The steps of `find`.
--     gap_falls       the measure falls from a place to its parent
--     flatten         a place whose parent becomes its root: the same forest
--     near_found      v's parent is a root, as where v is one
--     parent_found    what was found of v's parent is found of v, once v has it for a parent
-- Assumes nothing.
use Prim.Native.Nat.{ℕ, zero, suc, ◌-◌, ◌<◌}
use native.Mathlib.Omega.{arith}
use mathlib.Core.Path.{◌≡◌, refl, sym, ap, ◌∙◌}
use mathlib.Core.List.{List}
use mathlib.Core.Logic.{◌⊎◌, inl, inr, ⊎_elim, ◌≢◌}
use lib.ListN.{length, get_or, set, length-set}
use Rattle.lists.specs.Limits.{component_limit, rank_limit}
use Rattle.circuit.specs.Forest.{Forest, root, Rooted, Linked, Represents, IsForest, follow, Found}
use Rattle.circuit.proofs.Lists.{same_or_not}
use Rattle.circuit.proofs.Link.{rank-≤, stored_same, stored_other}
use Rattle.circuit.proofs.Follow.{follow_own}

-- what falls from a place to its parent: the gap from the rank to rank_limit
pub gap_falls : (parents ranks : List ℕ) (f : Forest) → Represents parents ranks f → (v : ℕ) → v < component_limit → get_or parents v 0 ≢ v
    → rank_limit - get_or ranks (get_or parents v 0) 0 < rank_limit - get_or ranks v 0
gap_falls parents ranks f rep v h n =
    rw rep.same_ranks
    (⊎_elim (λ e. absurd (n e)) (λ lt. omega (arith, rank-≤ f rep.forest (get_or parents v 0) (rep.linked v h).below)) (rep.linked v h).rises)

-- the place v gets its root for a parent
pub flatten : (parents ranks : List ℕ) (f : Forest) (v : ℕ) → v < component_limit → Represents parents ranks f → Represents (set parents v (root f v)) ranks f
flatten parents ranks f v h rep =
    record {
      forest = rep.forest;
      same_ranks = rep.same_ranks;
      parents_length = length-set parents v (root f v) ∙ rep.parents_length;
      linked = λ w hw. at w hw (same_or_not w v);
    }
  where
    fits : v < length parents
    fits = omega (arith, rep.parents_length)

    here : Rooted f v (root f v)
    here = rep.forest.rooted v h

    at : (w : ℕ) → w < component_limit → (w ≡ v) ⊎ (w ≢ v) → Linked f w (get_or (set parents v (root f v)) w 0)
    at w hw (inl e) =
        rw (stored_same parents v (root f v) fits w e, e)
        record { below = here.below; same = here.fixed; own = λ p. p; rises = here.rises }
    at w hw (inr n) = rw (stored_other parents v (root f v) fits w n) (rep.linked w hw)

pub near_found : (parents ranks : List ℕ) (v : ℕ) → v < component_limit → IsForest parents ranks → get_or parents (get_or parents v 0) 0 ≡ get_or parents v 0
    → Found parents parents ranks v (get_or parents v 0)
unfolding follow
near_found parents ranks v h (f₀, rep₀) e =
    record { below = below; finds = finds; flat = flat }
  where
    below : get_or parents v 0 < component_limit
    below = (rep₀.linked v h).below

    finds : (f : Forest) → Represents parents ranks f → (get_or parents v 0 ≡ root f v) × Represents parents ranks f
    finds f rep = (sym ((rep.linked (get_or parents v 0) below).own e) ∙ (rep.linked v h).same, rep)

    flat : (k : ℕ) → get_or parents (follow parents k v) 0 ≡ get_or parents v 0
    flat zero = refl
    flat (suc k) = ap (λ (w : ℕ). get_or parents w 0) (follow_own parents k (get_or parents v 0) e) ∙ e

pub parent_found : (parents parents' ranks : List ℕ) (v r : ℕ) → v < component_limit → IsForest parents ranks
    → Found parents parents' ranks (get_or parents v 0) r → Found parents (set parents' v r) ranks v r
unfolding follow
parent_found parents parents' ranks v r h (f₀, rep₀) found =
    record { below = found.below; finds = finds; flat = flat }
  where
    finds : (f : Forest) → Represents parents ranks f → (r ≡ root f v) × Represents (set parents' v r) ranks f
    finds f rep =
        let one = found.finds f rep in
        let r_root : r ≡ root f v = one.0 ∙ (rep.linked v h).same in
        (r_root, rw r_root (flatten parents' ranks f v h one.1))

    fits : v < length parents'
    fits = omega (arith, (found.finds f₀ rep₀).1.parents_length)

    at : (w : ℕ) → get_or parents' w 0 ≡ r → (w ≡ v) ⊎ (w ≢ v) → get_or (set parents' v r) w 0 ≡ r
    at w e (inl q) = stored_same parents' v r fits w q
    at w e (inr n) = stored_other parents' v r fits w n ∙ e

    flat : (k : ℕ) → get_or (set parents' v r) (follow parents k v) 0 ≡ r
    flat zero = stored_same parents' v r fits v refl
    flat (suc k) = at (follow parents k (get_or parents v 0)) (found.flat k) (same_or_not (follow parents k (get_or parents v 0)) v)
