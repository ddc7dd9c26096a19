-- Union by rank on two roots l and r, case by case: what `unite_roots` is, and that the arrays' stores stand for it.
--     rank_fits       a rank in the array is at most rank_limit
--     unite_same, unite_left_lower, unite_right_lower, unite_level   the definition's four cases
--     one_root        two places of one root: nothing changes
--     left_lower      the left root goes under the right one
--     right_lower     the right root goes under the left one
--     level           so it does at equal rank, and the left root's rank grows
--     unite_well_formed, united_well_formed   a union, and a list of them, keeps a forest well formed
-- Assumes nothing.
use Prim.Native.Nat.{ℕ, ◌+◌, ◌^◌, ◌≤◌, ◌<◌}
use native.Mathlib.Nat.{pow-suc, le_refl, le_of_lt}
use native.Mathlib.Numerals.{add-one}
use native.Mathlib.Omega.{arith}
use mathlib.Core.Path.{◌≡◌, refl, sym, ap, ◌∙◌, subst}
use mathlib.Core.List.Memᴰ
use mathlib.Core.List.{List, [], ◌∷◌}
use mathlib.Core.Logic.{◌⊎◌, inl, inr, ◌≢◌}
use lib.ListN.{get_or, set}
use lib.Seq.{set-get_or}
use borrow.Author.Tests.{eq-eqb, ne_eqb, lt-ltb, le-ltb}
use Rattle.lists.specs.Limits.{component_limit, rank_limit}
use Rattle.circuit.specs.Forest.{Forest, root, rank, count, link, unite_roots, unite, unite_all, Rooted, WellFormed, Represents}
use Rattle.circuit.specs.Connected.{PlacePairs}
use Rattle.circuit.proofs.Lists.{same_or_not, three_ways}
use Rattle.circuit.proofs.Link.{rank-≤, link_represents}

pub rank_fits : (parents ranks : List ℕ) (f : Forest) → Represents parents ranks f → (v : ℕ) → v < component_limit → get_or ranks v 0 ≤ rank_limit
rank_fits parents ranks f rep v h = rw rep.same_ranks (rank-≤ f rep.forest v h)

module _ (f : Forest) (l r : ℕ) where
  pub unite_same : l ≡ r → unite_roots f l r ≡ f
  unfolding unite_roots
  unite_same e = rw (eq-eqb l r e)

  pub unite_left_lower : l ≢ r → rank f l < rank f r → unite_roots f l r ≡ link f l r (rank f r)
  unfolding unite_roots
  unite_left_lower n lt = rw (ne_eqb l r n, lt-ltb (rank f l) (rank f r) lt)

  pub unite_right_lower : l ≢ r → rank f r < rank f l → unite_roots f l r ≡ link f r l (rank f l)
  unfolding unite_roots
  unite_right_lower n lt = rw (ne_eqb l r n, le-ltb (rank f l) (rank f r) (le_of_lt lt), lt-ltb (rank f r) (rank f l) lt)

  pub unite_level : l ≢ r → rank f l ≡ rank f r → unite_roots f l r ≡ link f r l (rank f l + 1)
  unfolding unite_roots
  unite_level n e =
      rw (ne_eqb l r n, le-ltb (rank f l) (rank f r) (omega arith), le-ltb (rank f r) (rank f l) (omega arith))

-- two places of one root: nothing changes
pub one_root : (f : Forest) (left right : ℕ) → root f left ≡ root f right → f ≡ unite f left right
unfolding unite
one_root f left right e = sym (unite_same f (root f left) (root f right) e)

-- two roots of equal rank have twice the places between them
two_trees : (k : ℕ) {a b : ℕ} → 2 ^ k ≤ a → 2 ^ k ≤ b → 2 ^ (k + 1) ≤ a + b
two_trees k ha hb = omega (arith, ap (λ (n : ℕ). 2 ^ n) (add-one k) ∙ pow-suc 2 k)

module _ (parents ranks : List ℕ) (f : Forest) (rep : Represents parents ranks f) where
  heavy : (v : ℕ) → v < component_limit → root f v ≡ v → 2 ^ rank f v ≤ count v f.roots
  heavy v h e = (rep.forest.rooted v h).heavy e

  -- a link that leaves the winner its rank
  link_lower : (loser winner : ℕ) → loser < component_limit → winner < component_limit → root f loser ≡ loser → root f winner ≡ winner → loser ≢ winner
      → rank f loser < rank f winner → Represents (set parents loser winner) ranks (link f loser winner (rank f winner))
  link_lower loser winner hl hw el ew n lt =
      let kept : set ranks winner (rank f winner) ≡ ranks = ap (λ (x : List ℕ). set ranks winner (get_or x winner 0)) (sym rep.same_ranks) ∙ set-get_or ranks winner 0 in
      rw kept at (link_represents f rep.forest loser winner (rank f winner) hl hw el ew n lt (le_refl (rank f winner)) (omega (arith, heavy winner hw ew)) parents ranks rep)

  -- of two roots
  module _ (l r : ℕ) (l_below : l < component_limit) (r_below : r < component_limit) (l_root : root f l ≡ l) (r_root : root f r ≡ r) where
    pub left_lower : l ≢ r → get_or ranks l 0 < get_or ranks r 0 → Represents (set parents l r) ranks (unite_roots f l r)
    left_lower n lt =
        let lt' : rank f l < rank f r = rw rep.same_ranks at lt in
        rw (unite_left_lower f l r n lt') (link_lower l r l_below r_below l_root r_root n lt')

    pub right_lower : l ≢ r → get_or ranks r 0 < get_or ranks l 0 → Represents (set parents r l) ranks (unite_roots f l r)
    right_lower n lt =
        let lt' : rank f r < rank f l = rw rep.same_ranks at lt in
        rw (unite_right_lower f l r n lt') (link_lower r l r_below l_below r_root l_root (λ e. n (sym e)) lt')

    pub level : l ≢ r → get_or ranks l 0 ≡ get_or ranks r 0
        → Represents (set parents r l) (set ranks l (get_or ranks l 0 + 1)) (unite_roots f l r)
    level n e =
        let e' : rank f l ≡ rank f r = rw rep.same_ranks at e in
        let kept : get_or ranks l 0 ≡ rank f l = ap (λ (x : List ℕ). get_or x l 0) rep.same_ranks in
        let weight : 2 ^ (rank f l + 1) ≤ count l f.roots + count r f.roots = two_trees (rank f l) (heavy l l_below l_root) (rw e' (heavy r r_below r_root)) in
        rw (unite_level f l r n e', kept)
        (link_represents f rep.forest r l (rank f l + 1) r_below l_below r_root l_root (λ q. n (sym q)) (omega arith) (omega arith) weight parents ranks rep)

-- the roots themselves are parents that stand for the forest
own_represents : (f : Forest) → WellFormed f → Represents f.roots f.ranks f
own_represents f wf =
    record {
      forest = wf;
      same_ranks = refl;
      parents_length = wf.roots_length;
      linked = λ v h. record { below = (wf.rooted v h).below; same = (wf.rooted v h).fixed; own = λ e. e; rises = (wf.rooted v h).rises };
    }

pub unite_well_formed : (f : Forest) → WellFormed f → (left right : ℕ) → left < component_limit → right < component_limit → WellFormed (unite f left right)
unfolding unite
unite_well_formed f wf left right hl hr = go (same_or_not l r) (three_ways (rank f l) (rank f r))
  where
    rep : Represents f.roots f.ranks f
    rep = own_represents f wf

    l : ℕ
    l = root f left

    r : ℕ
    r = root f right

    at : Rooted f left l
    at = wf.rooted left hl

    at' : Rooted f right r
    at' = wf.rooted right hr

    go : (l ≡ r) ⊎ (l ≢ r) → (rank f l < rank f r) ⊎ ((rank f l ≡ rank f r) ⊎ (rank f r < rank f l)) → WellFormed (unite_roots f l r)
    go (inl e) way = subst WellFormed (sym (unite_same f l r e)) wf
    go (inr n) (inl lt) = (left_lower _ _ f rep l r at.below at'.below at.fixed at'.fixed n lt).forest
    go (inr n) (inr (inl e)) = (level _ _ f rep l r at.below at'.below at.fixed at'.fixed n e).forest
    go (inr n) (inr (inr lt)) = (right_lower _ _ f rep l r at.below at'.below at.fixed at'.fixed n lt).forest

pub united_well_formed : (pairs : List (ℕ × ℕ)) (f : Forest) → WellFormed f → PlacePairs pairs → WellFormed (unite_all f pairs)
unfolding unite_all
united_well_formed [] f wf bounded = wf
united_well_formed (p ∷ pairs) f wf bounded =
    let here = bounded p.0 p.1 (Memᴰ.head refl) in
    united_well_formed pairs (unite f p.0 p.1) (unite_well_formed f wf p.0 p.1 here.0 here.1) (λ a b m. bounded a b (Memᴰ.tail m))
