-- After union by rank over a list of pairs, two places have the same root exactly where the pairs join them.
--     Merges, unite_merges     what a union does to the roots: it maps them, and the two roots to one
--     joined_root              what the pairs join has one root
--     root_joined              a place is joined with its root
--     connected                the theorem
-- Assumes nothing.
use Prim.Native.Nat.{ℕ, ◌+◌, ◌<◌}
use mathlib.Core.Path.{◌≡◌, refl, sym, ap, ◌∙◌, subst}
use mathlib.Core.List.Memᴰ
use mathlib.Core.List.{List, [], ◌∷◌, Memᴰ}
use mathlib.Core.Logic.{◌⊎◌, inl, inr, ⊎_elim, ◌↔◌, ◌≢◌}
use lib.ListN.{length, length-map}
use Rattle.lists.specs.Limits.{component_limit}
use Rattle.circuit.specs.Forest.{Forest, root, rank, singletons, redirect, link, unite_roots, unite, unite_all}
use Rattle.circuit.specs.Connected.{Joined, pair, same, flip, chain, PlacePairs}
use Rattle.circuit.proofs.Lists.{same_or_not, three_ways, redirect_hit, redirect_miss, redirect_winner}
use Rattle.circuit.proofs.Unite.{unite_same, unite_left_lower, unite_right_lower, unite_level}
use Rattle.circuit.proofs.Link.{link_root, singleton_root, singletons_length}

-- from the forest f to g the roots are mapped: l and r to one of the two, and any other to itself
pub record Merges (f g : Forest) (l r : ℕ) : Type 0 where
  pub to : ℕ → ℕ
  pub length_kept : length g.roots ≡ component_limit
  pub mapped : (v : ℕ) → v < component_limit → root g v ≡ to (root f v)
  pub joins : to l ≡ to r
  pub moves : (x : ℕ) → (to x ≡ x) ⊎ (((x ≡ l) × (to x ≡ r)) ⊎ ((x ≡ r) × (to x ≡ l)))

swapped : {f g : Forest} {l r : ℕ} → Merges f g l r → Merges f g r l
swapped m =
    record {
      to = m.to;
      length_kept = m.length_kept;
      mapped = m.mapped;
      joins = sym m.joins;
      moves = λ x. ⊎_elim inl (⊎_elim (λ e. inr (inr e)) (λ e. inr (inl e))) (m.moves x);
    }

module _ (f : Forest) (len : length f.roots ≡ component_limit) where
  nothing_merges : {l r : ℕ} → l ≡ r → Merges f f l r
  nothing_merges e = record { to = λ x. x; length_kept = len; mapped = λ v h. refl; joins = e; moves = λ x. inl refl }

  link_merges : (loser winner r : ℕ) → Merges f (link f loser winner r) loser winner
  link_merges loser winner r =
      record {
        to = redirect loser winner;
        length_kept = unfold link in length-map f.roots (redirect loser winner) ∙ len;
        mapped = link_root f len loser winner r;
        joins = redirect_hit loser winner ∙ sym (redirect_winner loser winner);
        moves = λ x. ⊎_elim (λ e. inr (inl (e, ap (redirect loser winner) e ∙ redirect_hit loser winner))) (λ n. inl (redirect_miss loser winner x n)) (same_or_not x loser);
      }

  pub unite_merges : (a b : ℕ) → Merges f (unite f a b) (root f a) (root f b)
  unfolding unite
  unite_merges a b = go (same_or_not l r) (three_ways (rank f l) (rank f r))
    where
      l : ℕ
      l = root f a

      r : ℕ
      r = root f b

      go : (l ≡ r) ⊎ (l ≢ r) → (rank f l < rank f r) ⊎ ((rank f l ≡ rank f r) ⊎ (rank f r < rank f l)) → Merges f (unite_roots f l r) l r
      go (inl e) way = rw (unite_same f l r e) (nothing_merges e)
      go (inr n) (inl lt) = rw (unite_left_lower f l r n lt) (link_merges l r (rank f r))
      go (inr n) (inr (inl e)) = rw (unite_level f l r n e) (swapped (link_merges r l (rank f l + 1)))
      go (inr n) (inr (inr lt)) = rw (unite_right_lower f l r n lt) (swapped (link_merges r l (rank f l)))

-- what has one root keeps one root
kept : (pairs : List (ℕ × ℕ)) (f : Forest) → length f.roots ≡ component_limit → (v w : ℕ) → v < component_limit → w < component_limit
    → root f v ≡ root f w → root (unite_all f pairs) v ≡ root (unite_all f pairs) w
unfolding unite_all
kept [] f len v w hv hw e = e
kept (p ∷ pairs) f len v w hv hw e =
    let m = unite_merges f len p.0 p.1 in
    kept pairs (unite f p.0 p.1) m.length_kept v w hv hw (m.mapped v hv ∙ ap m.to e ∙ sym (m.mapped w hw))

-- a pair of the list has one root
pair_root : (pairs : List (ℕ × ℕ)) (f : Forest) → length f.roots ≡ component_limit → (a b : ℕ) → a < component_limit → b < component_limit
    → Memᴰ (a, b) pairs → root (unite_all f pairs) a ≡ root (unite_all f pairs) b
unfolding unite_all
pair_root [] f len a b ha hb m = absurd (Memᴰ.not-nil m)
pair_root (p ∷ pairs) f len a b ha hb m =
    let u = unite_merges f len p.0 p.1 in
    ⊎_elim
    (λ e.
    let at_a : root f a ≡ root f p.0 = ap (λ (q : ℕ × ℕ). root f q.0) e in
    let at_b : root f b ≡ root f p.1 = ap (λ (q : ℕ × ℕ). root f q.1) e in
    kept pairs (unite f p.0 p.1) u.length_kept a b ha hb
    (u.mapped a ha ∙ ap u.to at_a ∙ u.joins ∙ sym (ap u.to at_b) ∙ sym (u.mapped b hb)))
    (λ later. pair_root pairs (unite f p.0 p.1) u.length_kept a b ha hb later)
    (Memᴰ.cases_cons m)

joined_root : (pairs : List (ℕ × ℕ)) → PlacePairs pairs → {v w : ℕ} → Joined pairs v w
    → root (unite_all singletons pairs) v ≡ root (unite_all singletons pairs) w
joined_root pairs bounded (pair {a} {b} m) = pair_root pairs singletons singletons_length a b (bounded a b m).0 (bounded a b m).1 m
joined_root pairs bounded same = refl
joined_root pairs bounded (flip j) = sym (joined_root pairs bounded j)
joined_root pairs bounded (chain i j) = joined_root pairs bounded i ∙ joined_root pairs bounded j

-- where the pairs are joined by `all`, each place stays joined with its root
module _ (all : List (ℕ × ℕ)) where
  root_related : (pairs : List (ℕ × ℕ)) (f : Forest) → length f.roots ≡ component_limit → PlacePairs pairs
      → ((a b : ℕ) → Memᴰ (a, b) pairs → Joined all a b)
      → ((v : ℕ) → v < component_limit → Joined all v (root f v)) → (v : ℕ) → v < component_limit → Joined all v (root (unite_all f pairs) v)
  unfolding unite_all
  root_related [] f len bounded related start v h = start v h
  root_related (p ∷ pairs) f len bounded related start v h =
      root_related pairs (unite f p.0 p.1) u.length_kept
      (λ a b m. bounded a b (Memᴰ.tail m))
      (λ a b m. related a b (Memᴰ.tail m))
      (λ w hw. subst (Joined all w) (sym (u.mapped w hw)) (follow (start w hw) (u.moves (root f w))))
      v h
    where
      u : Merges f (unite f p.0 p.1) (root f p.0) (root f p.1)
      u = unite_merges f len p.0 p.1

      here : (p.0 < component_limit) × (p.1 < component_limit)
      here = bounded p.0 p.1 (Memᴰ.head refl)

      roots_related : Joined all (root f p.0) (root f p.1)
      roots_related = chain (flip (start p.0 here.0)) (chain (related p.0 p.1 (Memᴰ.head refl)) (start p.1 here.1))

      follow : {w x : ℕ} → Joined all w x → (u.to x ≡ x) ⊎ (((x ≡ root f p.0) × (u.to x ≡ root f p.1)) ⊎ ((x ≡ root f p.1) × (u.to x ≡ root f p.0))) → Joined all w (u.to x)
      follow {w} s (inl e) = subst (Joined all w) (sym e) s
      follow {w} s (inr (inl e)) = subst (Joined all w) (sym e.1) (chain (subst (Joined all w) e.0 s) roots_related)
      follow {w} s (inr (inr e)) = subst (Joined all w) (sym e.1) (chain (subst (Joined all w) e.0 s) (flip roots_related))

root_joined : (pairs : List (ℕ × ℕ)) → PlacePairs pairs → (v : ℕ) → v < component_limit → Joined pairs v (root (unite_all singletons pairs) v)
root_joined pairs bounded =
    root_related pairs pairs singletons singletons_length bounded
    (λ a b m. pair m)
    (λ v h. subst (Joined pairs v) (sym (singleton_root v h)) same)

pub connected : (pairs : List (ℕ × ℕ)) → PlacePairs pairs → (v w : ℕ) → v < component_limit → w < component_limit
    → (root (unite_all singletons pairs) v ≡ root (unite_all singletons pairs) w) ↔ Joined pairs v w
connected pairs bounded v w hv hw = (
  λ e. chain (root_joined pairs bounded v hv) (subst (λ (x : ℕ). Joined pairs x w) (sym e) (flip (root_joined pairs bounded w hw))),
  λ j. joined_root pairs bounded j,
)
