-- Union by rank as a specification (document 01, "circuit.rs: groups", `UnionFind`): the forest without flattening, and how the
-- arrays of the code stand for one. A forest has a place for each component that a scene may have. It is two lists: the root of each
-- place, and the rank of each place.
--     root, rank            the root and the rank of a place
--     unite, unite_all       union by rank of two places, and of each pair of a list in turn
--     WellFormed            a root is its own root, ranks rise towards it, and a root of rank r has at least 2 ^ r places
--     Represents            the arrays of parents and of ranks stand for a forest
--     follow                steps up the parents
--     seen                  the forest that the arrays stand for
--     Found                 what `find` ensures
-- Assumes nothing: these are definitions.
use Rattle.std.specs.Prelude.{ℕ, zero, suc, ◌+◌, ◌^◌, ◌≤◌, ◌<◌, ◌≡◌, cond, ◌⊎◌, eqb, ltb, length, get_or, set, replicate}
use mathlib.Core.List.{List, [], ◌∷◌, ◌++◌, map, foldl}
use Rattle.lists.specs.Limits.{component_limit, rank_limit}

pub record Forest : Type 0 where
  pub roots : List ℕ
  pub ranks : List ℕ

abbrev pub root : Forest → ℕ → ℕ
root f v = get_or f.roots v 0

abbrev pub rank : Forest → ℕ → ℕ
rank f v = get_or f.ranks v 0

-- 0, 1, …, n - 1
unfoldable pub range : ℕ → List ℕ
range zero = []
range (suc n) = range n ++ (n ∷ [])

-- at first each place is its own root, of rank 0
unfoldable pub singletons : Forest
singletons = record { roots = range component_limit; ranks = replicate component_limit 0 }

-- how often x stands in a list
unfoldable pub count : ℕ → List ℕ → ℕ
count x [] = 0
count x (y ∷ ys) = cond (eqb y x) (suc (count x ys)) (count x ys)

-- where the loser was the root, the winner is
unfoldable pub redirect : ℕ → ℕ → ℕ → ℕ
redirect loser winner x = cond (eqb x loser) winner x

-- the loser's places go under the winner, whose rank is r from then on
unfoldable pub link : Forest → ℕ → ℕ → ℕ → Forest
link f loser winner r = record { roots = map (redirect loser winner) f.roots; ranks = set f.ranks winner r }

-- of two roots the one of lower rank goes under the other; at equal rank the right one, the sink's, goes under the left one, the source's,
-- whose rank grows by one
unfoldable pub unite_roots : Forest → ℕ → ℕ → Forest
unite_roots f l r =
    cond (eqb l r) f
    (cond (ltb (rank f l) (rank f r)) (link f l r (rank f r))
    (cond (ltb (rank f r) (rank f l)) (link f r l (rank f l))
    (link f r l (rank f l + 1))))

unfoldable pub unite : Forest → ℕ → ℕ → Forest
unite f left right = unite_roots f (root f left) (root f right)

unfoldable pub unite_all : Forest → List (ℕ × ℕ) → Forest
unite_all f pairs = foldl (λ g p. unite g p.0 p.1) f pairs

-- what holds of a place v and its root r
pub record Rooted (f : Forest) (v r : ℕ) : Type 0 where
  pub below : r < component_limit
  pub fixed : root f r ≡ r
  pub rises : (r ≡ v) ⊎ (rank f v < rank f r)
  pub heavy : r ≡ v → 2 ^ rank f v ≤ count v f.roots

pub record WellFormed (f : Forest) : Type 0 where
  pub roots_length : length f.roots ≡ component_limit
  pub ranks_length : length f.ranks ≡ component_limit
  pub rooted : (v : ℕ) → v < component_limit → Rooted f v (root f v)

-- what holds of a place v and its parent p: they have the same root, p has a higher rank unless it is v itself, and only a root is its own parent
pub record Linked (f : Forest) (v p : ℕ) : Type 0 where
  pub below : p < component_limit
  pub same : root f p ≡ root f v
  pub own : p ≡ v → root f v ≡ v
  pub rises : (p ≡ v) ⊎ (rank f v < rank f p)

pub record Represents (parents ranks : List ℕ) (f : Forest) : Type 0 where
  pub forest : WellFormed f
  pub same_ranks : ranks ≡ f.ranks
  pub parents_length : length parents ≡ component_limit
  pub linked : (v : ℕ) → v < component_limit → Linked f v (get_or parents v 0)

-- k steps up the parents
unfoldable pub follow : List ℕ → ℕ → ℕ → ℕ
follow parents zero v = v
follow parents (suc k) v = follow parents k (get_or parents v 0)

-- the forest that the arrays stand for, if they stand for one: rank_limit steps up the parents lead to each root
unfoldable pub seen : List ℕ → List ℕ → Forest
seen parents ranks = record { roots = map (follow parents rank_limit) (range component_limit); ranks = ranks }

-- the arrays stand for some forest. It is the only one, since rank_limit steps up the parents lead to each root (proofs/Follow.antt)
abbrev pub IsForest : List ℕ → List ℕ → Type 0
IsForest parents ranks = (f : Forest) × Represents parents ranks f

-- what `find` of v gives, r, and makes of the parents: the same forest, in which each place on the way up from v has r for its parent
pub record Found (parents parents' ranks : List ℕ) (v r : ℕ) : Type 0 where
  pub below : r < component_limit
  pub finds : (f : Forest) → Represents parents ranks f → (r ≡ root f v) × Represents parents' ranks f
  pub flat : (k : ℕ) → get_or parents' (follow parents k v) 0 ≡ r
