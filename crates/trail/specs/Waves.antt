-- What the contracts of the search for levels say: nodes get their levels in the order of a queue, those of the first `head` places have
-- given theirs on.
-- Assumes nothing: these are definitions.
use Rattle.std.specs.Prelude.{ℕ, suc, ◌+◌, ◌≤◌, ◌<◌, ◌≡◌, Bool, true, cond, List, [], ◌∷◌, ◌⊎◌, eqb, length, set}
use Rattle.lists.specs.Limits.{component_limit}
use Rattle.regions.specs.Graph.{Edges, at, marked}

-- what a search asks of its arrays, for n nodes
pub record LevelRoom (n : ℕ) (feeds : List Bool) (levels queue : List ℕ) : Type 0 where
  pub nodes : n ≤ component_limit
  pub feeds_length : length feeds ≡ n
  pub levels_length : length levels ≡ n
  pub queue_room : n ≤ length queue

-- how many nodes have no level
unfoldable pub zeros : List ℕ → ℕ
zeros [] = 0
zeros (v ∷ l) = cond (eqb v 0) 1 0 + zeros l

-- the queue holds each node that has a level, once
pub record Queue (n : ℕ) (levels queue : List ℕ) (tail : ℕ) : Type 0 where
  pub levels_long : length levels ≡ n
  pub room : n ≤ length queue
  pub count : tail + zeros levels ≡ n
  pub queued : (i : ℕ) → i < tail → (at queue i < n) × (0 < at levels (at queue i))
  pub all : (x : ℕ) → 0 < at levels x → (i : ℕ) × (i < tail) × (at queue i ≡ x)

-- the node has the level and is the last of the queue, or it had one and nothing changes
pub record Noted (node level : ℕ) (levels queue : List ℕ) (tail : ℕ) (levels' queue' : List ℕ) (tail' : ℕ) : Type 0 where
  pub either : ((0 < at levels node) × (levels' ≡ levels) × (queue' ≡ queue) × (tail' ≡ tail))
      ⊎ ((at levels node ≡ 0) × (levels' ≡ set levels node level) × (queue' ≡ set queue tail node) × (tail' ≡ suc tail))

-- the level of the node at a place of the queue
abbrev pub level_at : List ℕ → List ℕ → ℕ → ℕ
level_at levels queue i = at levels (at queue i)

pub record Wave (n : ℕ) (edge : Edges) (feeds : ℕ → Bool) (levels queue : List ℕ) (head tail : ℕ) : Type 0 where
  pub holds : Queue n levels queue tail
  pub passed : head ≤ tail
  -- the levels rise along the queue, and those from `head` on differ by at most one
  pub rising : (i j : ℕ) → i ≤ j → j < tail → level_at levels queue i ≤ level_at levels queue j
  pub near : (i j : ℕ) → head ≤ i → i < tail → j < tail → level_at levels queue j ≤ suc (level_at levels queue i)
  pub low : (i : ℕ) → i < tail → level_at levels queue i ≤ suc i
  -- 1 exactly where a node feeds the port
  pub feeders : (x : ℕ) → feeds x ≡ true → at levels x ≡ 1
  pub only_feeders : (x : ℕ) → at levels x ≡ 1 → feeds x ≡ true
  -- the nodes before those that have given their levels on have one
  pub closed : (i x : ℕ) → i < head → edge x (at queue i) ≡ true → (0 < at levels x) × (at levels x ≤ suc (level_at levels queue i))
  pub down : (x k : ℕ) → at levels x ≡ suc (suc k) → (y : ℕ) × (edge x y ≡ true) × (at levels y ≡ suc k)

-- the feeding nodes below x have level 1, and no others have one
pub record Seeded (feeds : List Bool) (x : ℕ) (levels queue : List ℕ) (tail : ℕ) : Type 0 where
  pub holds : Queue (length feeds) levels queue tail
  pub ones : (y : ℕ) → y < x → marked feeds y ≡ true → at levels y ≡ 1
  pub only : (y : ℕ) → 0 < at levels y → (y < x) × (marked feeds y ≡ true) × (at levels y ≡ 1)
