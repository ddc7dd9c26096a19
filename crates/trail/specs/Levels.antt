-- How the finder goes about it: the level of a node is how many nodes the shortest way from it to the port has, itself counted; 0 where
-- there is none. From the drive source of the least level the trail goes down level by level, each time to the smallest node.
-- Assumes nothing: these are definitions.
use Rattle.std.specs.Prelude.{ℕ, suc, ◌≤◌, ◌<◌, ◌≡◌, Bool, true, List, [], ◌∷◌, length}
use Rattle.regions.specs.Graph.{Edges, at}

-- what the levels of a graph are, node by node. There is one such list (`levels_once` of proofs/Best.antt).
pub record Levels (n : ℕ) (edge : Edges) (feeds : ℕ → Bool) (levels : List ℕ) : Type 0 where
  pub long : length levels ≡ n
  pub low : (x : ℕ) → at levels x ≤ n
  -- 1 exactly where a node feeds the port
  pub feeders : (x : ℕ) → feeds x ≡ true → at levels x ≡ 1
  pub only_feeders : (x : ℕ) → at levels x ≡ 1 → feeds x ≡ true
  -- from a node with a level, the nodes before it have one, at most one higher
  pub closed : (x y : ℕ) → edge x y ≡ true → 0 < at levels y → (0 < at levels x) × (at levels x ≤ suc (at levels y))
  -- a node above level 1 leads to one of the next lower level
  pub down : (x k : ℕ) → at levels x ≡ suc (suc k) → (y : ℕ) × (edge x y ≡ true) × (at levels y ≡ suc k)

-- the least drive source among those of the least level
pub record StartAt (drive : ℕ → Bool) (levels : List ℕ) (s : ℕ) : Type 0 where
  pub drives : drive s ≡ true
  pub reaches : 0 < at levels s
  pub nearest : (z : ℕ) → drive z ≡ true → 0 < at levels z → at levels s ≤ at levels z
  pub first : (z : ℕ) → drive z ≡ true → at levels z ≡ at levels s → s ≤ z

-- y is the least node to which an edge leads from x, one level lower
pub record StepDown (edge : Edges) (levels : List ℕ) (x y : ℕ) : Type 0 where
  pub along : edge x y ≡ true
  pub lower : at levels x ≡ suc (at levels y)
  pub least : (z : ℕ) → edge x z ≡ true → at levels x ≡ suc (at levels z) → y ≤ z

-- from x along the list, such steps down to level 1
abbrev pub Descends : Edges → List ℕ → ℕ → List ℕ → Type 0
Descends edge levels x [] = at levels x ≡ 1
Descends edge levels x (y ∷ l) = StepDown edge levels x y × Descends edge levels y l
