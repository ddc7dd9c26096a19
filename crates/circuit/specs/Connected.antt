-- What union-find decides (document 01, "circuit.rs: groups"): which places a list of pairs joins, over any number of steps.
-- Assumes nothing: these are definitions.
use Rattle.std.specs.Prelude.{ℕ, ◌<◌}
use mathlib.Core.List.{List, Memᴰ}
use Rattle.lists.specs.Limits.{component_limit}

-- the pairs' closure: each pair is joined, each place with itself, either way round, and through any place between
pub data Joined (pairs : List (ℕ × ℕ)) : ℕ → ℕ → Type 0 where
  pair : {a b : ℕ} → Memᴰ (a, b) pairs → Joined pairs a b
  same : {a : ℕ} → Joined pairs a a
  flip : {a b : ℕ} → Joined pairs a b → Joined pairs b a
  chain : {a b c : ℕ} → Joined pairs a b → Joined pairs b c → Joined pairs a c

-- both places of each pair are below n
abbrev pub PairsBelow : ℕ → List (ℕ × ℕ) → Type 0
PairsBelow n pairs = (a b : ℕ) → Memᴰ (a, b) pairs → (a < n) × (b < n)

-- the pairs are of places
abbrev pub PlacePairs : List (ℕ × ℕ) → Type 0
PlacePairs pairs = PairsBelow component_limit pairs
