-- The groups' numbers (document 01, "circuit.rs: groups"): "Groups number from 0 by rising list place of the root."
--     is_root          whether a place is its own root
--     roots_below      how many of the places below n are roots
--     group_of         the number of a place's group
--     groups_of        the numbers of the places 0, 1, …, n - 1
--     RootNumbers      what `number_roots` leaves in its slice
--     RootsWithin      what `number_groups` asks of the forest
-- Assumes nothing: these are definitions.
use Rattle.std.specs.Prelude.{ℕ, zero, suc, ◌+◌, ◌<◌, ◌≡◌, Bool, cond, List, map, eqb, length, get_or}
use Rattle.circuit.specs.Forest.{Forest, root, range}

abbrev pub is_root : Forest → ℕ → Bool
is_root f v = eqb (root f v) v

unfoldable pub roots_below : Forest → ℕ → ℕ
roots_below f zero = 0
roots_below f (suc n) = roots_below f n + cond (is_root f n) 1 0

-- as many groups have a smaller number as there are roots at a smaller place than its own
abbrev pub group_of : Forest → ℕ → ℕ
group_of f v = roots_below f (root f v)

unfoldable pub groups_of : Forest → ℕ → List ℕ
groups_of f n = map (group_of f) (range n)

-- at each place stands the number of roots before it: at a root, the number of its group
pub record RootNumbers (f : Forest) (numbers : List ℕ) : Type 0 where
  pub at : (v : ℕ) → v < length numbers → get_or numbers v 0 ≡ roots_below f v

-- the groups of the first n places lie among these
abbrev pub RootsWithin : Forest → ℕ → Type 0
RootsWithin f n = (v : ℕ) → v < n → root f v < n
