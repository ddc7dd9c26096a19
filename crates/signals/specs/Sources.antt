-- Drive sources (document 01, "liveness.rs"): kinds 4, 5, 6 (source kind 0), 7, 3 (source kind 1), and the first listed component at each
-- frontier's position (2). Components are named by their list place.
-- Assumes nothing: these are definitions.
use Rattle.std.specs.Prelude.{Option, Some, None}
use Rattle.std.specs.Prelude.{ℕ, ◌≤◌, ◌<◌, ◌≡◌, Bool, true, false, ◌&&◌, ◌||◌, List, [], ◌∷◌, eqb, get_or, ℤ}
use Rattle.std.specs.Int.Signed.{lt_z}
use Rattle.lists.specs.Signed.{eq_z, less_then}
use Rattle.lists.specs.Records.{Component, Position, component, frontier, component_count, frontier_count}
use Rattle.lists.specs.First.{first_from, is_found, some}

-- the source kind of a block, in the order of the kinds: Lever, Button, PressurePlate 0; RedstoneTorch, RedstoneBlock 1
unfoldable pub source_kind : ℕ → Option ℕ
source_kind kind = get_or (None ∷ None ∷ None ∷ Some 1 ∷ Some 0 ∷ Some 0 ∷ Some 0 ∷ Some 1 ∷ []) kind None

abbrev pub same_position : Component → Position → Bool
same_position c at = eq_z c.x at.x && (eq_z c.y at.y && eq_z c.z at.z)

-- a component stands before a position, by x, then y, then z
abbrev pub before_position : Component → Position → Bool
before_position c at = less_then c.x at.x (less_then c.y at.y (lt_z c.z at.z))

-- the components below r stand before the position, and no other does
pub record Parted (cs : List ℤ) (at : Position) (r : ℕ) : Type 0 where
  pub within : r ≤ component_count cs
  pub before : (p : ℕ) → p < r → before_position (component cs p) at ≡ true
  pub from : (p : ℕ) → r ≤ p → p < component_count cs → before_position (component cs p) at ≡ false

-- the first listed component at a position
unfoldable pub first_at : List ℤ → Position → Option ℕ
first_at cs at = first_from (λ p. same_position (component cs p) at) 0 (component_count cs)

abbrev pub is_at : ℕ → Option ℕ → Bool
is_at p (Some q) = eqb q p
is_at p None = false

-- the component at place p is the first at some frontier's position
unfoldable pub is_on_frontier : List ℤ → List ℤ → ℕ → Bool
is_on_frontier cs fs p = some (λ j. is_at p (first_at cs (frontier fs j))) (frontier_count fs)

-- it is a drive source
abbrev pub is_drive : List ℤ → List ℤ → ℕ → Bool
is_drive cs fs p = is_found (source_kind (component cs p).kind) || is_on_frontier cs fs p
