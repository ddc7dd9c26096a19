-- The way from the lever (document 02, R-1), said of any numbers and any three tests of them; the finder and the check put in the tests of
-- a port.
--
--     "For a verdict row with status 0, list the components           trail: both ends are in the list
--     from one drive source to an immediate source of that port,
--     as few as possible.                                              BestTrail: shortest
--     Among equally short trails the one with the smaller id           BestTrail: least
--     at the first difference is given."                               NotAfter, from the drive source's end on
--     "A separate small check accepts a trail exactly if
--     its first member is a drive source,                              trail: drive x
--     each next one is fed by the one before,                          onward: edge x y
--     and its last feeds the port."                                    onward: feeds x
--
-- A trail may go in circles or take detours; it is never empty.
-- Assumes nothing: these are definitions.
use Rattle.std.specs.Prelude.{ℕ, ◌≤◌, ◌<◌, ◌≡◌, Bool, true, false, ◌&&◌, List, [], ◌∷◌, ◌⊎◌, length}
use Rattle.regions.specs.Graph.{Edges}

-- from x on along the list: each next one is fed by the one before, and the last one feeds the port
unfoldable pub onward : Edges → (ℕ → Bool) → ℕ → List ℕ → Bool
onward edge feeds x [] = feeds x
onward edge feeds x (y ∷ l) = edge x y && onward edge feeds y l

-- and the first one is a drive source
unfoldable pub trail : (ℕ → Bool) → Edges → (ℕ → Bool) → List ℕ → Bool
trail drive edge feeds [] = false
trail drive edge feeds (x ∷ l) = drive x && onward edge feeds x l

-- two lists are equal, or the first one has the smaller number at the first difference, or it ends there
abbrev pub NotAfter : List ℕ → List ℕ → Type 0
NotAfter [] m = Unit
NotAfter (x ∷ l) [] = ⊥
NotAfter (x ∷ l) (y ∷ m) = (x < y) ⊎ ((x ≡ y) × NotAfter l m)

-- the trail that is to be found
pub record BestTrail (drive : ℕ → Bool) (edge : Edges) (feeds : ℕ → Bool) (l : List ℕ) : Type 0 where
  pub accepted : trail drive edge feeds l ≡ true
  pub shortest : (m : List ℕ) → trail drive edge feeds m ≡ true → length l ≤ length m
  pub least : (m : List ℕ) → trail drive edge feeds m ≡ true → length m ≡ length l → NotAfter l m

-- no list is a trail
abbrev pub NoTrail : (ℕ → Bool) → Edges → (ℕ → Bool) → Type 0
NoTrail drive edge feeds = (m : List ℕ) → trail drive edge feeds m ≡ false
