-- The search for the start: the least level among the drive sources passed, and the first drive source that has it.
-- Assumes nothing.
use Rattle.std.specs.Prelude.{Option, MatchOption}
use Prim.Native.Nat.{ℕ, suc, ◌≤◌, ◌<◌}
use mathlib.Core.Path.{◌≡◌}
use mathlib.Core.Bool.{Bool, true}
use mathlib.Core.List.{List}
use lib.ListN.{length}
use Rattle.regions.specs.Graph.{at, marked}

-- the first drive source of the least level among those passed
pub record First (drives : List Bool) (levels : List ℕ) (x least start : ℕ) : Type 0 where
  pub drives_is : marked drives start ≡ true
  pub level_is : at levels start ≡ least
  pub some : 0 < least
  pub nearest : (z : ℕ) → z < x → marked drives z ≡ true → 0 < at levels z → least ≤ at levels z
  pub first : (z : ℕ) → z < x → marked drives z ≡ true → at levels z ≡ least → start ≤ z
  pub passed : start < x

-- there is one, or no drive source passed has a level
abbrev pub Nearest : List Bool → List ℕ → ℕ → ℕ → Option ℕ → Type 0
Nearest drives levels x least start =
    MatchOption start
    ((least ≡ suc (length drives)) × ((z : ℕ) → z < x → marked drives z ≡ true → at levels z ≡ 0))
    (First drives levels x least)
