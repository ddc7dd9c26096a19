-- Arrays of flags and of counts, as the functions of this crate leave them.
-- Assumes nothing: these are definitions.
use Rattle.std.specs.Prelude.{Option, Some, None}
use Rattle.std.specs.Prelude.{ℕ, ◌≤◌, ◌<◌, ◌≡◌, Bool, true, ◌&&◌, List, eqb, length, get_or, set}
use Rattle.sets.specs.Members.{count_below}
use Rattle.lists.specs.First.{some}
use Rattle.regions.specs.Graph.{marked}

-- the first n flags are the values of P
pub record Flags (n : ℕ) (P : ℕ → Bool) (flags : List Bool) : Type 0 where
  pub long : n ≤ length flags
  pub at : (p : ℕ) → p < n → marked flags p ≡ P p

-- the first n numbers are those of f
pub record Numbers (n : ℕ) (f : ℕ → ℕ) (numbers : List ℕ) : Type 0 where
  pub long : n ≤ length numbers
  pub at : (p : ℕ) → p < n → get_or numbers p 0 ≡ f p

-- flag j is set exactly if one of the first n tests holds whose index is j
pub record Gathered (n : ℕ) (index : List ℕ) (tests out : List Bool) : Type 0 where
  pub at : (j : ℕ) → j < length out → marked out j ≡ some (λ p. marked tests p && eqb (get_or index p 0) j) n

-- the same of tests and indices that are no lists
pub record GatheredBy (n : ℕ) (index : ℕ → ℕ) (test : ℕ → Bool) (out : List Bool) : Type 0 where
  pub at : (j : ℕ) → j < length out → marked out j ≡ some (λ p. test p && eqb (index p) j) n

-- number j is how many of the first n indices are j
pub record Counted (n : ℕ) (index counts : List ℕ) : Type 0 where
  pub at : (j : ℕ) → j < length counts → get_or counts j 0 ≡ count_below (λ p. eqb (get_or index p 0) j) n

-- each of the first n indices is below m
pub record Indices (n m : ℕ) (index : List ℕ) : Type 0 where
  pub long : n ≤ length index
  pub below : (p : ℕ) → p < n → get_or index p 0 < m

-- the flag of the place that was found is set, and no other changes
abbrev pub flag_found : Option ℕ → List Bool → List Bool
flag_found (Some p) flags = set flags p true
flag_found None flags = flags

pub record FirstFlagged (found : Option ℕ) (flags flags' : List Bool) : Type 0 where
  pub is : flags' ≡ flag_found found flags
