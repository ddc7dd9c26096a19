-- The way from a drive source to one input, for a host that calls through the C convention (document 02, R-1): what `find_trail` and
-- `check_trail` answer, as one number.
--     trail_number, check_number       an answer as one number: a refusal, or 0 in the sixteen lowest bits and then a count
--     TrailByLists, CheckByLists       what `dustroute_trail` and `dustroute_check_trail` answer, and what the first leaves
-- Assumes nothing: these are definitions.
use Rattle.std.specs.Prelude.{ℕ, ◌*◌, ◌≡◌, Bool, List, Result, Ok, Err, ℤ}
use Rattle.lists.specs.declared.Refusal.{Refusal}
use Rattle.sets.specs.Members.{as_nat}
use Rattle.checks.specs.Refusals.{packed}
use Rattle.trail.specs.Entries.{Finding, Checking}

-- how many ids were written
abbrev pub trail_number : Result ℕ Refusal → ℕ
trail_number (Ok count) = 65536 * count
trail_number (Err refusal) = packed (Err refusal)

-- 1 for yes, 0 for no
abbrev pub check_number : Result Bool Refusal → ℕ
check_number (Ok is_trail) = 65536 * as_nat is_trail
check_number (Err refusal) = packed (Err refusal)

-- from a rules number, the lists, an id, a port and the lent list
pub record TrailByLists (rules : ℕ) (cs ps fs : List ℤ) (id port : ℕ) (trail trail' : List ℕ) (r : ℕ) : Type 0 where
  pub found : Result ℕ Refusal
  pub finding : Finding rules cs ps fs id port trail trail' found
  pub answer : r ≡ trail_number found

-- from a rules number, the lists, an id, a port and a list of ids
pub record CheckByLists (rules : ℕ) (cs ps fs : List ℤ) (id port : ℕ) (trail : List ℕ) (r : ℕ) : Type 0 where
  pub found : Result Bool Refusal
  pub checking : Checking rules cs ps fs id port trail found
  pub answer : r ≡ check_number found
