-- The finder and the check (document 02, R-1): what they answer, and what the finder leaves in the list that it is lent.
--     finder_refusal, check_refusal      1 to 5 and 7, then 8; 2 is of the lent list, and 10 comes after 8, from the finder alone
--     Finding, Checking                  the entries
-- Assumes nothing: these are definitions.
use Rattle.std.specs.Prelude.{⊤, Option, Some, None, Result, IfOk, OnErr}
use Rattle.std.specs.Prelude.{ℕ, ◌≤◌, ◌≡◌, Bool, true, false, List, eqb, length, ℤ}
use Rattle.lists.specs.declared.Fault.{Fault}
use Rattle.lists.specs.declared.Refusal.{Refusal}
use Rattle.lists.specs.Records.{component_count}
use Rattle.lists.specs.First.{is_found}
use Rattle.lists.specs.Slices.{laid}
use Rattle.checks.specs.Refusals.{refuse, too_short, room_for, ◌or_else◌, liveness_lists}
use Rattle.assessment.specs.Verdicts.{status_of}
use Rattle.liveness.specs.Sets.{checked}
use Rattle.inputs.specs.Query.{row_place}
use Rattle.trail.specs.Port.{port_trail, BestOf}

-- ---- refusals

-- 8: the port has no verdict row
abbrev pub row_refusal : Option ℕ → Result ⊤ Refusal
row_refusal place = refuse Fault.NoVerdictRow None (too_short (is_found place))

-- the row's status is 0
abbrev pub status_zero : ℕ → List ℤ → List ℤ → List ℤ → ℕ → Option ℕ → Bool
status_zero rules cs ps fs port (Some p) = eqb (status_of rules cs ps fs p port) 0
status_zero rules cs ps fs port None = false

-- 10: it isn't
abbrev pub status_refusal : ℕ → List ℤ → List ℤ → List ℤ → ℕ → Option ℕ → Result ⊤ Refusal
status_refusal rules cs ps fs port place = refuse Fault.NotDriven None (too_short (status_zero rules cs ps fs port place))

-- the numbers of the finder past those of the lists
abbrev pub port_refusal : ℕ → List ℤ → List ℤ → List ℤ → ℕ → Option ℕ → Result ⊤ Refusal
port_refusal rules cs ps fs port place = row_refusal place or_else status_refusal rules cs ps fs port place

-- those of the lists: a place of the lent list is one number
abbrev pub finder_lists : ℕ → List ℤ → List ℤ → List ℤ → ℕ → Result ⊤ Refusal
finder_lists rules cs ps fs places = liveness_lists rules cs ps fs (room_for (component_count cs) 1 places)

abbrev pub finder_refusal : ℕ → List ℤ → List ℤ → List ℤ → ℕ → ℕ → ℕ → Result ⊤ Refusal
finder_refusal rules cs ps fs id port places = finder_lists rules cs ps fs places or_else port_refusal rules cs ps fs port (row_place rules cs id port)

abbrev pub check_refusal : ℕ → List ℤ → List ℤ → List ℤ → ℕ → ℕ → Result ⊤ Refusal
check_refusal rules cs ps fs id port = liveness_lists rules cs ps fs true or_else row_refusal (row_place rules cs id port)

-- ---- the finder

-- the best trail stands at the front of the lent list, and the rest is as it was
pub record BestLaid (cs ps fs : List ℤ) (id port : ℕ) (trail trail' : List ℕ) (count : ℕ) : Type 0 where
  pub found : List ℕ
  pub best : BestOf cs ps fs id port found
  pub few : length found ≤ component_count cs
  pub count_is : count ≡ length found
  pub trail_left : trail' ≡ laid found trail

-- by what the checks say; a refusal changes nothing
pub record FindingBy (checks : Result ⊤ Refusal) (cs ps fs : List ℤ) (id port : ℕ) (trail trail' : List ℕ) (r : Result ℕ Refusal) : Type 0 where
  pub answer : checked r ≡ checks
  pub found : IfOk r (BestLaid cs ps fs id port trail trail')
  pub unchanged : OnErr r (trail' ≡ trail)

pub record Finding (rules : ℕ) (cs ps fs : List ℤ) (id port : ℕ) (trail trail' : List ℕ) (r : Result ℕ Refusal) : Type 0 where
  pub by : FindingBy (finder_refusal rules cs ps fs id port (length trail)) cs ps fs id port trail trail' r

-- ---- the check

pub record CheckingBy (checks : Result ⊤ Refusal) (cs ps fs : List ℤ) (id port : ℕ) (trail : List ℕ) (r : Result Bool Refusal) : Type 0 where
  pub answer : checked r ≡ checks
  pub accepts : IfOk r (λ accepted. accepted ≡ port_trail cs ps fs id port trail)

pub record Checking (rules : ℕ) (cs ps fs : List ℤ) (id port : ℕ) (trail : List ℕ) (r : Result Bool Refusal) : Type 0 where
  pub by : CheckingBy (check_refusal rules cs ps fs id port) cs ps fs id port trail r
