-- What is proved of trails and of the two entries (document 02, R-1). The theorems are `trail_laws` of proofs/Shortest.antt, and
-- `trail_exists`, `finding_laws`, `found_exactly` and `checking_laws` of proofs/Theorems.antt.
-- Assumes nothing: these are statements.
use Rattle.std.specs.Prelude.{Some, Result, Ok}
use Rattle.std.specs.Prelude.{ℕ, ◌≤◌, ◌<◌, ◌≡◌, Bool, true, false, List, ◌↔◌, length, get_or, ℤ}
use Rattle.lists.specs.declared.Refusal.{Refusal}
use Rattle.lists.specs.Records.{component_count}
use Rattle.lists.specs.Ids.{has_component}
use Rattle.lists.specs.Slices.{laid}
use Rattle.regions.specs.Graph.{Edges}
use Rattle.assessment.specs.Verdicts.{status_of, input_rows}
use Rattle.inputs.specs.Query.{row_place}
use Rattle.inputs.specs.Port.{HasRow}
use Rattle.trail.specs.Trail.{NotAfter, BestTrail}
use Rattle.trail.specs.Port.{is_drive_id, port_trail, BestOf}
use Rattle.trail.specs.Entries.{Checking}

-- ---- of any tests

pub record TrailLaws (drive : ℕ → Bool) (edge : Edges) (feeds : ℕ → Bool) (l : List ℕ) : Type 0 where
  -- no other trail is the best
  pub once : (m : List ℕ) → BestTrail drive edge feeds m → m ≡ l
  -- the first is its only drive source
  pub one_drive : (k : ℕ) → 0 < k → k < length l → drive (get_or l k 0) ≡ false
  -- nothing stands in it twice
  pub distinct : (i j : ℕ) → i < j → j < length l → get_or l i 0 ≡ get_or l j 0 → ⊥

-- ---- of lists that the checks accept, and a port that has a row, of the component at a place

pub record TrailExists (cs ps fs : List ℤ) (id port place : ℕ) : Type 0 where
  -- there is a trail exactly if the row's status is 0, by whatever rules: a trail knows of none
  pub status : (rules : ℕ) → ((l : List ℕ) × (port_trail cs ps fs id port l ≡ true)) ↔ (status_of rules cs ps fs place port ≡ 0)
  -- and so exactly if the whole analysis has the row with that status, by whatever rules under which the port has a row there
  pub reported : (rules : ℕ) → row_place rules cs id port ≡ Some place
      → ((l : List ℕ) × (port_trail cs ps fs id port l ≡ true)) ↔ HasRow id port 0 (input_rows rules cs ps fs)

-- ---- of the entries

-- of an accepted call of the finder
pub record FindingLaws (rules : ℕ) (cs ps fs : List ℤ) (id port : ℕ) (trail trail' : List ℕ) (count : ℕ) : Type 0 where
  -- the port has a verdict row, of the component at this place, and its status is 0
  pub place : ℕ
  pub row : row_place rules cs id port ≡ Some place
  pub status : status_of rules cs ps fs place port ≡ 0
  -- the whole analysis has that row
  pub reported : HasRow id port 0 (input_rows rules cs ps fs)
  -- the trail, at the front of the lent list
  pub found : List ℕ
  pub trail_left : trail' ≡ laid found trail
  pub count_is : count ≡ length found
  pub best : BestOf cs ps fs id port found
  pub some : 0 < count
  pub few : count ≤ component_count cs
  -- each id is that of a component, the first is its only drive source, and none stands in it twice
  pub present : (k : ℕ) → k < length found → has_component cs (get_or found k 0) ≡ true
  pub one_drive : (k : ℕ) → 0 < k → k < length found → is_drive_id cs fs (get_or found k 0) ≡ false
  pub distinct : (i j : ℕ) → i < j → j < length found → get_or found i 0 ≡ get_or found j 0 → ⊥
  -- the check accepts it
  pub accepted : (r : Result Bool Refusal) → Checking rules cs ps fs id port found r → r ≡ Ok true
  -- and each list that the check accepts is at least as long, and of equal length not smaller
  pub shortest : (m : List ℕ) → Checking rules cs ps fs id port m (Ok true) → length found ≤ length m
  pub least : (m : List ℕ) → Checking rules cs ps fs id port m (Ok true) → length m ≡ length found → NotAfter found m

-- of an accepted call of the check: it accepts the trails and no other list, and only where the row has status 0
pub record CheckingLaws (rules : ℕ) (cs ps fs : List ℤ) (id port : ℕ) (trail : List ℕ) (accepted : Bool) : Type 0 where
  pub all_trails : accepted ≡ port_trail cs ps fs id port trail
  pub is_trail : accepted ≡ true → port_trail cs ps fs id port trail ≡ true
  pub status : accepted ≡ true → (p : ℕ) × (row_place rules cs id port ≡ Some p) × (status_of rules cs ps fs p port ≡ 0)
  -- each id is that of a component
  pub present : accepted ≡ true → (k : ℕ) → k < length trail → has_component cs (get_or trail k 0) ≡ true
