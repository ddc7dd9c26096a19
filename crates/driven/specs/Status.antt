-- What is proved of `upstream_from` on every accepted scene (document 02, R-5):
--
--     "each is an immediate source or upstream of one,        met_upstream
--     and exactly one is a drive source at a yes;             one_drive
--     at a no it is all of these, none a drive source.        all_met, no_drive
--     The yes or no is the same as the whole report's"        status
--
-- `upstream` is that of the input query, and `status_of` is the status in the verdict row of the port; `input_rows` are the verdict rows that an analysis writes.
-- The theorem is `driven_laws` of proofs/Driven.antt, and `answer_laws` there says the same of what `is_driven` answers.
-- Assumes nothing: these are statements.
use Rattle.std.specs.Prelude.{Some}
use Rattle.std.specs.Prelude.{ℕ, ◌≡◌, true, false, List, ◌↔◌, ℤ, length}
use Rattle.sets.specs.Members.{member_of}
use Rattle.lists.specs.Records.{component_count}
use Rattle.regions.specs.Graph.{marked}
use Rattle.assessment.specs.Verdicts.{status_of, input_rows}
use Rattle.inputs.specs.Query.{upstream, row_place}
use Rattle.inputs.specs.Port.{drive_sources, HasRow}
use Rattle.driven.specs.Theorems.{OneGoal}
use Rattle.driven.specs.Driven.{upstream_from}
use Rattle.driven.specs.declared.DrivenInput.{DrivenInput}

pub record DrivenLaws (cs ps fs : List ℤ) (p port : ℕ) : Type 0 where
  -- yes exactly if the status is 0, by whatever rules
  pub status : (rules : ℕ) → ((upstream_from cs ps fs p port).stopped ≡ true) ↔ (status_of rules cs ps fs p port ≡ 0)
  pub met_upstream : (a : ℕ) → marked (upstream_from cs ps fs p port).met a ≡ true → marked (upstream cs ps p port) a ≡ true
  pub one_drive : (upstream_from cs ps fs p port).stopped ≡ true → OneGoal (drive_sources cs fs) (upstream_from cs ps fs p port).met
  pub all_met : (upstream_from cs ps fs p port).stopped ≡ false → (upstream_from cs ps fs p port).met ≡ upstream cs ps p port
  pub no_drive : (upstream_from cs ps fs p port).stopped ≡ false
      → (a : ℕ) → marked (upstream_from cs ps fs p port).met a ≡ true → marked (drive_sources cs fs) a ≡ false
  -- each member has an entry
  pub long : length (upstream_from cs ps fs p port).met ≡ component_count cs

-- ---- the answer of `is_driven` under a rules number, where its checks accept

pub record AnswerLaws (rules : ℕ) (cs ps fs : List ℤ) (id port : ℕ) (r : DrivenInput) : Type 0 where
  -- the port has a verdict row, of the component at this place
  pub place : ℕ
  pub row : row_place rules cs id port ≡ Some place
  -- yes exactly if the status of that row is 0, by whatever rules: the search knows of none
  pub status : (rules : ℕ) → (r.driven ≡ true) ↔ (status_of rules cs ps fs place port ≡ 0)
  -- and so exactly if the whole analysis has a verdict row of the id and the port with status 0, by whatever rules under which it has a row
  pub reported : (by : ℕ) → row_place by cs id port ≡ Some place → (r.driven ≡ true) ↔ HasRow id port 0 (input_rows by cs ps fs)
  -- each member met is an immediate source or upstream of one
  pub met_upstream : (a : ℕ) → member_of r.met.words a ≡ true → marked (upstream cs ps place port) a ≡ true
  -- at a yes exactly one is a drive source
  pub one_drive : r.driven ≡ true → (g : ℕ) × (member_of r.met.words g ≡ true) × (marked (drive_sources cs fs) g ≡ true)
      × ((a : ℕ) → member_of r.met.words a ≡ true → marked (drive_sources cs fs) a ≡ true → a ≡ g)
  -- at a no it is all of these, none a drive source
  pub all_met : r.driven ≡ false → (a : ℕ) → member_of r.met.words a ≡ marked (upstream cs ps place port) a
  pub no_drive : r.driven ≡ false → (a : ℕ) → member_of r.met.words a ≡ true → marked (drive_sources cs fs) a ≡ false
