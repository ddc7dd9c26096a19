-- The entry `analyze_signal_liveness` (document 01, "liveness.rs" and the table of refusals): what it answers, and what it leaves in the
-- slices that it was lent.
-- Assumes nothing: these are definitions.
use Rattle.std.specs.Prelude.{⊤, Result, Ok, Err, IfOk}
use Rattle.lists.specs.declared.Refusal.{Refusal}
use Rattle.std.specs.Prelude.{ℕ, ◌*◌, ◌/◌, ◌≡◌, ◌||◌, List, [], ◌∷◌, length, ℤ}
use Rattle.sets.specs.Members.{member_of}
use Rattle.lists.specs.Records.{component_count}
use Rattle.lists.specs.Ids as Ids
use Rattle.checks.specs.Refusals.{liveness_refusal, refusal_numbers, numbers_by}
use Rattle.lists.specs.Slices.{left_of, work_of}
use Rattle.regions.specs.Graph.{marked}
use Rattle.signals.specs.Sources.{is_drive}
use Rattle.signals.specs.Regions.{region_count, regions_of, is_cyclic, is_inferred, holds_drive}
use Rattle.signals.specs.Drive.{drive, potential}
use Rattle.assessment.specs.Verdicts.{source_rows, input_rows}
use Rattle.liveness.specs.Sets.{SetWhere, checked}
use Rattle.liveness.specs.Demand.{RegionsOfScene}
use Rattle.liveness.specs.Meaning.{FedFrom}
use Rattle.liveness.specs.declared.Analysis.{Analysis}

-- the counts and the sets of an accepted scene
pub record AnalysisOf (rules : ℕ) (cs ps fs : List ℤ) (a : Analysis) : Type 0 where
  -- a source row is two numbers, a verdict row three
  pub region_count_lem : a.regions ≡ region_count cs ps
  pub source_count : a.sources * 2 ≡ length (source_rows rules cs ps fs)
  pub input_count : a.inputs * 3 ≡ length (input_rows rules cs ps fs)
  -- of members
  pub drive_set : SetWhere (component_count cs) (marked (drive cs ps fs)) a.drive.words
  pub potential_set : SetWhere (component_count cs) (marked (potential rules cs ps fs)) a.potential.words
  -- of regions
  pub cyclic_set : SetWhere (region_count cs ps) (is_cyclic cs ps) a.cyclic.words
  pub has_drive_set : SetWhere (region_count cs ps) (holds_drive cs ps fs) a.has_drive.words

-- the paper's numbers of each case: 0 and what is counted, or those of the refusal
abbrev pub numbers_of : Result Analysis Refusal → List ℕ
numbers_of (Ok a) = 0 ∷ a.regions ∷ a.sources ∷ a.inputs ∷ []
numbers_of (Err r) = refusal_numbers r

-- by what the checks say: their refusal, or the counts and the sets, and the rows
pub record AnalyzedBy (checks : Result ⊤ Refusal) (rules : ℕ) (cs ps fs : List ℤ) (regions regions' sources sources' inputs inputs' stack stack' : List ℕ) (r : Result Analysis Refusal) : Type 0 where
  pub answer : checked r ≡ checks
  pub numbers : numbers_of r
      ≡ numbers_by checks (region_count cs ps ∷ length (source_rows rules cs ps fs) / 2 ∷ length (input_rows rules cs ps fs) / 3 ∷ [])
  pub analysis : IfOk r (AnalysisOf rules cs ps fs)
  pub regions_left : regions' ≡ left_of checks (regions_of cs ps) regions
  pub sources_left : sources' ≡ left_of checks (source_rows rules cs ps fs) sources
  pub inputs_left : inputs' ≡ left_of checks (input_rows rules cs ps fs) inputs
  pub stack_left : stack' ≡ work_of checks stack

-- from a rules number, components, port connections, frontiers and four lent slices
pub record Analyzed (rules : ℕ) (cs ps fs : List ℤ) (regions regions' sources sources' inputs inputs' stack stack' : List ℕ) (r : Result Analysis Refusal) : Type 0 where
  pub by : AnalyzedBy (liveness_refusal rules cs ps fs (length regions) (length sources) (length inputs) (length stack))
      rules cs ps fs regions regions' sources sources' inputs inputs' stack stack' r
  -- demand 3, on the answer itself
  pub demand : IfOk r (λ a. RegionsOfScene cs ps regions' a.regions)
  -- driven: some drive source has a chain to it
  pub driven : IfOk r (λ a. FedFrom cs ps (is_drive cs fs) (λ p. member_of a.drive.words (Ids.member_of cs p)))
  -- the same of what may be: some drive source or inferred input has
  pub possible : IfOk r (λ a. FedFrom cs ps (λ q. is_drive cs fs q || is_inferred rules cs ps fs q)
      (λ p. member_of a.potential.words (Ids.member_of cs p)))
