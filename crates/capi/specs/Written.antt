-- What the inner functions of the liveness entry by bytes hand on to each other; no entry's contract rests on these.
--     SlotsRoom          the lent bytes have room for what a scene of so many components can fill
--     WrittenRoom        and for what was found
--     Written            it was written
--     LivenessByPlaces   the answer to lists of numbers, by the bytes of the lent slices
-- Assumes nothing: these are definitions.
use Rattle.std.specs.Prelude.{ℕ, ◌+◌, ◌*◌, ◌≤◌, ◌≡◌, List, ◌++◌, length, ℤ}
use Rattle.sets.specs.Members.{word_count}
use Rattle.lists.specs.Limits.{component_limit}
use Rattle.lists.specs.Slices.{laid, cleared}
use Rattle.liveness.specs.declared.Analysis.{Analysis}
use Rattle.encoding.specs.Bytes.{number_bytes, bytes_of}
use Rattle.capi.specs.Liveness.{set_count, liveness_places, LivenessLaid}

-- a region, two source rows of two numbers and four verdict rows of three for each of n components, and the sets
pub record SlotsRoom (n : ℕ) (regions sources inputs sets : List ℕ) : Type 0 where
  pub regions_fit : n * number_bytes ≤ length regions
  pub sources_fit : n * (4 * number_bytes) ≤ length sources
  pub inputs_fit : n * (12 * number_bytes) ≤ length inputs
  pub sets_fit : set_count * word_count * number_bytes ≤ length sets

-- the rows that were found, and their counts
pub record WrittenRoom (analysis : Analysis) (region_rows source_rows input_rows regions sources inputs sets : List ℕ) : Type 0 where
  pub regions_fit : length region_rows * number_bytes ≤ length regions
  pub sources_fit : length source_rows * number_bytes ≤ length sources
  pub inputs_fit : length input_rows * number_bytes ≤ length inputs
  pub sets_fit : set_count * word_count * number_bytes ≤ length sets
  pub regions_few : analysis.regions ≤ component_limit
  pub sources_few : analysis.sources ≤ 2 * component_limit
  pub inputs_few : analysis.inputs ≤ 4 * component_limit

-- the rows and sets as bytes, the stack zero, and the counts as one number
pub record Written (analysis : Analysis) (region_rows source_rows input_rows regions regions' sources sources' inputs inputs' sets sets' stack stack' : List ℕ) (r : ℕ) : Type 0 where
  pub regions_are : regions' ≡ laid (bytes_of region_rows) regions
  pub sources_are : sources' ≡ laid (bytes_of source_rows) sources
  pub inputs_are : inputs' ≡ laid (bytes_of input_rows) inputs
  pub sets_are : sets' ≡ laid (bytes_of (analysis.drive.words ++ (analysis.potential.words ++ (analysis.cyclic.words ++ analysis.has_drive.words)))) sets
  pub stack_is : stack' ≡ cleared stack
  pub counts_are : r ≡ 65536 * analysis.regions + 4294967296 * analysis.sources + 281474976710656 * analysis.inputs

-- the answer for a rules number, components cs, port connections ps and frontiers fs, and what is left of five lent slices
abbrev pub LivenessByPlaces : ℕ → List ℤ → List ℤ → List ℤ → List ℕ → List ℕ → List ℕ → List ℕ → List ℕ → List ℕ → List ℕ → List ℕ → List ℕ → List ℕ → ℕ → Type 0
LivenessByPlaces rules cs ps fs regions regions' sources sources' inputs inputs' sets sets' stack stack' r =
    LivenessLaid (liveness_places rules cs ps fs (length regions) (length sources) (length inputs) (length sets) (length stack))
    rules cs ps fs regions regions' sources sources' inputs inputs' sets sets' stack stack' r
