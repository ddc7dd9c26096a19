-- The one pass over the regions, for a host that calls through the C convention (document 02, R-11), by the definitions of `light_regions`.
--     light_lists_refusal     its refusal; both sets are outputs of number 2
--     light_number            its answer as one number
--     lit_words, driven_words the words of its sets
--     LightByLists            what `dustroute_light` answers and leaves, with demand 3 and the laws of the pass
-- Assumes nothing: these are definitions.
use Rattle.std.specs.Prelude.{⊤, Result, Ok, Err}
use Rattle.lists.specs.declared.Refusal.{Refusal}
use Rattle.std.specs.Prelude.{ℕ, ◌*◌, ◌/◌, ◌%◌, ◌≡◌, ◌&&◌, List, length, ℤ}
use Rattle.sets.specs.Members.{word_count, words_of_set}
use Rattle.lists.specs.Records.{component_count}
use Rattle.lists.specs.Slices.{left_of, work_of}
use Rattle.checks.specs.Refusals.{room_for, liveness_lists, packed}
use Rattle.regions.specs.Graph.{marked}
use Rattle.signals.specs.Regions.{region_count, regions_of}
use Rattle.signals.specs.Drive.{drive}
use Rattle.liveness.specs.Demand.{RegionsOfScene}
use Rattle.lighting.specs.Pass.{lit}
use Rattle.lighting.specs.Laws.{LightLaws}
use Rattle.lighting.specs.Entry.{light_room}

-- the refusal of the lists, given how many numbers each lent slice has
abbrev pub light_lists_refusal : ℕ → List ℤ → List ℤ → List ℤ → ℕ → ℕ → ℕ → ℕ → Result ⊤ Refusal
light_lists_refusal rules cs ps fs regions lit driven stack =
    liveness_lists rules cs ps fs ((room_for 1 word_count lit && room_for 1 word_count driven) && light_room cs regions stack)

-- a refusal's number, list and item, or 0 in the sixteen lowest bits and then the count of regions
abbrev pub light_number : Result ⊤ Refusal → ℕ → ℕ
light_number (Ok tt) regions = 65536 * regions
light_number (Err refusal) regions = packed (Err refusal)

-- `word_count` words each: the regions that are lit, the members that are driven
abbrev pub lit_words : List ℤ → List ℤ → List ℤ → List ℕ
lit_words cs ps fs = words_of_set word_count (region_count cs ps) (lit cs ps fs)

abbrev pub driven_words : List ℤ → List ℤ → List ℤ → List ℕ
driven_words cs ps fs = words_of_set word_count (component_count cs) (marked (drive cs ps fs))

-- by what the checks say: their refusal, or the count, the regions and the sets
pub record LightLaid (refusal : Result ⊤ Refusal) (cs ps fs : List ℤ)
    (regions regions' lit lit' driven driven' stack stack' : List ℕ) (r : ℕ) : Type 0 where
  pub answer : r ≡ light_number refusal (region_count cs ps)
  pub regions_left : regions' ≡ left_of refusal (regions_of cs ps) regions
  pub lit_left : lit' ≡ left_of refusal (lit_words cs ps fs) lit
  pub driven_left : driven' ≡ left_of refusal (driven_words cs ps fs) driven
  pub stack_left : stack' ≡ work_of refusal stack

-- from a rules number, the lists and four lent slices
pub record LightByLists (rules : ℕ) (cs ps fs : List ℤ) (regions regions' lit lit' driven driven' stack stack' : List ℕ) (r : ℕ) : Type 0 where
  pub by : LightLaid (light_lists_refusal rules cs ps fs (length regions) (length lit) (length driven) (length stack))
      cs ps fs regions regions' lit lit' driven driven' stack stack' r
  -- demand 3, on the regions written and the count answered
  pub demand : light_lists_refusal rules cs ps fs (length regions) (length lit) (length driven) (length stack) ≡ Ok tt
      → RegionsOfScene cs ps regions' (r / 65536 % 65536)
  -- request R-11
  pub laws : light_lists_refusal rules cs ps fs (length regions) (length lit) (length driven) (length stack) ≡ Ok tt → LightLaws cs ps fs
