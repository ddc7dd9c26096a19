-- The liveness entry for a host that calls through the C convention (document 01, "The scene taken in"): what it answers and leaves, by the
-- definitions of the entry on lists of numbers.
--     liveness_bytes_refusal    the refusal of the liveness entry, number 1 by bytes
--     liveness_number          its answer as one number
--     sets_of                  the words of its four sets
--     LivenessWritten         what is answered and left, by these definitions
--     LivenessByBytes         what `dustroute_liveness` answers and leaves, and demand 3 of it
-- Assumes nothing: these are definitions.
use Rattle.lists.specs.declared.Fault.{Fault}
use Rattle.lists.specs.declared.Section.{Section}
use Rattle.std.specs.Prelude.{Some, None}
use Rattle.std.specs.Prelude.{⊤, Result, Ok, Err}
use Rattle.lists.specs.declared.Refusal.{Refusal}
use Rattle.std.specs.Prelude.{ℕ, ◌+◌, ◌*◌, ◌/◌, ◌%◌, ◌≡◌, ◌&&◌, List, ◌++◌, length, ℤ}
use Rattle.sets.specs.Members.{word_count, words_of_set}
use Rattle.lists.specs.Limits.{component_limit, connection_limit, frontier_limit, component_width, port_width, frontier_width}
use Rattle.lists.specs.Records.{component_count}
use Rattle.checks.specs.Refusals.{refuse, ◌or_else◌, not_whole, strange_rules, room_for, liveness_lists, liveness_room, packed}
use Rattle.lists.specs.Slices.{left_of, work_of}
use Rattle.regions.specs.Graph.{marked}
use Rattle.signals.specs.Regions.{region_count, regions_of, is_cyclic, holds_drive}
use Rattle.signals.specs.Drive.{drive, potential}
use Rattle.assessment.specs.Verdicts.{source_rows, input_rows}
use Rattle.liveness.specs.Demand.{RegionsOfScene}
use Rattle.encoding.specs.Bytes.{number_bytes, numbers, words, bytes_of}

-- 11, and 1: the bytes of the three lists are whole records within their limits
abbrev pub liveness_whole : ℕ → List ℕ → List ℕ → List ℕ → Result ⊤ Refusal
liveness_whole rules components ports frontiers =
    refuse Fault.UnknownRules None (strange_rules rules)
    or_else refuse Fault.ListLength (Some Section.Components) (not_whole (number_bytes * component_width) component_limit (length components))
    or_else refuse Fault.ListLength (Some Section.Connections) (not_whole (number_bytes * port_width) connection_limit (length ports))
    or_else refuse Fault.ListLength (Some Section.Frontiers) (not_whole (number_bytes * frontier_width) frontier_limit (length frontiers))

-- drive, potential, cyclic, has_drive
abbrev pub set_count : ℕ
set_count = 4

-- the checks of the lists of numbers, given how many bytes each lent slice has; what is left of one past its whole numbers is no place
abbrev pub liveness_places : ℕ → List ℤ → List ℤ → List ℤ → ℕ → ℕ → ℕ → ℕ → ℕ → Result ⊤ Refusal
liveness_places rules cs ps fs regions sources inputs sets stack =
    liveness_lists rules cs ps fs
    (room_for set_count word_count (sets / number_bytes)
    && liveness_room cs (regions / number_bytes) (sources / number_bytes) (inputs / number_bytes) (stack / number_bytes))

abbrev pub liveness_bytes_refusal : ℕ → List ℕ → List ℕ → List ℕ → ℕ → ℕ → ℕ → ℕ → ℕ → Result ⊤ Refusal
liveness_bytes_refusal rules components ports frontiers regions sources inputs sets stack =
    liveness_whole rules components ports frontiers
    or_else liveness_places rules (numbers components) (numbers ports) (numbers frontiers) regions sources inputs sets stack

-- a refusal's number, list and item, or 0 in the sixteen lowest bits and then the counts of regions, source rows and verdict rows, sixteen
-- bits each
abbrev pub liveness_number : Result ⊤ Refusal → ℕ → ℕ → ℕ → ℕ
liveness_number (Ok tt) regions sources inputs = 65536 * regions + 4294967296 * sources + 281474976710656 * inputs
liveness_number (Err refusal) regions sources inputs = packed (Err refusal)

-- `word_count` words each: the members that are driven and that may be, the regions that are cyclic and that hold a drive source
abbrev pub sets_of : ℕ → List ℤ → List ℤ → List ℤ → List ℕ
sets_of rules cs ps fs =
    words_of_set word_count (component_count cs) (marked (drive cs ps fs))
    ++ (words_of_set word_count (component_count cs) (marked (potential rules cs ps fs))
    ++ (words_of_set word_count (region_count cs ps) (is_cyclic cs ps)
    ++ words_of_set word_count (region_count cs ps) (holds_drive cs ps fs)))

-- the answer for components cs, port connections ps and frontiers fs, unless they are refused: the rows and sets as bytes at the front of
-- the lent slices, and the stack zero. A source row is two numbers, a verdict row three.
pub record LivenessLaid (refusal : Result ⊤ Refusal) (rules : ℕ) (cs ps fs : List ℤ)
    (regions regions' sources sources' inputs inputs' sets sets' stack stack' : List ℕ) (r : ℕ) : Type 0 where
  pub answer : r ≡ liveness_number refusal (region_count cs ps) (length (source_rows rules cs ps fs) / 2) (length (input_rows rules cs ps fs) / 3)
  pub regions_left : regions' ≡ left_of refusal (bytes_of (regions_of cs ps)) regions
  pub sources_left : sources' ≡ left_of refusal (bytes_of (source_rows rules cs ps fs)) sources
  pub inputs_left : inputs' ≡ left_of refusal (bytes_of (input_rows rules cs ps fs)) inputs
  pub sets_left : sets' ≡ left_of refusal (bytes_of (sets_of rules cs ps fs)) sets
  pub stack_left : stack' ≡ work_of refusal stack

-- from a rules number, the bytes of components, port connections and frontiers and five lent slices
abbrev pub LivenessWritten : ℕ → List ℕ → List ℕ → List ℕ → List ℕ → List ℕ → List ℕ → List ℕ → List ℕ → List ℕ → List ℕ → List ℕ → List ℕ → List ℕ → ℕ → Type 0
LivenessWritten rules components ports frontiers regions regions' sources sources' inputs inputs' sets sets' stack stack' r =
    LivenessLaid
    (liveness_bytes_refusal rules components ports frontiers (length regions) (length sources) (length inputs) (length sets) (length stack))
    rules (numbers components) (numbers ports) (numbers frontiers)
    regions regions' sources sources' inputs inputs' sets sets' stack stack' r

pub record LivenessByBytes (rules : ℕ) (components ports frontiers regions regions' sources sources' inputs inputs' sets sets' stack stack' : List ℕ) (r : ℕ) : Type 0 where
  pub by : LivenessWritten rules components ports frontiers regions regions' sources sources' inputs inputs' sets sets' stack stack' r
  -- demand 3, on the bytes written and the count answered
  pub demand : liveness_bytes_refusal rules components ports frontiers (length regions) (length sources) (length inputs) (length sets) (length stack) ≡ Ok tt
      → RegionsOfScene (numbers components) (numbers ports) (words regions') (r / 65536 % 65536)
