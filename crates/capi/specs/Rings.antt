-- Which regions have a ring, for a host that calls through the C convention (added), by the definitions of `find_rings`.
--     rings_lists_refusal     its refusal; the set is an output of number 2
--     rings_number            its answer as one number
--     ring_words              the words of its set
--     RingsByLists            what `dustroute_rings` answers and leaves, with demand 3 and the rings by the scene's own connections
-- Assumes nothing: these are definitions.
use Rattle.std.specs.Prelude.{⊤, Result, Ok, Err}
use Rattle.lists.specs.declared.Refusal.{Refusal}
use Rattle.std.specs.Prelude.{ℕ, ◌*◌, ◌/◌, ◌%◌, ◌<◌, ◌≡◌, true, ◌&&◌, List, length, ◌↔◌, ℤ}
use Rattle.sets.specs.Members.{word_count, words_of_set, member_of}
use Rattle.lists.specs.Slices.{left_of, work_of}
use Rattle.checks.specs.Refusals.{room_for, liveness_lists, packed}
use Rattle.signals.specs.Regions.{region_count, regions_of}
use Rattle.liveness.specs.Demand.{RegionsOfScene}
use Rattle.rings.specs.Scene.{RegionHasRing, has_ring, RingSceneLaws}
use Rattle.rings.specs.Entry.{rings_room}

-- the refusal of the lists, given how many numbers each lent slice has
abbrev pub rings_lists_refusal : ℕ → List ℤ → List ℤ → List ℤ → ℕ → ℕ → ℕ → Result ⊤ Refusal
rings_lists_refusal rules cs ps fs regions rings stack =
    liveness_lists rules cs ps fs (room_for 1 word_count rings && rings_room cs regions stack)

-- a refusal's number, list and item, or 0 in the sixteen lowest bits and then the count of regions
abbrev pub rings_number : Result ⊤ Refusal → ℕ → ℕ
rings_number (Ok tt) regions = 65536 * regions
rings_number (Err refusal) regions = packed (Err refusal)

-- `word_count` words: the regions that have a ring
abbrev pub ring_words : List ℤ → List ℤ → List ℕ
ring_words cs ps = words_of_set word_count (region_count cs ps) (has_ring cs ps)

-- by what the checks say: their refusal, or the count, the regions and the set
pub record RingsLaid (refusal : Result ⊤ Refusal) (cs ps : List ℤ)
    (regions regions' rings rings' stack stack' : List ℕ) (r : ℕ) : Type 0 where
  pub answer : r ≡ rings_number refusal (region_count cs ps)
  pub regions_left : regions' ≡ left_of refusal (regions_of cs ps) regions
  pub rings_left : rings' ≡ left_of refusal (ring_words cs ps) rings
  pub stack_left : stack' ≡ work_of refusal stack

-- of an accepted scene, by the count answered
pub record RingsAnswered (cs ps : List ℤ) (regions set : List ℕ) (count : ℕ) : Type 0 where
  -- demand 3, on the regions written
  pub demand : RegionsOfScene cs ps regions count
  -- a region is in the set exactly if it has a ring, by its number as written and the scene's own connections
  pub rings : (q : ℕ) → q < count → (member_of set q ≡ true) ↔ RegionHasRing cs ps regions q
  -- beside `cyclic`
  pub laws : RingSceneLaws cs ps

-- from a rules number, the lists and three lent slices
pub record RingsByLists (rules : ℕ) (cs ps fs : List ℤ) (regions regions' rings rings' stack stack' : List ℕ) (r : ℕ) : Type 0 where
  pub by : RingsLaid (rings_lists_refusal rules cs ps fs (length regions) (length rings) (length stack))
      cs ps regions regions' rings rings' stack stack' r
  pub accepted : rings_lists_refusal rules cs ps fs (length regions) (length rings) (length stack) ≡ Ok tt
      → RingsAnswered cs ps regions' rings' (r / 65536 % 65536)
