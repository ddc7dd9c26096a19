-- The entry `find_rings` (added): what it answers, and what it leaves in the slices that it was lent. It refuses as the liveness entry does
-- (document 01, the table of refusals), with its own two slices in number 2.
--     rings_room, rings_refusal         a place for each component in both slices; the refusal
--     RingsOf, RingsBy, RingsFound      the count and the set; by what the checks say; from the lists
-- Assumes nothing: these are definitions.
use Rattle.std.specs.Prelude.{⊤, Result, IfOk}
use Rattle.lists.specs.declared.Refusal.{Refusal}
use Rattle.std.specs.Prelude.{ℕ, ◌<◌, ◌≡◌, Bool, true, ◌&&◌, List, length, ◌↔◌, ℤ}
use Rattle.sets.specs.Members.{member_of}
use Rattle.lists.specs.Records.{component_count}
use Rattle.lists.specs.Slices.{left_of, work_of}
use Rattle.checks.specs.Refusals.{room_for, liveness_lists}
use Rattle.signals.specs.Regions.{region_count, regions_of}
use Rattle.liveness.specs.Sets.{SetWhere, checked}
use Rattle.liveness.specs.Demand.{RegionsOfScene}
use Rattle.rings.specs.Scene.{RegionHasRing, has_ring, RingSceneLaws}
use Rattle.rings.specs.declared.Rings.{Rings}

-- per component one region and one pair of the walk's stack
abbrev pub rings_room : List ℤ → ℕ → ℕ → Bool
rings_room cs regions stack = room_for (component_count cs) 1 regions && room_for (component_count cs) 2 stack

abbrev pub rings_refusal : ℕ → List ℤ → List ℤ → List ℤ → ℕ → ℕ → Result ⊤ Refusal
rings_refusal rules cs ps fs regions stack = liveness_lists rules cs ps fs (rings_room cs regions stack)

-- the count and the set of an accepted scene
pub record RingsOf (cs ps : List ℤ) (a : Rings) : Type 0 where
  pub count_is : a.count ≡ region_count cs ps
  -- of regions
  pub rings_set : SetWhere (region_count cs ps) (has_ring cs ps) a.rings.words

-- by what the checks say: their refusal, or the count and the set, and the regions
pub record RingsBy (checks : Result ⊤ Refusal) (cs ps : List ℤ) (regions regions' stack stack' : List ℕ)
    (r : Result Rings Refusal) : Type 0 where
  pub answer : checked r ≡ checks
  pub found : IfOk r (RingsOf cs ps)
  pub regions_left : regions' ≡ left_of checks (regions_of cs ps) regions
  pub stack_left : stack' ≡ work_of checks stack

-- from components, port connections, frontiers and two lent slices
pub record RingsFound (rules : ℕ) (cs ps fs : List ℤ) (regions regions' stack stack' : List ℕ)
    (r : Result Rings Refusal) : Type 0 where
  pub by : RingsBy (rings_refusal rules cs ps fs (length regions) (length stack)) cs ps regions regions' stack stack' r
  -- demand 3, on the answer itself
  pub demand : IfOk r (λ a. RegionsOfScene cs ps regions' a.count)
  -- a region is in the set exactly if it has a ring, by its number as written and the scene's own connections
  pub rings : IfOk r (λ a. (q : ℕ) → q < a.count → (member_of a.rings.words q ≡ true) ↔ RegionHasRing cs ps regions' q)
  -- beside `cyclic`
  pub laws : IfOk r (λ a. RingSceneLaws cs ps)
