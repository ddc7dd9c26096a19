-- The entry `light_regions`: what it answers, and what it leaves in the slices that it was lent. It refuses as the liveness entry does
-- (document 01, the table of refusals), with its own two slices in number 2.
--     light_room, light_refusal     a place for each component in both slices; the refusal
--     LitOf, LitBy, Lighted         the count and the sets; by what the checks say; from the lists
-- Assumes nothing: these are definitions.
use Rattle.std.specs.Prelude.{⊤, Result, IfOk}
use Rattle.lists.specs.declared.Refusal.{Refusal}
use Rattle.std.specs.Prelude.{ℕ, ◌<◌, ◌≡◌, Bool, ◌&&◌, List, length, get_or, ℤ}
use Rattle.sets.specs.Members.{member_of}
use Rattle.lists.specs.Records.{component_count}
use Rattle.lists.specs.Ids as Ids
use Rattle.lists.specs.Slices.{left_of, work_of}
use Rattle.checks.specs.Refusals.{room_for, liveness_lists}
use Rattle.regions.specs.Graph.{marked}
use Rattle.signals.specs.Sources.{is_drive}
use Rattle.signals.specs.Regions.{region_count, regions_of}
use Rattle.signals.specs.Drive.{drive}
use Rattle.liveness.specs.Sets.{SetWhere, checked}
use Rattle.liveness.specs.Demand.{RegionsOfScene}
use Rattle.liveness.specs.Meaning.{FedFrom}
use Rattle.lighting.specs.Pass.{lit}
use Rattle.lighting.specs.Laws.{LightLaws}
use Rattle.lighting.specs.declared.Lit.{Lit}

-- per component one region and one pair of the walk's stack
abbrev pub light_room : List ℤ → ℕ → ℕ → Bool
light_room cs regions stack = room_for (component_count cs) 1 regions && room_for (component_count cs) 2 stack

abbrev pub light_refusal : ℕ → List ℤ → List ℤ → List ℤ → ℕ → ℕ → Result ⊤ Refusal
light_refusal rules cs ps fs regions stack = liveness_lists rules cs ps fs (light_room cs regions stack)

-- the count and the sets of an accepted scene
pub record LitOf (cs ps fs : List ℤ) (a : Lit) : Type 0 where
  pub count_is : a.count ≡ region_count cs ps
  -- of regions
  pub lit_set : SetWhere (region_count cs ps) (lit cs ps fs) a.lit.words
  -- of members: the set that the liveness entry answers
  pub driven_set : SetWhere (component_count cs) (marked (drive cs ps fs)) a.driven.words

-- by what the checks say: their refusal, or the count and the sets, and the regions
pub record LitBy (checks : Result ⊤ Refusal) (cs ps fs : List ℤ) (regions regions' stack stack' : List ℕ) (r : Result Lit Refusal) : Type 0 where
  pub answer : checked r ≡ checks
  pub found : IfOk r (LitOf cs ps fs)
  pub regions_left : regions' ≡ left_of checks (regions_of cs ps) regions
  pub stack_left : stack' ≡ work_of checks stack

-- from components, port connections, frontiers and two lent slices
pub record Lighted (rules : ℕ) (cs ps fs : List ℤ) (regions regions' stack stack' : List ℕ) (r : Result Lit Refusal) : Type 0 where
  pub by : LitBy (light_refusal rules cs ps fs (length regions) (length stack)) cs ps fs regions regions' stack stack' r
  -- demand 3, on the answer itself
  pub demand : IfOk r (λ a. RegionsOfScene cs ps regions' a.count)
  -- driven: some drive source has a chain to it
  pub driven : IfOk r (λ a. FedFrom cs ps (is_drive cs fs) (λ p. member_of a.driven.words (Ids.member_of cs p)))
  -- a component is driven exactly if its region, as written, is lit: the driven components are whole regions
  pub whole : IfOk r (λ a. (p : ℕ) → p < component_count cs
      → member_of a.driven.words (Ids.member_of cs p) ≡ member_of a.lit.words (get_or regions' p 0))
  -- request R-11
  pub laws : IfOk r (λ a. LightLaws cs ps fs)
