-- What is proved of the pass on every accepted scene (document 02, R-11):
--
--     "the driven components are a union of whole regions,    whole, holds
--     and marking regions once in number order is enough:     driven, enough
--     a region is driven exactly if it holds a drive          once
--     source or an already marked region feeds it             (of smaller number: rises)
--     .. under every rules number."                           `drive`, `feeds`, `holds_drive` and `lit` take none, as their types show
--
-- The theorem is `light_laws` of proofs/Lights.antt.
-- Assumes nothing: these are statements.
use Rattle.std.specs.Prelude.{ℕ, ◌≤◌, ◌<◌, ◌≡◌, Bool, true, ◌&&◌, ◌||◌, List, ◌↔◌, ℤ}
use Rattle.lists.specs.Records.{component, component_count}
use Rattle.lists.specs.First.{some}
use Rattle.lists.specs.Ids.{member_of}
use Rattle.regions.specs.Graph.{marked}
use Rattle.signals.specs.Sources.{is_drive}
use Rattle.signals.specs.Regions.{region_count, region_of_place, holds_drive}
use Rattle.signals.specs.Drive.{drive}
use Rattle.liveness.specs.Demand.{Chain}
use Rattle.lighting.specs.Pass.{feeds, lit}

-- the old walk marks the component at list place p as driven
abbrev pub is_driven : List ℤ → List ℤ → List ℤ → ℕ → Bool
is_driven cs ps fs p = marked (drive cs ps fs) (member_of cs p)

-- a chain of signal connections leads from a drive source to the component at list place p
abbrev pub Fed : List ℤ → List ℤ → List ℤ → ℕ → Type 0
Fed cs ps fs p = (s : ℕ) × (s < component_count cs) × (is_drive cs fs s ≡ true) × Chain ps (component cs s).id (component cs p).id

pub record LightLaws (cs ps fs : List ℤ) : Type 0 where
  -- a component is driven exactly if its region is lit
  pub driven : (p : ℕ) → p < component_count cs → is_driven cs ps fs p ≡ lit cs ps fs (region_of_place cs ps p)
  -- the same, by chains
  pub fed : (p : ℕ) → p < component_count cs → (lit cs ps fs (region_of_place cs ps p) ≡ true) ↔ Fed cs ps fs p
  -- the driven components are whole regions: of two in one region both are driven, or neither
  pub whole : (p q : ℕ) → p < component_count cs → q < component_count cs → region_of_place cs ps p ≡ region_of_place cs ps q
      → is_driven cs ps fs p ≡ is_driven cs ps fs q
  -- a region is lit exactly if it holds a drive source or a lit region of smaller number feeds it
  pub once : (r : ℕ) → r < region_count cs ps → lit cs ps fs r ≡ (holds_drive cs ps fs r || some (λ q. lit cs ps fs q && feeds cs ps q r) r)
  -- a region is fed by none of greater number
  pub rises : (q r : ℕ) → feeds cs ps q r ≡ true → q ≤ r
  -- a second pass would add nothing: what a lit region feeds is lit
  pub enough : (q r : ℕ) → feeds cs ps q r ≡ true → lit cs ps fs q ≡ true → lit cs ps fs r ≡ true
  -- a region is lit exactly if some component in it is driven
  pub holds : (r : ℕ) → r < region_count cs ps
      → (lit cs ps fs r ≡ true) ↔ ((p : ℕ) × (p < component_count cs) × (region_of_place cs ps p ≡ r) × (is_driven cs ps fs p ≡ true))
