-- Whether one input is driven (document 02, R-5): the search of `Seek` from the immediate sources of a port, against the signal edges, for a drive
-- source. Inferred inputs have no part in it.
--     upstream_from        the search from a port of the component at a list place
--     driven_at, Asked     what `is_driven` answers and leaves
-- Assumes nothing: these are definitions.
use Rattle.std.specs.Prelude.{⊤, Option, Some, None, Result, IfOk}
use Rattle.std.specs.Prelude.{ℕ, ◌≡◌, Bool, false, List, length, ℤ}
use Rattle.lists.specs.Records.{component_count}
use Rattle.lists.specs.Slices.{work_of}
use Rattle.lists.specs.declared.Refusal.{Refusal}
use Rattle.regions.specs.Graph.{marked, flip}
use Rattle.signals.specs.Signals.{signals}
use Rattle.liveness.specs.Sets.{SetWhere, checked}
use Rattle.inputs.specs.Query.{row_place, input_refusal, at_place}
use Rattle.inputs.specs.Port.{drive_sources, immediate_sources}
use Rattle.driven.specs.Seek.{Search, sought}
use Rattle.driven.specs.declared.DrivenInput.{DrivenInput}

-- "going upstream from it, .. stopping at the first drive source met"
unfoldable pub upstream_from : List ℤ → List ℤ → List ℤ → ℕ → ℕ → Search
upstream_from cs ps fs p port = sought (component_count cs) (flip (signals cs ps)) (drive_sources cs fs) (immediate_sources cs ps p port)

-- ---- the answer

-- yes or no of a port of the component that was found
abbrev pub driven_at : List ℤ → List ℤ → List ℤ → ℕ → Option ℕ → Bool
driven_at cs ps fs port (Some p) = (upstream_from cs ps fs p port).stopped
driven_at cs ps fs port None = false

-- yes or no, and the members met, of a port of the component that was found
pub record PortDriven (cs ps fs : List ℤ) (place : Option ℕ) (port : ℕ) (s : DrivenInput) : Type 0 where
  pub driven_is : s.driven ≡ driven_at cs ps fs port place
  pub met_set : SetWhere (component_count cs) (at_place (λ p a. marked (upstream_from cs ps fs p port).met a) place) s.met.words

-- by what the checks say: their refusal, or the answer
pub record AskedBy (checks : Result ⊤ Refusal) (cs ps fs : List ℤ) (place : Option ℕ) (port : ℕ) (stack stack' : List ℕ) (r : Result DrivenInput Refusal) : Type 0 where
  pub answer : checked r ≡ checks
  pub found : IfOk r (PortDriven cs ps fs place port)
  pub stack_left : stack' ≡ work_of checks stack

-- from the lists, an id, a port and the lent stack, with the refusals of the input query
pub record Asked (rules : ℕ) (cs ps fs : List ℤ) (id port : ℕ) (stack stack' : List ℕ) (r : Result DrivenInput Refusal) : Type 0 where
  pub by : AskedBy (input_refusal rules cs ps fs id port (length stack)) cs ps fs (row_place rules cs id port) port stack stack' r
