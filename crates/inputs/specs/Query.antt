-- The input query (document 01, "liveness.rs", added): a row's immediate sources, and the inferred inputs among these and all upstream of them.
--     is_immediate, upstream, is_inferred_for     of a port of the component at a list place
--     row_place                                 where the component of the port asked for stands, if the port has a verdict row (else refusal 8)
--     UpstreamOf                               what the second set means, in chains of the scene's own port connections
--     Answered                                 what `required_input` answers and leaves
-- Assumes nothing: these are definitions.
use Rattle.lists.specs.declared.Fault.{Fault}
use Rattle.std.specs.Prelude.{⊤, Option, Some, None, Result, Ok, Err, IfOk}
use Rattle.lists.specs.declared.Refusal.{Refusal}
use Rattle.std.specs.Prelude.{ℕ, ◌<◌, ◌≡◌, Bool, true, false, cond, ◌&&◌, List, [], ◌∷◌, ◌↔◌, eqb, length, ℤ}
use Rattle.sets.specs.Members.{member_of}
use Rattle.lists.specs.Records.{component, port_connection, component_count, port_count}
use Rattle.lists.specs.First.{is_found, some, tabulate}
use Rattle.lists.specs.Ids as Ids
use Rattle.lists.specs.Ids.{place_of}
use Rattle.checks.specs.Refusals.{refuse, too_short, ◌or_else◌, query_refusal, refusal_numbers, numbers_by}
use Rattle.lists.specs.Slices.{work_of}
use Rattle.regions.specs.Graph.{marked, flip}
use Rattle.regions.specs.Kosaraju.{reached}
use Rattle.signals.specs.Signals.{signals, source_member}
use Rattle.signals.specs.Regions.{is_inferred}
use Rattle.signals.specs.Drive.{members_where}
use Rattle.assessment.specs.Verdicts.{feeds_port, has_row}
use Rattle.liveness.specs.Demand.{Chain}
use Rattle.liveness.specs.Sets.{SetWhere, checked}
use Rattle.inputs.specs.declared.InputSources.{InputSources}

-- member a is an immediate source of the port of the component at p
unfoldable pub is_immediate : List ℤ → List ℤ → ℕ → ℕ → ℕ → Bool
is_immediate cs ps p port a = some (λ k. feeds_port cs ps p port k && eqb (source_member cs ps k) a) (port_count ps)

-- these and all upstream of them: what they reach along the edges turned around
unfoldable pub upstream : List ℤ → List ℤ → ℕ → ℕ → List Bool
upstream cs ps p port = reached (component_count cs) (flip (signals cs ps)) (tabulate (is_immediate cs ps p port) (component_count cs))

-- the inferred inputs among them
unfoldable pub is_inferred_for : ℕ → List ℤ → List ℤ → List ℤ → ℕ → ℕ → ℕ → Bool
is_inferred_for rules cs ps fs p port a = marked (upstream cs ps p port) a && marked (members_where cs (is_inferred rules cs ps fs)) a

-- ---- the port asked for, by an id and a port

-- the place, where the port of its component has a verdict row
abbrev pub with_row : ℕ → List ℤ → ℕ → Option ℕ → Option ℕ
with_row rules cs port (Some p) = cond (has_row rules (component cs p) port) (Some p) None
with_row rules cs port None = None

unfoldable pub row_place : ℕ → List ℤ → ℕ → ℕ → Option ℕ
row_place rules cs id port = with_row rules cs port (place_of cs id)

-- the refusals of the lists, then 8
abbrev pub input_refusal : ℕ → List ℤ → List ℤ → List ℤ → ℕ → ℕ → ℕ → Result ⊤ Refusal
input_refusal rules cs ps fs id port stack = query_refusal rules cs ps fs stack or_else refuse Fault.NoVerdictRow None (too_short (is_found (row_place rules cs id port)))

-- a test at a place that was found
abbrev pub at_place : (ℕ → ℕ → Bool) → Option ℕ → ℕ → Bool
at_place test (Some p) a = test p a
at_place test None a = false

-- the two sets of a port of the component that was found, empty where none was
pub record PortSets (rules : ℕ) (cs ps fs : List ℤ) (found : Option ℕ) (port : ℕ) (s : InputSources) : Type 0 where
  pub immediate_set : SetWhere (component_count cs) (at_place (λ p a. is_immediate cs ps p port a) found) s.immediate.words
  pub inferred_set : SetWhere (component_count cs) (at_place (λ p a. is_inferred_for rules cs ps fs p port a) found) s.inferred.words

-- an inferred input is in the second set of the port exactly if it has a chain to the source of a connection that feeds the port
pub record UpstreamOf (rules : ℕ) (cs ps fs : List ℤ) (p port : ℕ) (s : InputSources) : Type 0 where
  pub exactly : (q : ℕ) → q < component_count cs
      → (member_of s.inferred.words (Ids.member_of cs q) ≡ true)
      ↔ ((is_inferred rules cs ps fs q ≡ true)
      × ((k : ℕ) × (k < port_count ps) × (feeds_port cs ps p port k ≡ true) × Chain ps (component cs q).id (port_connection ps k).source))

-- the paper's numbers of each case: 0, or those of the refusal
abbrev pub numbers_of : Result InputSources Refusal → List ℕ
numbers_of (Ok s) = 0 ∷ []
numbers_of (Err r) = refusal_numbers r

-- by what the checks say: their refusal, or the sets
pub record InputsBy (checks : Result ⊤ Refusal) (rules : ℕ) (cs ps fs : List ℤ) (place : Option ℕ) (port : ℕ) (stack stack' : List ℕ) (r : Result InputSources Refusal) : Type 0 where
  pub answer : checked r ≡ checks
  pub numbers : numbers_of r ≡ numbers_by checks []
  pub sets : IfOk r (PortSets rules cs ps fs place port)
  pub stack_left : stack' ≡ work_of checks stack

-- from a rules number, the lists, an id, a port and the lent stack
pub record Answered (rules : ℕ) (cs ps fs : List ℤ) (id port : ℕ) (stack stack' : List ℕ) (r : Result InputSources Refusal) : Type 0 where
  pub by : InputsBy (input_refusal rules cs ps fs id port (length stack)) rules cs ps fs (row_place rules cs id port) port stack stack' r
  pub upstream : IfOk r (λ s. (p : ℕ) → row_place rules cs id port ≡ Some p → UpstreamOf rules cs ps fs p port s)
