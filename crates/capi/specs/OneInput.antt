-- Whether one input is driven, for a host that calls through the C convention (document 02, R-5), by the definitions of `is_driven`.
--     driven_refusal     its refusal; the set is an output of number 2
--     driven_number      its answer as one number
--     met_words          the words of its set
--     DrivenByLists      what `dustroute_driven` answers and leaves
-- Assumes nothing: these are definitions.
use Rattle.lists.specs.declared.Fault.{Fault}
use Rattle.std.specs.Prelude.{⊤, None, Result, Ok, Err}
use Rattle.lists.specs.declared.Refusal.{Refusal}
use Rattle.std.specs.Prelude.{ℕ, ◌*◌, ◌≡◌, Bool, ◌&&◌, List, length, ℤ}
use Rattle.sets.specs.Members.{word_count, words_of_set, as_nat}
use Rattle.lists.specs.Records.{component_count}
use Rattle.lists.specs.First.{is_found}
use Rattle.lists.specs.Slices.{left_of, work_of}
use Rattle.checks.specs.Refusals.{refuse, ◌or_else◌, too_short, room_for, liveness_lists, packed}
use Rattle.regions.specs.Graph.{marked}
use Rattle.inputs.specs.Query.{row_place, at_place}
use Rattle.driven.specs.Driven.{upstream_from, driven_at}

-- the refusals of the lists, given how many numbers each lent slice has, then 8
abbrev pub driven_refusal : ℕ → List ℤ → List ℤ → List ℤ → ℕ → ℕ → ℕ → ℕ → Result ⊤ Refusal
driven_refusal rules cs ps fs id port met stack =
    liveness_lists rules cs ps fs (room_for 1 word_count met && room_for (component_count cs) 2 stack)
    or_else refuse Fault.NoVerdictRow None (too_short (is_found (row_place rules cs id port)))

-- a refusal's number, list and item, or 0 in the sixteen lowest bits and then 1 for yes, 0 for no
abbrev pub driven_number : Result ⊤ Refusal → Bool → ℕ
driven_number (Ok tt) driven = 65536 * as_nat driven
driven_number (Err refusal) driven = packed (Err refusal)

-- `word_count` words: the members that the search from the port met
abbrev pub met_words : ℕ → List ℤ → List ℤ → List ℤ → ℕ → ℕ → List ℕ
met_words rules cs ps fs id port =
    words_of_set word_count (component_count cs) (at_place (λ p a. marked (upstream_from cs ps fs p port).met a) (row_place rules cs id port))

-- from a rules number, the lists, an id, a port and two lent slices
pub record DrivenByLists (rules : ℕ) (cs ps fs : List ℤ) (id port : ℕ) (met met' stack stack' : List ℕ) (r : ℕ) : Type 0 where
  pub answer : r ≡ driven_number (driven_refusal rules cs ps fs id port (length met) (length stack)) (driven_at cs ps fs port (row_place rules cs id port))
  pub met_left : met' ≡ left_of (driven_refusal rules cs ps fs id port (length met) (length stack)) (met_words rules cs ps fs id port) met
  pub stack_left : stack' ≡ work_of (driven_refusal rules cs ps fs id port (length met) (length stack)) stack
