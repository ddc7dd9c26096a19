-- The sources of one input, for a host that calls through the C convention, by the definitions of `required_input`.
--     input_lists_refusal              its refusal; the sets are outputs of number 2
--     immediate_words, inferred_words  the words of its sets
--     InputByLists                     what `dustroute_input` answers and leaves
-- Assumes nothing: these are definitions.
use Rattle.std.specs.Prelude.{⊤, Some, None, Result, Ok}
use Rattle.std.specs.Prelude.{ℕ, ◌≡◌, ◌&&◌, List, length, ℤ}
use Rattle.lists.specs.declared.Fault.{Fault}
use Rattle.lists.specs.declared.Refusal.{Refusal}
use Rattle.sets.specs.Members.{word_count, words_of_set}
use Rattle.lists.specs.Records.{component_count}
use Rattle.lists.specs.First.{is_found}
use Rattle.lists.specs.Slices.{left_of, work_of}
use Rattle.checks.specs.Refusals.{refuse, ◌or_else◌, too_short, room_for, liveness_lists, packed}
use Rattle.inputs.specs.Query.{is_immediate, is_inferred_for, row_place, at_place}

-- the refusals of the lists, given how many numbers each lent slice has, then 8
abbrev pub input_lists_refusal : ℕ → List ℤ → List ℤ → List ℤ → ℕ → ℕ → ℕ → ℕ → ℕ → Result ⊤ Refusal
input_lists_refusal rules cs ps fs id port immediate inferred stack =
    liveness_lists rules cs ps fs
    ((room_for 1 word_count immediate && room_for 1 word_count inferred) && room_for (component_count cs) 2 stack)
    or_else refuse Fault.NoVerdictRow None (too_short (is_found (row_place rules cs id port)))

-- `word_count` words: the members that feed the port, and the inferred inputs among these and all upstream of them
abbrev pub immediate_words : ℕ → List ℤ → List ℤ → ℕ → ℕ → List ℕ
immediate_words rules cs ps id port =
    words_of_set word_count (component_count cs) (at_place (λ p a. is_immediate cs ps p port a) (row_place rules cs id port))

abbrev pub inferred_words : ℕ → List ℤ → List ℤ → List ℤ → ℕ → ℕ → List ℕ
inferred_words rules cs ps fs id port =
    words_of_set word_count (component_count cs) (at_place (λ p a. is_inferred_for rules cs ps fs p port a) (row_place rules cs id port))

-- by what the checks say: 0 or the number of the refusal, and what is left
pub record InputBy (checks : Result ⊤ Refusal) (rules : ℕ) (cs ps fs : List ℤ) (id port : ℕ)
    (immediate immediate' inferred inferred' stack stack' : List ℕ) (r : ℕ) : Type 0 where
  pub answer : r ≡ packed checks
  pub immediate_left : immediate' ≡ left_of checks (immediate_words rules cs ps id port) immediate
  pub inferred_left : inferred' ≡ left_of checks (inferred_words rules cs ps fs id port) inferred
  pub stack_left : stack' ≡ work_of checks stack

-- from a rules number, the lists, an id, a port and three lent slices
abbrev pub InputByLists : ℕ → List ℤ → List ℤ → List ℤ → ℕ → ℕ → List ℕ → List ℕ → List ℕ → List ℕ → List ℕ → List ℕ → ℕ → Type 0
InputByLists rules cs ps fs id port immediate immediate' inferred inferred' stack stack' r =
    InputBy (input_lists_refusal rules cs ps fs id port (length immediate) (length inferred) (length stack)) rules cs ps fs id port
    immediate immediate' inferred inferred' stack stack' r
