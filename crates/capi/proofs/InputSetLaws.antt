-- From `required_input` to the entry on lent lists.
--     roomy             with room for both sets both have one refusal
--     short_input       without it the lists alone decide
--     refused_input     the answer and what is left beside a refusal
--     accepted_input    and of a question that was put
-- Assumes nothing.
use Rattle.std.specs.Prelude.{⊤, Result, Ok, Err}
use Rattle.lists.specs.declared.Refusal.{Refusal}
use mathlib.Core.Path.{◌≡◌, refl, ap, ◌∙◌}
use mathlib.Core.Bool.{Bool, true, false, ◌&&◌}
use mathlib.Core.List.{List}
use Prim.Native.Nat.{ℕ}
use lib.ListN.{length}
use lib.IntN.{ℤ}
use Rattle.sets.specs.Members.{word_count}
use Rattle.lists.specs.Slices.{laid, cleared}
use Rattle.checks.specs.Refusals.{◌or_else◌, room_for, liveness_lists, packed}
use Rattle.inputs.specs.Query.{row_place, input_refusal, PortSets}
use Rattle.inputs.specs.declared.InputSources.{InputSources}
use Rattle.capi.specs.InputSets.{input_lists_refusal, InputByLists}
use Rattle.capi.proofs.LivenessLaws.{WordsOfSet, set_words, short_refused}

ends_there : {a : Result ⊤ Refusal} {refusal : Refusal} (b : Result ⊤ Refusal) → a ≡ Err refusal → a or_else b ≡ Err refusal
ends_there b e = rw e

module _ (rules : ℕ) (cs ps fs : List ℤ) (id port : ℕ) (immediate inferred stack : List ℕ) where
  abbrev refusal : Result ⊤ Refusal
  refusal = input_lists_refusal rules cs ps fs id port (length immediate) (length inferred) (length stack)

  abbrev room : Bool
  room = room_for 1 word_count (length immediate) && room_for 1 word_count (length inferred)

  pub roomy : room ≡ true → refusal ≡ input_refusal rules cs ps fs id port (length stack)
  roomy e = rw e

  pub refused_input : (refused : Refusal) (r : ℕ) → refusal ≡ Err refused → r ≡ packed (Err refused)
      → InputByLists rules cs ps fs id port immediate immediate inferred inferred stack stack r
  refused_input refused r e f = rw e record { answer = f; immediate_left = refl; inferred_left = refl; stack_left = refl }

  without : (t rest : Bool) → t ≡ false → liveness_lists rules cs ps fs (t && rest) ≡ liveness_lists rules cs ps fs false
  without t rest e = rw e

  pub short_input : (r : ℕ) → room ≡ false → r ≡ packed (liveness_lists rules cs ps fs false)
      → InputByLists rules cs ps fs id port immediate immediate inferred inferred stack stack r
  short_input r none f =
      let (refused, e) = short_refused rules cs ps fs in
      refused_input refused r (ends_there _ (without _ _ none ∙ e)) (f ∙ ap packed e)

  pub accepted_input : (immediate' inferred' stack' : List ℕ) (r : ℕ) (found : InputSources) → refusal ≡ Ok tt
      → WordsOfSet found.immediate.words → WordsOfSet found.inferred.words → PortSets rules cs ps fs (row_place rules cs id port) port found
      → immediate' ≡ laid found.immediate.words immediate → inferred' ≡ laid found.inferred.words inferred → stack' ≡ cleared stack → r ≡ 0
      → InputByLists rules cs ps fs id port immediate immediate' inferred inferred' stack stack' r
  accepted_input immediate' inferred' stack' r found e u v sets first second zero none =
      rw e record {
        answer = none;
        immediate_left = first ∙ ap (λ (l : List ℕ). laid l immediate) (set_words u sets.immediate_set);
        inferred_left = second ∙ ap (λ (l : List ℕ). laid l inferred) (set_words v sets.inferred_set);
        stack_left = zero;
      }
