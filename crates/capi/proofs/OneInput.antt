-- From `is_driven` to the entry on lent lists.
--     roomy              with room for the set both have one refusal
--     short_driven       without it the lists alone decide
--     refused_driven     the answer and what is left beside a refusal
--     accepted_driven    and of a question that was put
-- Assumes nothing.
use Rattle.std.specs.Prelude.{⊤, Result, Ok, Err}
use Rattle.lists.specs.declared.Refusal.{Refusal}
use mathlib.Core.Path.{◌≡◌, ap, ◌∙◌}
use mathlib.Core.Bool.{Bool, true, false, ◌&&◌}
use mathlib.Core.List.{List}
use Prim.Native.Nat.{ℕ, ◌*◌}
use lib.ListN.{length}
use lib.IntN.{ℤ}
use Rattle.sets.specs.Members.{word_count, as_nat}
use Rattle.lists.specs.Slices.{laid, cleared}
use Rattle.checks.specs.Refusals.{◌or_else◌, room_for, liveness_lists, packed}
use Rattle.inputs.specs.Query.{row_place, input_refusal}
use Rattle.driven.specs.Driven.{PortDriven}
use Rattle.driven.specs.declared.DrivenInput.{DrivenInput}
use Rattle.capi.specs.OneInput.{driven_refusal, DrivenByLists}
use Rattle.capi.proofs.LivenessLaws.{WordsOfSet, set_words, short_refused}

ends_there : {a : Result ⊤ Refusal} {refusal : Refusal} (b : Result ⊤ Refusal) → a ≡ Err refusal → a or_else b ≡ Err refusal
ends_there b e = rw e

module _ (rules : ℕ) (cs ps fs : List ℤ) (id port : ℕ) (met stack : List ℕ) where
  pub roomy : room_for 1 word_count (length met) ≡ true
      → driven_refusal rules cs ps fs id port (length met) (length stack) ≡ input_refusal rules cs ps fs id port (length stack)
  roomy e = rw e

  pub refused_driven : (refusal : Refusal) (r : ℕ) → driven_refusal rules cs ps fs id port (length met) (length stack) ≡ Err refusal
      → r ≡ packed (Err refusal) → DrivenByLists rules cs ps fs id port met met stack stack r
  refused_driven refusal r e f = record { answer = rw e f; met_left = rw e; stack_left = rw e }

  without : (t rest : Bool) → t ≡ false → liveness_lists rules cs ps fs (t && rest) ≡ liveness_lists rules cs ps fs false
  without t rest e = rw e

  pub short_driven : (r : ℕ) → room_for 1 word_count (length met) ≡ false → r ≡ packed (liveness_lists rules cs ps fs false)
      → DrivenByLists rules cs ps fs id port met met stack stack r
  short_driven r none f =
      let (refusal, e) = short_refused rules cs ps fs in
      refused_driven refusal r (ends_there _ (without _ _ none ∙ e)) (f ∙ ap packed e)

  pub accepted_driven : (met' stack' : List ℕ) (r : ℕ) (answer : DrivenInput)
      → driven_refusal rules cs ps fs id port (length met) (length stack) ≡ Ok tt
      → WordsOfSet answer.met.words → PortDriven cs ps fs (row_place rules cs id port) port answer
      → met' ≡ laid answer.met.words met → stack' ≡ cleared stack → r ≡ 65536 * as_nat answer.driven
      → DrivenByLists rules cs ps fs id port met met' stack stack' r
  accepted_driven met' stack' r answer e w d set zero count =
      record {
        answer = rw e (count ∙ ap (λ (b : Bool). 65536 * as_nat b) d.driven_is);
        met_left = rw e (set ∙ ap (λ (l : List ℕ). laid l met) (set_words w d.met_set));
        stack_left = rw e zero;
      }
