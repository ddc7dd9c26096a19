-- From `light_regions` to the entry on lent lists.
--     roomy             with room for both sets both have one refusal
--     short_light       without it the lists alone decide
--     refused_light     the answer and what is left beside a refusal
--     accepted_light    and of a scene that was lit
-- Assumes nothing.
use Rattle.std.specs.Prelude.{⊤, Result, Ok, Err}
use Rattle.lists.specs.declared.Refusal.{Refusal}
use mathlib.Core.Path.{◌≡◌, refl, sym, ap, ◌∙◌}
use mathlib.Core.Bool.{Bool, true, false, ◌&&◌}
use mathlib.Core.List.{List}
use Prim.Native.Nat.{ℕ, ◌*◌, ◌/◌, ◌%◌, ◌≤◌}
use native.Mathlib.Omega.{arith}
use lib.ListN.{length}
use lib.IntN.{ℤ}
use Rattle.sets.specs.Members.{word_count}
use Rattle.lists.specs.Limits.{component_limit}
use Rattle.lists.specs.Slices.{laid}
use Rattle.checks.specs.Refusals.{room_for, liveness_lists, packed}
use Rattle.checks.proofs.Chain.{refused_not}
use Rattle.signals.specs.Regions.{region_count}
use Rattle.lighting.specs.Entry.{light_room, light_refusal, Lighted}
use Rattle.lighting.specs.declared.Lit.{Lit}
use Rattle.capi.specs.Light.{light_lists_refusal, LightByLists}
use Rattle.capi.proofs.LivenessLaws.{WordsOfSet, set_words, short_refused, few_regions}

module _ (rules : ℕ) (cs ps fs : List ℤ) (regions lit driven stack : List ℕ) where
  abbrev refusal : Result ⊤ Refusal
  refusal = light_lists_refusal rules cs ps fs (length regions) (length lit) (length driven) (length stack)

  pub roomy : (room_for 1 word_count (length lit) && room_for 1 word_count (length driven)) ≡ true
      → refusal ≡ light_refusal rules cs ps fs (length regions) (length stack)
  roomy e = rw e

  pub refused_light : (refused : Refusal) (r : ℕ) → refusal ≡ Err refused → r ≡ packed (Err refused)
      → LightByLists rules cs ps fs regions regions lit lit driven driven stack stack r
  refused_light refused r e f = record {
    by = rw e record { answer = f; regions_left = refl; lit_left = refl; driven_left = refl; stack_left = refl };
    demand = λ q. absurd (refused_not (sym e ∙ q));
    laws = λ q. absurd (refused_not (sym e ∙ q));
  }

  without : (t rest : Bool) → t ≡ false → liveness_lists rules cs ps fs (t && rest) ≡ liveness_lists rules cs ps fs false
  without t rest e = rw e

  pub short_light : (r : ℕ) → (room_for 1 word_count (length lit) && room_for 1 word_count (length driven)) ≡ false
      → r ≡ packed (liveness_lists rules cs ps fs false) → LightByLists rules cs ps fs regions regions lit lit driven driven stack stack r
  short_light r none f =
      let (refused, e) = short_refused rules cs ps fs in
      refused_light refused r (without _ _ none ∙ e) (f ∙ ap packed e)

  pub count_few : light_refusal rules cs ps fs (length regions) (length stack) ≡ Ok tt → region_count cs ps ≤ component_limit
  count_few e = few_regions rules cs ps fs (light_room cs (length regions) (length stack)) e

  module _ (regions' stack' : List ℕ) (answer : Lit) (lighted : Lighted rules cs ps fs regions regions' stack stack' (Ok answer)) where
    accepted : light_refusal rules cs ps fs (length regions) (length stack) ≡ Ok tt
    accepted = sym lighted.by.answer

    -- sixteen bits of the answer
    counted : (r : ℕ) → r ≡ 65536 * answer.count → r / 65536 % 65536 ≡ answer.count
    counted r e = omega (arith, e, lighted.by.found.count_is, count_few accepted)

    pub accepted_light : (lit' driven' : List ℕ) (r : ℕ) → (room_for 1 word_count (length lit) && room_for 1 word_count (length driven)) ≡ true
        → WordsOfSet answer.lit.words → WordsOfSet answer.driven.words
        → lit' ≡ laid answer.lit.words lit → driven' ≡ laid answer.driven.words driven → r ≡ 65536 * answer.count
        → LightByLists rules cs ps fs regions regions' lit lit' driven driven' stack stack' r
    accepted_light lit' driven' r room u v first second count =
        let left = rw accepted at lighted.by in
        record {
          by = rw (roomy room ∙ accepted) record {
            answer = count ∙ ap (λ (k : ℕ). 65536 * k) left.found.count_is;
            regions_left = left.regions_left;
            lit_left = first ∙ ap (λ (l : List ℕ). laid l lit) (set_words u left.found.lit_set);
            driven_left = second ∙ ap (λ (l : List ℕ). laid l driven) (set_words v left.found.driven_set);
            stack_left = left.stack_left;
          };
          demand = λ q. rw (counted r count) lighted.demand;
          laws = λ q. lighted.laws;
        }
