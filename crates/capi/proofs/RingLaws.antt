-- From `find_rings` to the entry on lent lists.
--     roomy             with room for the set both have one refusal
--     short_rings       without it the lists alone decide
--     refused_rings     the answer and what is left beside a refusal
--     accepted_rings    and of a scene that was accepted
-- Assumes nothing.
use Rattle.std.specs.Prelude.{⊤, Result, Ok, Err}
use Rattle.lists.specs.declared.Refusal.{Refusal}
use mathlib.Core.Path.{◌≡◌, refl, sym, ap, ◌∙◌}
use mathlib.Core.Bool.{Bool, true, false, ◌&&◌}
use mathlib.Core.List.{List}
use Prim.Native.Nat.{ℕ, ◌*◌, ◌/◌, ◌%◌, ◌≤◌, ◌<◌}
use native.Mathlib.Omega.{arith}
use lib.ListN.{length, get_or-append, drop}
use lib.IntN.{ℤ}
use Rattle.sets.specs.Members.{word_count, member_of, test_bit}
use Rattle.lists.specs.Limits.{component_limit}
use Rattle.lists.specs.Slices.{laid}
use Rattle.checks.specs.Refusals.{room_for, liveness_lists, packed}
use Rattle.checks.proofs.Chain.{refused_not}
use Rattle.signals.specs.Regions.{region_count}
use Rattle.rings.specs.Entry.{rings_room, rings_refusal, RingsFound}
use Rattle.rings.specs.declared.Rings.{Rings}
use Rattle.capi.specs.Rings.{rings_lists_refusal, RingsByLists}
use Rattle.capi.proofs.LivenessLaws.{WordsOfSet, set_words, short_refused, few_regions}

-- a member of the set is one of the slice at whose front its words stand
member_laid : (words old : List ℕ) (q : ℕ) → length words ≡ word_count → q < 64 * word_count → member_of (laid words old) q ≡ member_of words q
unfolding member_of
member_laid words old q long h =
    ap (λ (w : ℕ). test_bit w (q % 64)) (get_or-append words (drop (length words) old) 0 (q / 64) (omega (arith, long)))

module _ (rules : ℕ) (cs ps fs : List ℤ) (regions rings stack : List ℕ) where
  abbrev refusal : Result ⊤ Refusal
  refusal = rings_lists_refusal rules cs ps fs (length regions) (length rings) (length stack)

  pub roomy : room_for 1 word_count (length rings) ≡ true → refusal ≡ rings_refusal rules cs ps fs (length regions) (length stack)
  roomy e = rw e

  pub refused_rings : (refused : Refusal) (r : ℕ) → refusal ≡ Err refused → r ≡ packed (Err refused)
      → RingsByLists rules cs ps fs regions regions rings rings stack stack r
  refused_rings refused r e f = record {
    by = rw e record { answer = f; regions_left = refl; rings_left = refl; stack_left = refl };
    accepted = λ q. absurd (refused_not (sym e ∙ q));
  }

  without : (t rest : Bool) → t ≡ false → liveness_lists rules cs ps fs (t && rest) ≡ liveness_lists rules cs ps fs false
  without t rest e = rw e

  pub short_rings : (r : ℕ) → room_for 1 word_count (length rings) ≡ false
      → r ≡ packed (liveness_lists rules cs ps fs false) → RingsByLists rules cs ps fs regions regions rings rings stack stack r
  short_rings r none f =
      let (refused, e) = short_refused rules cs ps fs in
      refused_rings refused r (without _ _ none ∙ e) (f ∙ ap packed e)

  pub count_few : rings_refusal rules cs ps fs (length regions) (length stack) ≡ Ok tt → region_count cs ps ≤ component_limit
  count_few e = few_regions rules cs ps fs (rings_room cs (length regions) (length stack)) e

  module _ (regions' stack' : List ℕ) (answer : Rings) (found : RingsFound rules cs ps fs regions regions' stack stack' (Ok answer)) where
    taken : rings_refusal rules cs ps fs (length regions) (length stack) ≡ Ok tt
    taken = sym found.by.answer

    -- sixteen bits of the answer
    counted : (r : ℕ) → r ≡ 65536 * answer.count → r / 65536 % 65536 ≡ answer.count
    counted r e = omega (arith, e, found.by.found.count_is, count_few taken)

    pub accepted_rings : (rings' : List ℕ) (r : ℕ) → room_for 1 word_count (length rings) ≡ true
        → WordsOfSet answer.rings.words → rings' ≡ laid answer.rings.words rings → r ≡ 65536 * answer.count
        → RingsByLists rules cs ps fs regions regions' rings rings' stack stack' r
    accepted_rings rings' r room u set count =
        let left = rw taken at found.by in
        record {
          by = rw (roomy room ∙ taken) record {
            answer = count ∙ ap (λ (k : ℕ). 65536 * k) left.found.count_is;
            regions_left = left.regions_left;
            rings_left = set ∙ ap (λ (l : List ℕ). laid l rings) (set_words u left.found.rings_set);
            stack_left = left.stack_left;
          };
          accepted = λ q. rw (counted r count) record {
            demand = found.demand;
            rings = λ p h.
                let here : member_of rings' p ≡ member_of answer.rings.words p =
                ap (λ (l : List ℕ). member_of l p) set
                ∙ member_laid answer.rings.words rings p u.long (omega (arith, h, left.found.count_is, count_few taken)) in
                (λ m. (found.rings p h).0 (sym here ∙ m), λ g. here ∙ (found.rings p h).1 g);
            laws = found.laws;
          };
        }
