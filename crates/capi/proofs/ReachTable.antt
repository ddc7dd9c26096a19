-- From `slow_regions` to the entry on lent lists.
--     refused_table      the answer and what is left beside a refusal
--     accepted_table     and of lists that were accepted
-- Assumes nothing.
use Rattle.std.specs.Prelude.{Ok, Err}
use Rattle.lists.specs.declared.Refusal.{Refusal}
use mathlib.Core.Path.{◌≡◌, sym, ap, subst, ◌∙◌}
use mathlib.Core.List.{List}
use Prim.Native.Nat.{ℕ, ◌*◌, ◌/◌, ◌%◌}
use native.Mathlib.Omega.{arith}
use lib.IntN.{ℤ}
use Rattle.checks.specs.Refusals.{packed}
use Rattle.checks.proofs.Chain.{refused_not}
use Rattle.liveness.specs.Demand.{RegionsOfScene}
use Rattle.reach_table.specs.Entry.{Tabled}
use Rattle.reach_table.proofs.Entries.{count_few}
use Rattle.capi.specs.ReachTable.{TabledByLists}

module _ {rules : ℕ} {cs ps fs : List ℤ} (square regions stack : List ℕ) {square' regions' stack' : List ℕ} where
  pub refused_table : {refusal : Refusal} (r : ℕ) → Tabled rules cs ps fs square square' regions regions' stack stack' (Err refusal) → r ≡ packed (Err refusal)
      → TabledByLists rules cs ps fs square square' regions regions' stack stack' r
  refused_table r t e =
      let refused = sym t.by.answer in
      record {
        answer = rw refused e;
        square_left = t.by.square_left;
        regions_left = t.by.regions_left;
        stack_left = t.by.stack_left;
        table = λ f. absurd (refused_not (sym refused ∙ f));
        demand = λ f. absurd (refused_not (sym refused ∙ f));
      }

  pub accepted_table : {count : ℕ} (r : ℕ) → Tabled rules cs ps fs square square' regions regions' stack stack' (Ok count) → r ≡ 65536 * count
      → TabledByLists rules cs ps fs square square' regions regions' stack stack' r
  accepted_table {count} r t e =
      let accepted = sym t.by.answer in
      let few = count_few square regions stack t in
      let told : count ≡ r / 65536 % 65536 = omega arith in
      record {
        answer = rw accepted (e ∙ ap (λ (k : ℕ). 65536 * k) t.by.count);
        square_left = t.by.square_left;
        regions_left = t.by.regions_left;
        stack_left = t.by.stack_left;
        table = λ f. t.table;
        demand = λ f. subst (λ (k : ℕ). RegionsOfScene cs ps regions' k) told t.demand;
      }
