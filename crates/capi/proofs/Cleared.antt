-- From `clear_missing` to the entry on lent lists.
--     few_parted          the counts have room in their digits
--     refused_clear       the answer and what is left beside a refusal
--     accepted_clear      and of a scene that is taken
-- Assumes nothing.
use Rattle.std.specs.Prelude.{Ok, Err}
use mathlib.Core.Path.{◌≡◌, sym, ap₂, ◌∙◌}
use mathlib.Core.List.{List}
use Prim.Native.Nat.{ℕ, ◌+◌, ◌*◌, ◌/◌, ◌%◌, ◌≤◌}
use native.Mathlib.Omega.{arith}
use lib.ListN.{length}
use lib.IntN.{ℤ}
use Rattle.lists.specs.declared.Refusal.{Refusal}
use Rattle.lists.specs.Limits.{connection_limit}
use Rattle.checks.specs.Refusals.{packed}
use Rattle.checks.proofs.Chain.{refused_not}
use Rattle.clearing.specs.Entry.{Clears}
use Rattle.clearing.specs.declared.Cleared.{Cleared}
use Rattle.clearing.proofs.Promises.{taken_few}
use Rattle.capi.specs.Clear.{ClearByLists}

module _ {rules : ℕ} {cs ps fs kept kept' : List ℤ} {dropped dropped' : List ℕ} where
  pub refused_clear : {refusal : Refusal} {r : ℕ} → Clears rules cs ps fs kept kept' dropped dropped' (Err refusal) → r ≡ packed (Err refusal)
      → ClearByLists rules cs ps fs kept kept' dropped dropped' r
  refused_clear call e =
      record {
        answer = rw (sym call.by.answer) e;
        kept_left = call.by.kept_left;
        dropped_left = call.by.dropped_left;
        promise = λ taken. absurd (refused_not (call.by.answer ∙ taken));
      }

  module _ {c : Cleared} (call : Clears rules cs ps fs kept kept' dropped dropped' (Ok c)) where
    pub few_parted : (c.kept ≤ connection_limit) × (c.dropped ≤ connection_limit)
    few_parted =
        let few = taken_few rules cs ps fs (length kept) (length dropped) (sym call.by.answer) in
        (omega (arith, few.0, call.by.counts.kept_count), omega (arith, few.1, call.by.counts.dropped_count))

    module _ {r : ℕ} (e : r ≡ 65536 * c.kept + 4294967296 * c.dropped) where
      -- the count is sixteen bits of the answer
      kept_told : r / 65536 % 65536 ≡ c.kept
      kept_told = omega (arith, e, few_parted.0, few_parted.1)

      pub accepted_clear : ClearByLists rules cs ps fs kept kept' dropped dropped' r
      accepted_clear =
          record {
            answer = rw (sym call.by.answer) (e ∙ ap₂ (λ (k d : ℕ). 65536 * k + 4294967296 * d) call.by.counts.kept_count call.by.counts.dropped_count);
            kept_left = call.by.kept_left;
            dropped_left = call.by.dropped_left;
            promise = λ t. rw kept_told call.promise;
          }
