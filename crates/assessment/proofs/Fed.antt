-- The keys of a slot in a rising table.
--     here, outside                                 a key of a slot, and where those of a slot stand
--     fed_here, fed_past                            slot_fed, by the first key that is not below the slot's
-- Assumes nothing.
use mathlib.Core.Path.{◌≡◌}
use mathlib.Core.Bool.{true, false}
use mathlib.Core.List.{List}
use mathlib.Core.Logic.{⊎_elim}
use Prim.Native.Nat.{ℕ, ◌*◌, ◌/◌, ◌%◌, ◌≤◌, ◌<◌}
use native.Mathlib.Omega.{arith}
use lib.ListN.{length, get_or}
use Rattle.tables.specs.Order.{Ascending, LowerBound, member}
use Rattle.tables.specs.Laws.{order?, at_member, member_none}
use Rattle.tables.specs.Pairs.{span, pair}
use Rattle.lists.proofs.Some.{some_at, some_none}
use Rattle.assessment.specs.Rows.{slot_fed}

-- ---- the keys of a slot

module _ (keys : List ℕ) (slot : ℕ) where
  -- a key of the slot is the pair of the slot and its second number
  pub here : (k : ℕ) → k < length keys → get_or keys k 0 / span ≡ slot → member (pair slot (get_or keys k 0 % span)) keys ≡ true
  here k h e = at_member (pair slot (get_or keys k 0 % span)) keys k h (omega arith)

  pub fed_here : (k : ℕ) → k < length keys → get_or keys k 0 / span ≡ slot → slot_fed keys slot ≡ true
  unfolding slot_fed
  fed_here k h e = some_at (λ a. member (pair slot a) keys) span (get_or keys k 0 % span) (omega arith) (here k h e)

  module _ (rising : Ascending keys) {first : ℕ} (low : LowerBound keys (slot * span) first) where
    -- no key of the slot stands before the first place, nor from a place on whose key is of another slot
    pub outside : (at : ℕ) → first ≤ at → (at < length keys → get_or keys at 0 / span ≡ slot → ⊥)
        → (k : ℕ) → k < length keys → get_or keys k 0 / span ≡ slot → (first ≤ k) × (k < at)
    outside at le past k h e = (
      ⊎_elim (λ (l : first ≤ k). l) (λ (l : k < first). absurd (let w = low.before rising k l in omega arith)) (order? first k),
      ⊎_elim
          (λ (l : at ≤ k). absurd (
          let up = rising.at at k l h in
          let from = low.from rising at le (omega arith) in
          past (omega arith) (omega arith)))
          (λ (l : k < at). l)
          (order? at k),
    )

    pub fed_past : (first < length keys → get_or keys first 0 / span ≡ slot → ⊥) → slot_fed keys slot ≡ false
    unfolding slot_fed
    fed_past past =
        some_none (λ a. member (pair slot a) keys) span
        (λ a l. member_none (pair slot a) keys (λ k h e. let o = outside first (omega arith) past k h (omega arith) in omega (arith, o.0, o.1)))
