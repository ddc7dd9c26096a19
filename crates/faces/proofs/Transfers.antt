-- The transfers of the kinds of connection: at most 6, and 6 for Support alone.
-- Assumes nothing.
use mathlib.Core.Path.{◌≡◌, refl}
use mathlib.Core.Bool.{Bool, true, false}
use mathlib.Core.List.{[], ◌∷◌}
use Prim.Native.Nat.{ℕ, ◌≤◌, ◌<◌}
use native.Mathlib.Omega.{arith}
use lib.Dec.{ltb}
use lib.ListN.{get_or-eq_default}
use borrow.Author.Tests.{ltb-true, ltb-false}
use Rattle.lists.specs.First.{all_from}
use Rattle.lists.proofs.Search.{all_at}
use Rattle.faces.specs.Select.{support_kind, transfer_of}

past : (kind : ℕ) → 10 ≤ kind → transfer_of kind ≡ 0
unfolding transfer_of
past kind h = get_or-eq_default (0 ∷ 0 ∷ 0 ∷ 2 ∷ 3 ∷ 4 ∷ 4 ∷ 1 ∷ 5 ∷ 6 ∷ []) 0 {n = kind} h

pub transfer_most : (kind : ℕ) → transfer_of kind ≤ 6
unfolding all_from transfer_of
transfer_most kind = go (ltb kind 10) refl
  where
    go : (t : Bool) → ltb kind 10 ≡ t → transfer_of kind ≤ 6
    go true e = let h = ltb-true kind 10 e in omega (arith, ltb-true (transfer_of kind) 7 (all_at (λ k. ltb (transfer_of k) 7) 0 10 refl kind (omega arith) (omega arith)))
    go false e = omega (arith, past kind (ltb-false kind 10 e))

pub transfer_below : (kind : ℕ) → (kind ≡ support_kind → ⊥) → transfer_of kind < 6
unfolding all_from transfer_of
transfer_below kind n = go (ltb kind 9) refl
  where
    go : (t : Bool) → ltb kind 9 ≡ t → transfer_of kind < 6
    go true e = let h = ltb-true kind 9 e in ltb-true _ _ (all_at (λ k. ltb (transfer_of k) 6) 0 9 refl kind (omega arith) (omega arith))
    go false e = let h = ltb-false kind 9 e in omega (arith, past kind (omega arith))
