-- What a placed block writes, by the count of freed places.
-- Assumes nothing.
use mathlib.Core.Path.{◌≡◌}
use mathlib.Core.List.{List}
use Prim.Native.Nat.{ℕ, ◌+◌, ◌-◌}
use lib.ListN.{set}
use borrow.Author.Tests.{eq-eqb, ne_eqb}
use Rattle.held.specs.Lent.{counter, used_in, freed_count_in}
use Rattle.held.specs.Writes.{seat_in, seated_state}

module _ (state : List ℕ) where
  pub seat_lowest : freed_count_in state ≡ 0 → seat_in state ≡ used_in state
  unfolding seat_in
  seat_lowest e = rw (eq-eqb (freed_count_in state) 0 e)

  pub state_lowest : freed_count_in state ≡ 0 → seated_state state ≡ set state 1 (used_in state + 1)
  unfolding seated_state
  state_lowest e = rw (eq-eqb (freed_count_in state) 0 e)

  pub seat_latest : (freed_count_in state ≡ 0 → ⊥) → seat_in state ≡ counter state (4 + freed_count_in state)
  unfolding seat_in
  seat_latest n = rw (ne_eqb (freed_count_in state) 0 n)

  pub state_latest : (freed_count_in state ≡ 0 → ⊥) → seated_state state ≡ set (set state (4 + freed_count_in state) 0) 2 (freed_count_in state - 1)
  unfolding seated_state
  state_latest n = rw (ne_eqb (freed_count_in state) 0 n)
