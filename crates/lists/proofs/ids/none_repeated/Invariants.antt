-- `lists::ids::none_repeated` meets its contract: no two neighbours passed have one id.
-- Assumes nothing.
use mathlib.Core.Path.{◌≡◌}
use Prim.Native.Nat.{ℕ, ◌+◌, ◌/◌, ◌<◌}
use lib.ListN.{get_or}
use Rattle.tables.specs.Pairs.{span}
use Rattle.lists.proofs.ids.none_repeated.Given as goal

abbrev pub invariant-loop-k : goal.invariant-loop-k
invariant-loop-k l = ((i : ℕ) → i + 1 < l.k → get_or l.keys i 0 / span ≡ get_or l.keys (i + 1) 0 / span → ⊥)
