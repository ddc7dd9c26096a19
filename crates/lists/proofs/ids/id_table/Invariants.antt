-- `lists::ids::id_table` meets its contract: the keys of all components, sorted.
-- Assumes nothing.
use mathlib.Core.Path.{◌≡◌}
use Prim.Native.Nat.{ℕ, ◌<◌}
use lib.ListN.{get_or}
use Rattle.tables.specs.Pairs.{pair}
use Rattle.lists.specs.Records.{component}
use Rattle.lists.proofs.ids.id_table.Given as goal

abbrev pub invariant-loop-k : goal.invariant-loop-k
invariant-loop-k l = (j : ℕ) → j < l.k → get_or l.keys j 0 ≡ pair (component l.components.numbers.now j).id j
