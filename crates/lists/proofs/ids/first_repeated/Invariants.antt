-- `lists::ids::first_repeated` meets its contract: what is left to search has the answer.
-- Assumes nothing.
use mathlib.Core.Path.{◌≡◌}
use Prim.Native.Nat.{◌-◌}
use Rattle.lists.specs.First.{first_from}
use Rattle.lists.specs.Ids.{used_earlier, first_repeated}
use Rattle.lists.proofs.ids.first_repeated.Given as goal

abbrev pub invariant-loop-k : goal.invariant-loop-k
invariant-loop-k l = first_from (used_earlier l.components.numbers.now) l.k (l.k-end - l.k) ≡ first_repeated l.components.numbers.now
