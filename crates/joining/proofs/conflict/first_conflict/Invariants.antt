-- What is left to search has the answer.
use mathlib.Core.Path.{◌≡◌}
use Prim.Native.Nat.{◌-◌}
use Rattle.lists.specs.First.{first_from}
use Rattle.joining.specs.Conflict.{conflicts, first_conflict}
use Rattle.joining.proofs.conflict.first_conflict.Given as goal

abbrev pub invariant-loop-k : goal.invariant-loop-k
invariant-loop-k l = first_from (conflicts l.first l.second.numbers.now) l.k (l.k-end - l.k) ≡ first_conflict l.first l.second.numbers.now
