-- `lists::order::first_not_ascending` meets its contract: what is left to search has the answer.
-- Assumes nothing.
use Prim.Native.Nat.{◌/◌}
use lib.ListN.{length}
use mathlib.Core.Path.{◌≡◌}
use mathlib.Core.Bool.{not}
use Prim.Native.Nat.{◌-◌, ◌*◌}
use Rattle.lists.specs.First.{first_from}
use Rattle.lists.specs.Order.{record_before, first_not_ascending}
use Rattle.lists.proofs.order.first_not_ascending.Given as goal

abbrev pub invariant-loop-k : goal.invariant-loop-k
invariant-loop-k g l =
    first_from (λ j. not (record_before g.fields l.list ((j - 1) * l.width) (j * l.width))) l.k (length l.list / l.width - l.k)
    ≡ first_not_ascending g.fields l.width l.list
