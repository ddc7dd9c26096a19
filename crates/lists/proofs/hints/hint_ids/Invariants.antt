-- `lists::hints::hint_ids` meets its contract: it ends, and each slot lies within the hints.
-- Assumes nothing.
use mathlib.Core.Path.{◌≡◌}
use lib.ListN.{length}
use Rattle.lists.proofs.hints.hint_ids.Given as goal

abbrev pub invariant-loop-k : goal.invariant-loop-k
invariant-loop-k l = length l.hints ≡ length l.initial.hints
