-- `circuit::ends::hint_ends` meets its contract: it ends, and each slot lies within the hints.
-- Assumes nothing.
use mathlib.Core.Path.{◌≡◌}
use lib.ListN.{length}
use Rattle.circuit.proofs.ends.hint_ends.Given as goal

abbrev pub invariant-loop-k : goal.invariant-loop-k
invariant-loop-k l = length l.hints ≡ length l.initial.hints
