-- `signals::inferred::see_row` meets its contract: the neighbours passed so far are seen.
-- Assumes nothing.
use Rattle.std.proofs.Common.{Bool, ℕ, length}
use Rattle.signals.specs.Seen.{SeenOf}
use Rattle.signals.proofs.Neighbours.{passed}
use Rattle.signals.proofs.inferred.see_row.Given as goal

abbrev pub invariant-loop-neighbour : goal.invariant-loop-neighbour
invariant-loop-neighbour l =
    (test : ℕ → Bool) → SeenOf (length l.labels) test l.initial.found → SeenOf (length l.labels) (passed l.row l.labels l.m l.neighbour-index test) l.found
