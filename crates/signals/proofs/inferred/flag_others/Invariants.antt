-- `signals::inferred::flag_others` meets its contract: the flags of the nodes passed are joined.
-- Assumes nothing.
use Rattle.std.proofs.Common.{not, ◌&&◌, get_or}
use lib.Dec.{eqb}
use Rattle.signals.proofs.Edged.{JoinedTo}
use Rattle.signals.proofs.inferred.flag_others.Given as goal

abbrev pub invariant-loop-neighbour : goal.invariant-loop-neighbour
invariant-loop-neighbour l =
    JoinedTo l.row l.labels (λ y. l.counts && not (eqb (get_or l.labels l.x 0) (get_or l.labels y 0))) l.neighbour-index l.initial.fed l.fed
