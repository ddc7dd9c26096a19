-- `liveness::steps::put_regions` meets its contract: at place p the numbers of the places before it stand at the front.
-- Assumes nothing.
use lib.ListN.{get_or}
use Rattle.lists.specs.First.{tabulate}
use Rattle.assessment.specs.Rows.{Put}
use Rattle.liveness.proofs.steps.put_regions.Given as goal

abbrev pub invariant-loop-p : goal.invariant-loop-p
invariant-loop-p l = Put (tabulate (λ q. get_or l.region_at q 0) l.p) 0 l.initial.regions l.regions l.p
