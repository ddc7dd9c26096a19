-- Answers for the goals that the search leaves.
use native.Mathlib.Numerals.{add-one}
use native.Mathlib.Omega.{arith}
use lib.ListN.{get_or}
use Rattle.lists.specs.First.{tabulate}
use Rattle.assessment.proofs.Written.{one_put, put_nothing, put_more}
use Rattle.liveness.proofs.steps.put_regions.Goals as goal

pub loop-p-init : goal.loop-p-init
unfolding tabulate
loop-p-init c = put_nothing _ 0

pub loop-p-preserved : goal.loop-p-preserved
unfolding tabulate
loop-p-preserved c =
    let l = c.loop-p in
    rw (add-one l.p, c.from.ensures) (put_more (omega arith) l.invariant
    (rw (add-one l.p) at (one_put (get_or c.args.region_at.now l.p 0) l.regions l.p (omega (arith, l.auto.regions, c.requires)))))
