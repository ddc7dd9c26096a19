-- Answers for the goals that the search leaves.
use Rattle.std.proofs.Common.{length, arith}
use borrow.Author.Tests.{eq-eqb, ne_eqb}
use Rattle.signals.proofs.Neighbours.{passed, row_none, row_near, row_other, row_all}
use Rattle.signals.proofs.inferred.see_row.Goals as goal
use Rattle.signals.proofs.inferred.see_row.Goals.{then-labels-j, else-labels-j}

pub loop-neighbour-init : goal.loop-neighbour-init
loop-neighbour-init c test = row_none c.args.row.now c.args.labels.now c.args.m test c.args.seen

pub loop-neighbour-preserved : goal.loop-neighbour-preserved
loop-neighbour-preserved c test seen =
    let l = c.loop-neighbour in
    let row = c.args.row.now in
    let labels = c.args.labels.now in
    let at = l.neighbour-index in
    let inside = c.loop-neighbour-test.true in
    let is = c.from-j.ensures in
    elim c.if-labels-j.branch [
      | then-labels-j w ↦ rw w.found-is
          (row_near row labels c.args.m at inside (eq-eqb _ _ (rw is at w.if-labels-j.true)) test w.see-found.result
          (rw is at (w.see-found.ensures (length labels) (passed row labels c.args.m at test)) (c.requires.1.below at inside) (l.invariant test seen)))
      | else-labels-j w ↦ rw w.found-is
          (row_other row labels c.args.m at inside (ne_eqb _ _ (rw is at w.if-labels-j.false)) test l.found (l.invariant test seen))
    ]

pub returns : goal.returns
returns c test seen =
    let l = c.loop-neighbour in
    row_all c.args.row.now c.args.labels.now c.args.m l.neighbour-index (omega arith) test l.found (l.invariant test seen)
