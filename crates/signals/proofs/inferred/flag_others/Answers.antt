-- Answers for the goals that the search leaves.
use Rattle.std.proofs.Common.{not, ◌&&◌, get_or, ap, ◌∙◌, arith}
use lib.Dec.{eqb}
use Rattle.signals.proofs.Edged.{joined_none, joined_more, joined_all}
use Rattle.signals.proofs.inferred.flag_others.Goals as goal

pub loop-neighbour-init : goal.loop-neighbour-init
loop-neighbour-init c = joined_none _ _ _ _

pub loop-neighbour-preserved : goal.loop-neighbour-preserved
loop-neighbour-preserved c =
    let a = c.args in
    let labels = a.labels.now in
    let at = c.loop-neighbour.neighbour-index in
    let low = c.requires.inside.1.below at c.loop-neighbour-test.true in
    let small = c.requires.indices.below c.from.result (omega (arith, c.from.ensures)) in
    joined_more _ _ _ c.loop-neighbour.invariant _ _
    (c.from-in-loop-neighbour.ensures ∙ ap (λ i. get_or labels i 0) c.from.ensures)
    (ap (λ i. a.counts && not (eqb (get_or labels a.x 0) (get_or labels i 0))) c.from.ensures)
    (omega (arith, c.from-in-loop-neighbour.ensures, c.loop-neighbour.auto.fed))

pub returns : goal.returns
returns c = joined_all _ _ _ (omega arith) c.loop-neighbour.invariant
