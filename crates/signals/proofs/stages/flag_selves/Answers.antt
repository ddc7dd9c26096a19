-- Answers for the goals that the search leaves.
use Rattle.std.proofs.Common.{◌<◌, length, ap, ◌∙◌, arith, rules}
use Rattle.tables.specs.Order.{member}
use Rattle.regions.specs.Graph.{at}
use Rattle.graph.specs.Rows.{edges_of}
use Rattle.signals.proofs.Marks.{by_none, by_more}
use Rattle.signals.proofs.stages.flag_selves.Goals as goal

pub loop-x-init : goal.loop-x-init
loop-x-init c = rw (c.fill.ensures.after (λ y h. search rules)) (by_none _ _ (length c.args.flags.now))

pub loop-x-preserved : goal.loop-x-preserved
loop-x-preserved c =
    let lt : c.loop-x.x < length c.args.graph.ends.now = omega (arith, c.requires.nodes) in
    by_more (at c.args.labels.now) (λ a. edges_of c.args.graph.ends.now c.args.graph.next.now a a) c.loop-x.x c.loop-x.invariant _ _ c.from.ensures
    (c.holds.ensures ∙ ap (member c.loop-x.x) c.row.ensures ∙ c.args.graph.rows.rows.holds c.loop-x.x lt c.loop-x.x)
    (omega (arith, c.from.ensures, c.requires.indices.below c.loop-x.x c.loop-x-test.true, c.loop-x.auto.flags))
