-- Answers for the goals that the search leaves.
use mathlib.Core.Path.{refl}
use Rattle.reach_table.proofs.Classes.{count_none, count_yes, count_no, count_done}
use Rattle.reach_table.proofs.number.number_all.Goals as goal

pub loop-a-init : goal.loop-a-init
loop-a-init c =
    rw (c.into_iter-a-iterator.ensures.into_iter_gives, c.rev-a-items.ensures.source, c.iter.ensures.rest)
    (count_none c.args.square.now c.args.numbered.now c.args.regions.now c.requires.order c.requires.numbered refl (c.fill.ensures.after (λ y e. e)) (c.fill-2.ensures.after (λ y e. e)))

pub loop-a-preserved-then-not-numbered-row : goal.loop-a-preserved-then-not-numbered-row
loop-a-preserved-then-not-numbered-row c =
    let call = c.number_class in
    count_yes _ c.from-row.result c.loop-a.invariant c.from-row.ensures c.in-Some.ensures.steps c.if-not-numbered-row.true call.auto.numbered call.auto.regions call.ensures

pub loop-a-preserved : goal.loop-a-preserved
loop-a-preserved c = count_no _ c.from-row.result c.loop-a.invariant c.from-row.ensures c.in-Some.ensures.steps c.if-not-numbered-row.false

pub returns : goal.returns
returns c = count_done c.in-None.ensures.steps.0 c.loop-a.invariant
