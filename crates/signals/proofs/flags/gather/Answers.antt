-- Answers for the goals that the search leaves.
use Rattle.std.proofs.Common.{false, length, length-append, rules, ◌∙◌}
use Rattle.std.proofs.lemmas.Slice.Zip.{zip_turn}
use Rattle.signals.proofs.Marks.{gathered_none, gathered_more}
use Rattle.signals.proofs.flags.gather.Goals as goal

pub loop-j-init : goal.loop-j-init
loop-j-init c = rw (c.fill.ensures.after (λ y h. search rules)) (gathered_none c.args.index.now c.args.tests.now (length c.args.out.now))

pub loop-j-preserved : goal.loop-j-preserved
loop-j-preserved c =
    let (here, _, i, v) = zip_turn c.args.index.now c.args.tests.now c.loop-j.yielded _ _ c.next.new.self _ (cc) (cc) c.loop-j.yielded_by _ c.in-Some.is c.next.ensures.steps in
    rw length-append (gathered_more _ _ _ c.loop-j.invariant _ _ (c.from.ensures ∙ i 0) (v false) (search rules))
