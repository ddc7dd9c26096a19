-- Answers for the goals that the search leaves.
use mathlib.Core.Path.{sym, ◌∙◌}
use Rattle.held.specs.Tests.{same_numbers}
use Rattle.held.proofs.Loops.{among_here, among_later, among_done}
use Rattle.held.proofs.inspect.is_held.Goals as goal

pub returns-then-same_as : goal.returns-then-same_as
returns-then-same_as c =
    sym (among_here (same_numbers c.args.numbers.now) c.args.list.now c.args.n c.loop-k.k c.loop-k-test.true (sym c.same_as.ensures ∙ c.if-same_as.true))
    ∙ c.loop-k.invariant

pub loop-k-preserved : goal.loop-k-preserved
loop-k-preserved c =
    sym (among_later (same_numbers c.args.numbers.now) c.args.list.now c.args.n c.loop-k.k c.loop-k-test.true (sym c.same_as.ensures ∙ c.if-same_as.false))
    ∙ c.loop-k.invariant

pub returns : goal.returns
returns c = sym (among_done (same_numbers c.args.numbers.now) c.args.list.now c.args.n c.loop-k.k c.loop-k-test.false) ∙ c.loop-k.invariant
