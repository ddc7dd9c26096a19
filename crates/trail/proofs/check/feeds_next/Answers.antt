-- Answers for the goals that the search leaves.
use mathlib.Core.Path.{sym, ◌∙◌}
use native.Mathlib.Omega.{arith}
use Rattle.lists.proofs.Some.{some_at, some_none}
use Rattle.lists.specs.Records.{port_count}
use Rattle.trail.specs.Port.{carries, feeds_next}
use Rattle.trail.proofs.check.feeds_next.Goals as goal

pub returns-then-carries_signal : goal.returns-then-carries_signal
unfolding feeds_next
returns-then-carries_signal c =
    let ps = c.args.ports.numbers.now in
    sym (some_at (carries ps c.args.a c.args.b) (port_count ps) c.loop-k.k (omega (arith, c.loop-k-test.true, c.count-k-end.ensures.0))
    (sym c.carries_signal.ensures ∙ c.if-carries_signal.true))

pub returns : goal.returns
unfolding feeds_next
returns c =
    let ps = c.args.ports.numbers.now in
    sym (some_none (carries ps c.args.a c.args.b) (port_count ps) (λ j h.
    c.loop-k.invariant j (omega (arith, c.loop-k-test.false, c.count-k-end.ensures.0))))
