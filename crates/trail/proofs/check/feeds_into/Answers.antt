-- Answers for the goals that the search leaves.
use Prim.Native.Nat.{ℕ}
use mathlib.Core.Path.{sym, ◌∙◌}
use mathlib.Core.Bool.{Bool, ◌&&◌}
use native.Mathlib.Omega.{arith}
use borrow.Author.Tests.{eq-eqb}
use lib.Dec.{eqb}
use Rattle.lists.specs.Records.{port_connection, port_count}
use Rattle.lists.proofs.Some.{some_at, some_none, and_true}
use Rattle.trail.specs.Port.{carries, feeds_into}
use Rattle.trail.proofs.check.feeds_into.Goals as goal

pub returns-then-sink_port-port : goal.returns-then-sink_port-port
unfolding feeds_into
returns-then-sink_port-port c =
    let ps = c.args.ports.numbers.now in
    let test : ℕ → Bool = λ k. carries ps c.args.a c.args.id k && eqb (port_connection ps k).sink_port_of c.args.port in
    sym (some_at test (port_count ps) c.loop-k.k (omega (arith, c.loop-k-test.true, c.count-k-end.ensures.0))
    (and_true _ _ (sym c.carries_signal.ensures ∙ c.if-carries_signal.true) (eq-eqb _ c.args.port (sym c.sink_port.ensures.0 ∙ c.if-sink_port-port.true))))

pub returns : goal.returns
unfolding feeds_into
returns c =
    let ps = c.args.ports.numbers.now in
    let test : ℕ → Bool = λ k. carries ps c.args.a c.args.id k && eqb (port_connection ps k).sink_port_of c.args.port in
    sym (some_none test (port_count ps) (λ j h. c.loop-k.invariant j (omega (arith, c.loop-k-test.false, c.count-k-end.ensures.0))))
