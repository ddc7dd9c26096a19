-- Answers for the goals that the search leaves.
use Rattle.std.proofs.Common.{◌∙◌, arith}
use Rattle.lists.specs.Ends.{sources_of, sinks_of}
use Rattle.lists.proofs.EndLaws.{source_of, sink_of}
use Rattle.signals.proofs.Tabulated.{listed_keys}
use Rattle.signals.proofs.edges.list_keys.Goals as goal

pub signal_key-requires-clause-first_bound : goal.signal_key-requires-clause-first_bound
signal_key-requires-clause-first_bound c =
    let s = c.requires.0 in
    let k = c.loop-k.k in
    (rw (source_of c.args.ends.now k) at (s.first k (omega arith)), (rw (sink_of c.args.ends.now k) at (s.second k (omega arith)), s.nowhere_small))

pub returns : goal.returns
returns c =
    let ends = c.args.ends.now in
    listed_keys c.args.ports.numbers.now (sources_of ends) (sinks_of ends) c.args.nowhere (c.loop-k.auto.keys ∙ c.requires.1)
    (λ k h. rw (source_of ends k, sink_of ends k) (c.loop-k.invariant k (omega arith)))
