-- Answers for the goals that the search leaves.
use Rattle.std.proofs.Common.{◌≤◌, get_or, arith}
use Rattle.lists.specs.Limits.{component_limit}
use Rattle.lists.proofs.EndLaws.{none, source_of, sink_of}
use Rattle.signals.proofs.edges.settle_slots.Goals as goal
use Rattle.signals.proofs.edges.settle_slots.Goals.{In-loop-k}

-- the sink of a turn is a member or the limit
sink_small : (c : In-loop-k) → (get_or c.args.ends.now c.loop-k.k none).sink ≤ component_limit
sink_small c = rw (sink_of c.args.ends.now c.loop-k.k) at (c.requires.by_index c.loop-k.k (omega (arith, c.loop-k-test.true)))

pub fed_port-requires : goal.fed_port-requires
fed_port-requires c =
    (omega (arith, c.loop-k-test.true), sink_small (goal.at.fed_port-requires c).In-loop-k)

pub returns : goal.returns
returns c =
    let ends = c.args.ends.now in
    let fed = c.loop-k.fed in
    record {
      slots = record { at = λ k h. rw (source_of fed k, sink_of ends k) (c.loop-k.invariant.1 k (omega (arith, c.loop-k-test.false))).0 };
      sources = λ k h. rw (sink_of fed k, source_of ends k) (c.loop-k.invariant.1 k (omega (arith, c.loop-k-test.false))).1;
    }
