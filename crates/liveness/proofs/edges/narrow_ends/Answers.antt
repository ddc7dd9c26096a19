-- Answers for the goals that the search leaves.
use Rattle.std.proofs.Common.{arith}
use Rattle.lists.proofs.EndLaws.{source_of, sink_of}
use Rattle.liveness.proofs.edges.narrow_ends.Goals as goal

pub overflow_cast-sources : goal.overflow_cast-sources
overflow_cast-sources c = let small = rw (source_of c.args.ends.now c.loop-k.k) at (c.requires.members c.loop-k.k (omega arith)).0 in omega arith

pub narrow_sink-requires-clause-sink_bound : goal.narrow_sink-requires-clause-sink_bound
narrow_sink-requires-clause-sink_bound c = rw (sink_of c.args.ends.now c.loop-k.k) at (c.requires.members c.loop-k.k (omega arith)).1
