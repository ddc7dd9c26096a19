-- Answers for the goals that the search leaves.
use mathlib.Core.Path.{◌∙◌}
use native.Mathlib.Nat.{add-zero}
use native.Mathlib.Omega.{arith}
use Rattle.lists.proofs.EndLaws.{source_of, sink_of, sources_length, sinks_length}
use Rattle.lists.proofs.ends.settle_ends.Goals as goal

pub returns : goal.returns
returns c cs t =
    let ends = c.loop-k.ends in
    record {
      source_members = record { at = λ k h. rw add-zero (source_of ends k ∙ (c.loop-k.invariant.1 cs t k (omega (arith, c.loop-k-test.false))).0) };
      sink_members = record { at = λ k h. sink_of ends k ∙ (c.loop-k.invariant.1 cs t k (omega (arith, c.loop-k-test.false))).1 };
      sources_long = omega (arith, sources_length ends, c.loop-k.invariant.0, c.requires);
      sinks_long = omega (arith, sinks_length ends, c.loop-k.invariant.0, c.requires);
    }
