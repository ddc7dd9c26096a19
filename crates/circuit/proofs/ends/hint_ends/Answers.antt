-- Answers for the goals that the search leaves.
use lib.ListN.{length-set}
use Rattle.circuit.proofs.ends.hint_ends.Goals as goal

pub loop-k-preserved : goal.loop-k-preserved
loop-k-preserved c = simp length-set c.loop-k.invariant

pub returns : goal.returns
returns c = c.loop-k.invariant
