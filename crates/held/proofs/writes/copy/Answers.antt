-- Answers for the goals that the search leaves.
use native.Mathlib.Omega.{arith}
use lib.Seq.{ext_get_or}
use lib.IntN.{pos}
use Rattle.held.proofs.writes.copy.Goals as goal

pub returns : goal.returns
returns c = ext_get_or (pos 0) _ _ (omega arith) (λ j h. c.loop-k.invariant j (omega arith))
