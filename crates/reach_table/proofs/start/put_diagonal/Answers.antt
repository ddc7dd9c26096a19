-- Answers for the goals that the search leaves.
use native.Mathlib.Omega.{arith}
use Rattle.reach_table.proofs.Starting.{diagonal_more, diagonal_all}
use Rattle.reach_table.proofs.start.put_diagonal.Goals as goal

pub loop-a-preserved : goal.loop-a-preserved
loop-a-preserved c = diagonal_more c.loop-a-test.true c.loop-a.invariant

pub returns : goal.returns
returns c = diagonal_all (omega arith) c.loop-a.invariant
