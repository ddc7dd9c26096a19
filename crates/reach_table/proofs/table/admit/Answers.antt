-- Answers for the goals that the search leaves.
use native.Mathlib.Omega.{arith}
use Rattle.reach_table.proofs.Comparing.{copied}
use Rattle.reach_table.proofs.Filling.{admit_all, admit_yes, admit_no, middles_more}
use Rattle.reach_table.proofs.table.admit.Goals as goal
use Rattle.reach_table.proofs.table.admit.Goals.{then-square-a-eq1, else-square-a-eq1}

pub loop-a-preserved : goal.loop-a-preserved
loop-a-preserved c =
    elim c.if-square-a-eq1.branch [
      | then-square-a-eq1 w ↦ rw w.square-is
          (admit_yes c.requires.1 c.loop-a-test.true c.loop-a.invariant (omega (arith, c.requires.0.long)) w.if-square-a-eq1.true (omega arith)
          (copied c.args.square.now c.requires.0.long c.args.m c.requires.1 _ _ c.copy_from_slice.ensures.after) w.join_row.auto.row w.join_row.ensures)
      | else-square-a-eq1 w ↦ rw w.square-is (admit_no c.requires.1 c.loop-a-test.true c.loop-a.invariant w.if-square-a-eq1.false)
    ]

pub returns-clause-makes : goal.returns-clause-makes
returns-clause-makes c = admit_all (omega arith) c.loop-a.invariant

pub returns-clause-middles : goal.returns-clause-middles
returns-clause-middles c edge h = middles_more (admit_all (omega arith) c.loop-a.invariant) edge h
