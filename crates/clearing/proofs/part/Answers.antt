-- Answers for the goals that the search leaves.
use mathlib.Core.Path.{sym, ◌∙◌}
use native.Mathlib.Omega.{arith}
use Rattle.clearing.proofs.Writes.{one_kept, one_dropped, all_parted}
use Rattle.clearing.proofs.part.Goals as goal
use Rattle.clearing.proofs.part.Goals.{in-None, in-Some}

pub loop-k-preserved : goal.loop-k-preserved
loop-k-preserved c =
    elim c.match-fate_of.branch [
      | in-None w ↦
          rw (w.kept_end-is, w.dropped_end-is, w.dropped-is)
          (one_kept c.loop-k.invariant (omega (arith, c.loop-k-test.true, c.count-k-end.ensures.0)) (λ cs t. sym w.in-None.is ∙ c.fate_of.ensures cs t)
          (omega arith) (omega arith) (omega arith) w.copy_from_slice.ensures.after w.kept-is)
      | in-Some w ↦
          rw (w.kept_end-is, w.dropped_end-is, w.kept-is, w.dropped-is)
          (one_dropped c.loop-k.invariant (λ cs t. sym w.in-Some.is ∙ c.fate_of.ensures cs t) w.put_row-dropped_end.auto.out
          (rw w.from.ensures at w.put_row-dropped_end.ensures))
    ]

pub returns : goal.returns
returns c = all_parted c.loop-k.invariant (omega arith)
