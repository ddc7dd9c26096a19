-- Answers for the goals that the search leaves.
use mathlib.Core.Path.{refl, ◌∙◌}
use native.Mathlib.Omega.{arith}
use Rattle.records.specs.Records.{flatten}
use Rattle.records.proofs.Filled.{one_more}
use Rattle.records.proofs.copy_records.Goals as goal

pub loop-i-init : goal.loop-i-init
unfolding flatten
loop-i-init c = refl

pub loop-i-preserved : goal.loop-i-preserved
loop-i-preserved c =
    one_more c.args.records.now c.args.flat.now _ _ c.loop-i.i (omega arith) c.loop-i.invariant (c.copy_from_slice.ensures.after ∙ c.numbers.ensures)
