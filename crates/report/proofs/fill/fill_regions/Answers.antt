-- Answers for the goals that the search leaves.
use mathlib.Core.Path.{refl}
use mathlib.Core.List.{List, []}
use Prim.Native.Nat.{ℕ}
use native.Mathlib.Omega.{arith}
use Rattle.assessment.proofs.Devices.{below_none, below_more}
use Rattle.report.specs.Report.{all_rows}
use Rattle.report.specs.Printing.{region_row_by}
use Rattle.report.proofs.RowText.{pair_read, flag_read}
use Rattle.report.proofs.fill.fill_regions.Goals as goal

pub loop-r-init : goal.loop-r-init
unfolding all_rows
loop-r-init c = below_none _ (λ p. []) 2 2 _ _ refl

pub loop-r-preserved : goal.loop-r-preserved
unfolding all_rows
loop-r-preserved c =
    let row : ℕ → List ℕ = region_row_by c.args.cyclic.words c.args.has_drive.words in
    below_more _ row 2 2 _ _ (λ k. refl) c.loop-r-test.true c.loop-r.invariant (record { turns = 1; whole = refl; few = omega arith })
    (pair_read (flag_read c.args.cyclic.words c.from-first.ensures c.contains.ensures refl)
    (flag_read c.args.has_drive.words c.from-second.ensures c.contains-in-loop-r.ensures refl)
    c.put_row-at.ensures)
    c.put_row-at.auto.out
