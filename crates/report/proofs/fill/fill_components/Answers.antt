-- Answers for the goals that the search leaves.
use mathlib.Core.Path.{refl, ◌∙◌}
use mathlib.Core.List.{List, []}
use Prim.Native.Nat.{ℕ}
use native.Mathlib.Omega.{arith}
use Rattle.assessment.proofs.Devices.{below_none, below_more}
use Rattle.report.specs.Report.{all_rows}
use Rattle.report.specs.Printing.{component_row_by}
use Rattle.report.proofs.RowText.{row_read, flag_read}
use Rattle.report.proofs.fill.fill_components.Goals as goal

pub loop-p-init : goal.loop-p-init
unfolding all_rows
loop-p-init c = below_none _ (λ p. []) 6 6 _ _ refl

pub loop-p-preserved : goal.loop-p-preserved
unfolding all_rows
loop-p-preserved c =
    let a = c.args in
    let cs = a.components.numbers.now in
    let row : ℕ → List ℕ = component_row_by cs a.nets.now a.fragments.now a.regions.now a.drive.words a.potential.words in
    let id = c.id-id.ensures.0 in
    let m = c.from-m.ensures ∙ c.requires.members.at c.loop-p.p (omega arith) in
    below_more _ row 6 6 _ _ (λ k. refl) c.loop-p-test.true c.loop-p.invariant (record { turns = 1; whole = refl; few = omega arith })
    (row_read id
    (flag_read c.args.drive.words c.from-driven.ensures c.contains.ensures m)
    (flag_read c.args.potential.words c.from-potent.ensures c.contains-in-loop-p.ensures m)
    c.put_row-at.ensures)
    c.put_row-at.auto.out
