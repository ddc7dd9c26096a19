-- Answers for the goals that the search leaves.
-- Assumes nothing.
use mathlib.Core.Path.{refl}
use mathlib.Core.List.{List, []}
use Prim.Native.Nat.{ℕ}
use Rattle.faces.specs.Ports.{unread}
use Rattle.lists.specs.Records.{component}
use Rattle.assessment.proofs.Devices.{below_none, below_more}
use Rattle.report.specs.Report.{all_rows, unread_row}
use Rattle.report.proofs.RowText.{id_few}
use Rattle.report.proofs.unread.fill_unread.Goals as goal

pub loop-p-init : goal.loop-p-init
unfolding all_rows
loop-p-init c = below_none _ (λ p. []) 1 1 _ _ refl

pub loop-p-preserved : goal.loop-p-preserved
unfolding all_rows
loop-p-preserved c =
    let a = c.args in
    let cs = a.components.numbers.now in
    let c_at = component cs c.loop-p.p in
    let row : ℕ → List ℕ = λ p. unread_row a.rules (component cs p) in
    below_more _ row 1 1 _ _ (λ k. refl) c.loop-p-test.true c.loop-p.invariant (id_few (unread a.rules c_at) c_at.id) c.put_id-at.ensures
    c.put_id-at.auto.rows
