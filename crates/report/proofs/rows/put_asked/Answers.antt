-- `report::rows::put_asked` meets its contract: the sets that were asked for are those of the row's lines.
-- Assumes nothing.
use mathlib.Core.Path.{subst}
use mathlib.Core.List.{List}
use Prim.Native.Nat.{ℕ}
use Rattle.blocks.specs.Printed.{Printed}
use Rattle.report.proofs.VerdictText.{asked_text_lem}
use Rattle.report.proofs.rows.put_asked.Goals as goal

pub returns : goal.returns
returns c ps fs ready =
    let put = c.put_input in
    let a = c.args in
    let row = a.row in
    let same =
    asked_text_lem row.device row.port row.status a.asked.now.table ready.fed_scene.scene.distinct (c.sources-found.ensures ps fs ready) in
    subst (λ (t : List ℕ). Printed a.at t a.out.now put.new.out put.result) same put.ensures
