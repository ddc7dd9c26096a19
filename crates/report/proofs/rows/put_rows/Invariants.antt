-- `report::rows::put_rows` meets its contract: before a row, its lines and those of the rows after it are still to be written.
-- Assumes nothing.
use mathlib.Core.List.{List}
use Prim.Native.Nat.{◌*◌}
use lib.IntN.{ℤ}
use Rattle.inputs.specs.Inputs.{Ready}
use Rattle.blocks.proofs.Printing.{Going}
use Rattle.report.specs.Printing.{asked_text, inputs_text}
use Rattle.report.proofs.VerdictText.{lines_from}
use Rattle.report.proofs.rows.put_rows.Given as goal

-- of every scene that the tables are of
abbrev pub invariant-loop-device : goal.invariant-loop-device
invariant-loop-device l =
    let a = l.asked in
    (ps fs : List ℤ) → Ready a.rules a.components.now ps fs a.fed.now a.labels.now a.upstream.now
    → Going (inputs_text a.rules a.components.now ps fs l.fn.rows) l.fn.at l.fn.out
    (lines_from (asked_text a.rules a.components.now ps fs) l.fn.rows (3 * l.device-index)) l.out l.p
