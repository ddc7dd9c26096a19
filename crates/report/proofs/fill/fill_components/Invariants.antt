-- `report::fill::fill_components` meets its contract: before component p the rows of those before it stand at the front.
-- Assumes nothing.
use Rattle.assessment.proofs.Devices.{RowsPut}
use Rattle.report.specs.Report.{all_rows}
use Rattle.report.specs.Printing.{component_row_by}
use Rattle.report.proofs.fill.fill_components.Given as goal

abbrev pub invariant-loop-p : goal.invariant-loop-p
invariant-loop-p l =
    RowsPut (all_rows (component_row_by l.components.numbers.now l.nets l.fragments l.regions l.drive.words l.potential.words)) 6 6 l.p-end l.initial.rows l.rows l.at l.p
