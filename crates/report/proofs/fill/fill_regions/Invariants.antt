-- `report::fill::fill_regions` meets its contract: before region r the rows of those before it stand at the front.
-- Assumes nothing.
use Rattle.assessment.proofs.Devices.{RowsPut}
use Rattle.report.specs.Report.{all_rows}
use Rattle.report.specs.Printing.{region_row_by}
use Rattle.report.proofs.fill.fill_regions.Given as goal

abbrev pub invariant-loop-r : goal.invariant-loop-r
invariant-loop-r l = RowsPut (all_rows (region_row_by l.cyclic.words l.has_drive.words)) 2 2 l.count l.initial.rows l.rows l.at l.r
