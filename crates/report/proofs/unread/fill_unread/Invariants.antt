-- `report::unread::fill_unread` meets its contract: before component p the ids of those before it stand at the front.
-- Assumes nothing.
use Rattle.assessment.proofs.Devices.{RowsPut}
use Rattle.report.specs.Report.{unread_ids}
use Rattle.report.proofs.unread.fill_unread.Given as goal

abbrev pub invariant-loop-p : goal.invariant-loop-p
invariant-loop-p l = RowsPut (unread_ids l.rules l.components.numbers.now) 1 1 l.p-end l.initial.rows l.rows l.at l.p
