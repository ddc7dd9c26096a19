-- `assessment::slots::put_rows` meets its contract: at component p the rows of those before it stand.
-- Assumes nothing.
use lib.ListN.{get_or}
use Rattle.assessment.specs.Rows.{rows_below}
use Rattle.assessment.specs.Places.{slot_of, status_at}
use Rattle.assessment.proofs.Devices.{RowsPut}
use Rattle.assessment.proofs.slots.put_rows.Given as goal

abbrev pub invariant-loop-p : goal.invariant-loop-p
invariant-loop-p l =
    RowsPut (rows_below l.rules l.components.numbers.now (λ q port. status_at l.slots (slot_of (get_or l.members q 0) port))) 3 12 l.p-end l.initial.out l.out l.at l.p
