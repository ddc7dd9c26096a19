-- `assessment::verdicts::put_sources` meets its contract: at component p the rows of those before it stand at the front.
-- Assumes nothing.
use Rattle.assessment.specs.Rows.{sources_below}
use Rattle.assessment.proofs.Devices.{RowsPut}
use Rattle.assessment.proofs.verdicts.put_sources.Given as goal

abbrev pub invariant-loop-p : goal.invariant-loop-p
invariant-loop-p l = RowsPut (sources_below l.components.numbers.now l.on_frontier l.inferred) 2 4 l.p-end l.initial.out l.out l.at l.p
