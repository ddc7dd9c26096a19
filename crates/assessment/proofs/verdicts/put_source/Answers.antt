-- `assessment::verdicts::put_source` meets its contract. Assumes nothing.
use Rattle.assessment.proofs.verdicts.put_source.Goals as goal

pub returns : goal.returns
returns c = rw c.in-Some.is (rw c.from.ensures at c.put_row.ensures)
