-- `report::print::print_rows` meets its contract: the length of the whole says whether it fits.
-- Assumes nothing.
use Rattle.report.proofs.Fitting.{printed_none, printed_all}
use Rattle.report.proofs.print.print_rows.Goals as goal

pub returns-then-out-length : goal.returns-then-out-length
returns-then-out-length c ps fs ready = printed_none (c.put_whole-length.ensures ps fs ready) c.if-out-length.true

pub returns : goal.returns
returns c ps fs ready = printed_all (c.put_whole-length.ensures ps fs ready) c.if-out-length.false (c.put_whole.ensures ps fs ready)
