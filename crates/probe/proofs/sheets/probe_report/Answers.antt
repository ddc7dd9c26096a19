-- `probe::sheets::probe_report` meets its contract: the entry's answer, packed.
-- Assumes nothing.

use Rattle.probe.proofs.sheets.probe_report.Goals as goal

pub returns : goal.returns
returns c =
    record { answer = c.report-printed.result; reported = c.report-printed.ensures; packed = c.pack_printed.ensures }
