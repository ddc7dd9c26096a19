-- `records::analyze_records` meets its contract: within the limit the entry is given the numbers of the records, over it a list that it refuses
-- in the same words.
-- Assumes nothing.
use mathlib.Core.Logic.{⊎_elim}
use native.Mathlib.Omega.{arith}
use mir.Facts.{to_z-of_z}
use Rattle.records.proofs.Filled.{length_flatten}
use Rattle.records.proofs.Limit.{analyzed_over}
use Rattle.records.proofs.analyze_records.Goals as goal

pub returns : goal.returns
returns c =
    let answered = rw (to_z-of_z c.ranges.rules) at c.analyze_signal_liveness.ensures in
    ⊎_elim
    (λ same. rw same at answered)
    (λ over. analyzed_over over.1 (omega (arith, over.0, length_flatten c.args.ports.now)) answered)
    c.stand_in-count.ensures.1
