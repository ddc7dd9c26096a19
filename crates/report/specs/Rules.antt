-- What of a report depends on the rules number (document 02, R-4: "What isn't about lamps is proved for all rule numbers together").
--     LampsAlone     the report of a sheet of no lamp is the same under rules 1 and 2
-- The theorem is `lamps_alone` of proofs/RulesLaws.antt. No contract rests on it.
-- Assumes nothing: this is a statement.
use Rattle.std.specs.Prelude.{◌≡◌, List, ℤ}
use Rattle.assessment.specs.RulesLaws.{NoLamp}
use Rattle.report.specs.Report.{report_of}

abbrev pub LampsAlone : Type 0
LampsAlone = (cs ps fs : List ℤ) → NoLamp cs → report_of 1 cs ps fs ≡ report_of 2 cs ps fs
