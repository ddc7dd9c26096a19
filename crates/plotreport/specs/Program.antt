-- The program `plotreport` (document 01, "The sheet and the program"): "The program lends 65,536 bytes each for sheet and report; its limits
-- are 256 components, 1,024 connections and 256 frontiers. A longer sheet is refusal 1 under list 3, item 65,536, before all else."
--     program_checked     the stages
--     printed            what is printed for the bytes read, at most one more than a sheet may have: the report or the refusal
--     ProgramPrinted     what the sheet entry answers to them with these limits, and leaves in the buffer
-- Assumes nothing: these are definitions.
use Rattle.lists.specs.declared.Fault.{Fault}
use Rattle.std.specs.Prelude.{⊤, Option, Some, None, Result, Ok, Err}
use Rattle.lists.specs.declared.Refusal.{Refusal}
use Rattle.std.specs.Prelude.{ℕ, ◌*◌, ◌≡◌, cond, List, leb, length}
use Rattle.lists.specs.Limits.{component_width, connection_width, frontier_width}
use Rattle.checks.specs.Refusals.{refuse, ◌or_else◌}
use Rattle.lists.specs.Rules.{rules_limit}
use Rattle.forms.specs.Sheet.{Parsed, parse}
use Rattle.sheet.specs.Entry.{rules_of, components_of, connections_of, frontiers_of}
use Rattle.blocks.specs.Lines.{refusal_lines}
use Rattle.report.specs.Report.{kept_list, report_of}
use Rattle.report.specs.Demand.{RegionsPrinted}
use Rattle.sheet.specs.Written.{PrintedBy}
use Rattle.report.specs.Entry.{report_checked}

-- ---- the program's limits

abbrev pub sheet_bytes : ℕ
sheet_bytes = 65536

abbrev pub report_bytes : ℕ
report_bytes = 65536

abbrev pub components : ℕ
components = 256

abbrev pub connections : ℕ
connections = 1024

abbrev pub frontiers : ℕ
frontiers = 256

-- ---- its answer

abbrev pub too_long_sheet : List ℕ → Option ℕ
too_long_sheet text = cond (leb (length text) sheet_bytes) None (Some sheet_bytes)

abbrev pub parsed_by : List ℕ → Parsed
parsed_by text = parse rules_limit components connections frontiers text

-- its work lists have room for its limits
abbrev pub program_checked : List ℕ → ℕ → Result ⊤ Refusal
program_checked text room =
    refuse Fault.ListLength None (too_long_sheet text)
    or_else report_checked (parsed_by text) (components * component_width) (connections * connection_width) (frontiers * frontier_width) room

-- the report of the rules and lists that were read, where the stages accept
abbrev pub sheet_report : List ℕ → List ℕ
sheet_report text = let p = parsed_by text in report_of (rules_of p) (components_of p) (connections_of p) (frontiers_of p)

-- "A refusal prints `answer=`, `list=`, `item=`."
abbrev pub printed_by : Result ⊤ Refusal → List ℕ → List ℕ
printed_by (Ok tt) report = report
printed_by (Err r) report = refusal_lines r

abbrev pub printed : List ℕ → List ℕ
printed text = printed_by (program_checked text report_bytes) (sheet_report text)

-- demand 3 of the lists that were read, on the numbers that `out` begins with
abbrev pub RegionsOfSheet : List ℕ → List ℕ → Type 0
RegionsOfSheet text out =
    let p = parsed_by text in RegionsPrinted (components_of p) (kept_list (rules_of p) (components_of p) (connections_of p)) out

pub record ProgramPrinted (text out out' : List ℕ) (r : Result ℕ Refusal) : Type 0 where
  pub by : PrintedBy (program_checked text (length out)) (sheet_report text) out out' r
  pub demand : program_checked text (length out) ≡ Ok tt → RegionsOfSheet text out'
