-- The sheet entry `report` (document 01, "The sheet and the program"): what it answers, and what it leaves in the work lists and in the
-- buffer. "Then come 2 for the work lists, the list checks, and last 2 for a buffer shorter than this report. A sheet refused by a list check
-- or by that last 2 leaves its work lists all zero."
--     lists_checked, report_checked         the stages: 3 to 6 and the last 2; 9, 1, 11, 12 and the first 2 before these
--     Reported                              from a parsed text to the answer and every slice
-- Assumes nothing: these are definitions.
use Rattle.std.specs.Prelude.{⊤, Result, Ok}
use Rattle.lists.specs.declared.Refusal.{Refusal}
use Rattle.std.specs.Prelude.{ℕ, ◌≡◌, List, length, ℤ}
use Rattle.checks.specs.Refusals.{sheet_refusal, ◌or_else◌}
use Rattle.forms.specs.Sheet.{Parsed}
use Rattle.sheet.specs.Entry.{rules_of, components_of, connections_of, frontiers_of, sheet_checked}
use Rattle.sheet.specs.Written.{fits, PrintedBy, list_by}
use Rattle.report.specs.Report.{kept_list, report_of}
use Rattle.report.specs.Demand.{RegionsPrinted}

-- ---- the stages

abbrev pub lists_checked : ℕ → List ℤ → List ℤ → List ℤ → ℕ → Result ⊤ Refusal
lists_checked rules cs ps fs room = sheet_refusal rules cs ps fs or_else fits (report_of rules cs ps fs) room

-- given how many numbers each work list has, and how many bytes the buffer
abbrev pub report_checked : Parsed → ℕ → ℕ → ℕ → ℕ → Result ⊤ Refusal
report_checked p components connections frontiers room =
    sheet_checked p components connections frontiers or_else lists_checked (rules_of p) (components_of p) (connections_of p) (frontiers_of p) room

-- ---- the entry, from a parsed text, three lent work lists and the buffer

pub record Reported (p : Parsed) (components components' connections connections' frontiers frontiers' : List ℤ) (out out' : List ℕ) (r : Result ℕ Refusal) : Type 0 where
  pub printed : PrintedBy (report_checked p (length components) (length connections) (length frontiers) (length out))
      (report_of (rules_of p) (components_of p) (connections_of p) (frontiers_of p)) out out' r
  -- demand 3, on the numbers printed
  pub demand : report_checked p (length components) (length connections) (length frontiers) (length out) ≡ Ok tt
      → RegionsPrinted (components_of p) (kept_list (rules_of p) (components_of p) (connections_of p)) out'
  pub components_left : components' ≡ list_by (sheet_checked p (length components) (length connections) (length frontiers)) components
  pub connections_left : connections' ≡ list_by (sheet_checked p (length components) (length connections) (length frontiers)) connections
  pub frontiers_left : frontiers' ≡ list_by (sheet_checked p (length components) (length connections) (length frontiers)) frontiers
