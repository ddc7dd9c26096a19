-- A valid sheet in the short form, within the program's counts, is never too long for the program: refusal 1 under list 3 comes before all
-- else, and yet never meets such a sheet. "Valid means that no line and no list check refuses it" (document 02, R-6).
-- A record has at most 52 bytes for a component, 26 for a connection and 32 for a frontier; the head and the counts have at most 62.
-- Assumes nothing: these are definitions.
use Rattle.std.specs.Prelude.{ℕ, ◌≤◌, ◌≡◌, List, ℤ, length, Ok, None}
use Rattle.checks.specs.Refusals.{sheet_refusal}
use Rattle.forms.specs.Sheet.{Sheet}
use Rattle.forms.specs.declared.Style.TheVariants.{Short}
use Rattle.plotreport.specs.Program.{parsed_by, too_long_sheet}

-- 256 * 52 + 1,024 * 26 + 256 * 32 + 62
abbrev pub longest_short_sheet : ℕ
longest_short_sheet = 48190

pub record ShortFits : Type 0 where
  pub bytes : (text : List ℕ) (rules : ℕ) (cs ps fs : List ℤ) → parsed_by text ≡ Sheet Short rules cs ps fs
      → sheet_refusal rules cs ps fs ≡ Ok tt → length text ≤ longest_short_sheet
  pub never_too_long : (text : List ℕ) (rules : ℕ) (cs ps fs : List ℤ) → parsed_by text ≡ Sheet Short rules cs ps fs
      → sheet_refusal rules cs ps fs ≡ Ok tt → too_long_sheet text ≡ None
