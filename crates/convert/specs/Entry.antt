-- The converter's entry (document 02, R-6): what it answers, and what it leaves in the work lists and in the buffer. "Valid means that no line
-- and no list check refuses it; a result longer than its buffer is refused last, with 2."
--     parsed_by, converted     what the text says, by the library's limits; the text in the other form, or the refusal
--     convert_checked          the stages: 9, 1, 11, 12 and the first 2; 3 to 6; the last 2
--     SheetConverted           from the text to the answer and every slice
-- Assumes nothing: these are definitions.
use Rattle.std.specs.Prelude.{⊤, Result, Ok, Err}
use Rattle.std.specs.Prelude.{ℕ, ◌≡◌, List, [], length, ℤ}
use Rattle.lists.specs.Limits.{component_limit, connection_limit, frontier_limit}
use Rattle.lists.specs.Rules.{rules_limit}
use Rattle.lists.specs.declared.Refusal.{Refusal}
use Rattle.checks.specs.Refusals.{sheet_refusal, ◌or_else◌}
use Rattle.forms.specs.Sheet.{Parsed, parse}
use Rattle.forms.specs.Converter.{Converted, convert}
use Rattle.sheet.specs.Entry.{sheet_checked}
use Rattle.sheet.specs.Written.{fits, PrintedBy, list_by}

abbrev pub parsed_by : List ℕ → Parsed
parsed_by text = parse rules_limit component_limit connection_limit frontier_limit text

abbrev pub converted : List ℕ → Converted
converted text = convert rules_limit component_limit connection_limit frontier_limit sheet_refusal text

-- of a refused one no text
abbrev pub text_of : Converted → List ℕ
text_of (Ok text) = text
text_of (Err r) = []

-- a buffer of so many bytes is shorter than the text, if there is one
abbrev pub converted_fits : Converted → ℕ → Result ⊤ Refusal
converted_fits (Ok text) room = fits text room
converted_fits (Err r) room = Err r

-- given how many numbers each work list has, and how many bytes the buffer
abbrev pub convert_checked : List ℕ → ℕ → ℕ → ℕ → ℕ → Result ⊤ Refusal
convert_checked text components connections frontiers room =
    sheet_checked (parsed_by text) components connections frontiers or_else converted_fits (converted text) room

-- from the text, three lent work lists and the buffer
pub record SheetConverted (text : List ℕ) (components components' connections connections' frontiers frontiers' : List ℤ) (out out' : List ℕ) (r : Result ℕ Refusal) : Type 0 where
  pub written : PrintedBy (convert_checked text (length components) (length connections) (length frontiers) (length out)) (text_of (converted text)) out out' r
  pub components_left : components' ≡ list_by (sheet_checked (parsed_by text) (length components) (length connections) (length frontiers)) components
  pub connections_left : connections' ≡ list_by (sheet_checked (parsed_by text) (length components) (length connections) (length frontiers)) connections
  pub frontiers_left : frontiers' ≡ list_by (sheet_checked (parsed_by text) (length components) (length connections) (length frontiers)) frontiers
