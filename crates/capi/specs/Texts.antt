-- Sheets for a host that calls through the C convention (document 02, R-6), by the definitions of `read_sheet`, `report` and `convert_sheet`, with
-- the library's limits.
--     head_checked, lists_checked     the stages of `dustroute_sheet`: 9, 1, 11, 12 and 2; 3 to 6
--     list_checked, list_left         a work list, by what these say
--     ValidRead                       a sheet that was read and whose lists were checked
--     SheetByText                     what `dustroute_sheet` answers and leaves
--     text_number                     an answer that counts bytes, as one number
--     ReportByText, ConvertByText     what `dustroute_report` and `dustroute_convert` answer and leave
-- Assumes nothing: these are definitions.
use Rattle.lists.specs.declared.Fault.{Fault}
use Rattle.std.specs.Prelude.{⊤, Result, Ok, Err, None}
use Rattle.std.specs.Prelude.{ℕ, ◌+◌, ◌*◌, ◌≡◌, ◌&&◌, List, [], ◌∷◌, ◌++◌, length, take, drop, replicate, ℤ, pos}
use Rattle.lists.specs.declared.Refusal.{Refusal}
use Rattle.lists.specs.Limits.{component_limit, connection_limit, frontier_limit}
use Rattle.lists.specs.Records.{component_count, connection_count, frontier_count}
use Rattle.lists.specs.Slices.{laid, left_of}
use Rattle.checks.specs.Refusals.{refuse, too_short, ◌or_else◌, room_for, sheet_refusal, item_limit, packed}
use Rattle.forms.specs.declared.Counts.{Counts}
use Rattle.forms.specs.declared.Style.{Style}
use Rattle.forms.specs.declared.Style.TheVariants.{Old, Short}
use Rattle.forms.specs.Sheet.{Parsed, Sheet, Faulty}
use Rattle.sheet.specs.Entry.{enough_room, rules_of, components_of, connections_of, frontiers_of, sheet_of, reading_of}
use Rattle.sheet.specs.declared.Sheet as code
use Rattle.report.specs.Entry.{Reported}
use Rattle.convert.specs.Entry.{parsed_by, SheetConverted}

-- the library's limits
abbrev pub limits : Counts
limits = record { components = component_limit; connections = connection_limit; frontiers = frontier_limit }

-- ---- the lists of a sheet

-- the number of a form
abbrev pub form_number : Style → ℕ
form_number Old = 1
form_number Short = 2

-- the form and the rules; of a faulty sheet none
abbrev pub head_of : Parsed → List ℕ
head_of (Sheet style rules cs ps fs) = form_number style ∷ rules ∷ []
head_of (Faulty r) = []

-- 9, 1, 11 or 12, and then 2, for the work lists and for the head's two numbers
abbrev pub head_checked : Parsed → ℕ → ℕ → ℕ → ℕ → Result ⊤ Refusal
head_checked (Sheet style rules cs ps fs) components connections frontiers head =
    refuse Fault.ShortSlice None (too_short (enough_room cs ps fs components connections frontiers && room_for 1 2 head))
head_checked (Faulty r) components connections frontiers head = Err r

-- 3 to 6, by the sheet's own rules
abbrev pub lists_checked : Parsed → Result ⊤ Refusal
lists_checked p = sheet_refusal (rules_of p) (components_of p) (connections_of p) (frontiers_of p)

-- a list that was read: at the front of its work list, which is all zero where the lists are refused
abbrev pub list_checked : Result ⊤ Refusal → List ℤ → List ℤ → List ℤ
list_checked (Ok tt) list old = laid list old
list_checked (Err r) list old = replicate (length old) (pos 0)

-- a work list: what it held where the sheet was not read
abbrev pub list_left : Result ⊤ Refusal → Result ⊤ Refusal → List ℤ → List ℤ → List ℤ
list_left (Ok tt) lists list old = list_checked lists list old
list_left (Err r) lists list old = old

-- by what the text and the lengths say, from a parsed text and three lent work lists
pub record ValidRead (checks : Result ⊤ Refusal) (p : Parsed) (components components' connections connections' frontiers frontiers' : List ℤ)
    (r : Result code.Sheet Refusal) : Type 0 where
  pub answer : r ≡ reading_of (checks or_else lists_checked p) (sheet_of p)
  pub components_left : components' ≡ list_left checks (lists_checked p) (components_of p) components
  pub connections_left : connections' ≡ list_left checks (lists_checked p) (connections_of p) connections
  pub frontiers_left : frontiers' ≡ list_left checks (lists_checked p) (frontiers_of p) frontiers

-- a refusal's number, list and item, or 0 in the sixteen lowest bits and then the counts of the three lists, sixteen bits each
abbrev pub sheet_number : Result ⊤ Refusal → ℕ → ℕ → ℕ → ℕ
sheet_number (Ok tt) components connections frontiers = 65536 * components + 4294967296 * connections + 281474976710656 * frontiers
sheet_number (Err refusal) components connections frontiers = packed (Err refusal)

-- by what the text and the lengths say, from a parsed text and four lent slices
pub record SheetBy (checks : Result ⊤ Refusal) (p : Parsed) (components components' connections connections' frontiers frontiers' : List ℤ)
    (head head' : List ℕ) (r : ℕ) : Type 0 where
  pub answer : r ≡ sheet_number (checks or_else lists_checked p)
      (component_count (components_of p)) (connection_count (connections_of p)) (frontier_count (frontiers_of p))
  pub components_left : components' ≡ list_left checks (lists_checked p) (components_of p) components
  pub connections_left : connections' ≡ list_left checks (lists_checked p) (connections_of p) connections
  pub frontiers_left : frontiers' ≡ list_left checks (lists_checked p) (frontiers_of p) frontiers
  pub head_left : head' ≡ left_of (checks or_else lists_checked p) (head_of p) head

abbrev pub SheetByText : List ℕ → List ℤ → List ℤ → List ℤ → List ℤ → List ℤ → List ℤ → List ℕ → List ℕ → ℕ → Type 0
SheetByText text components components' connections connections' frontiers frontiers' head head' r =
    SheetBy (head_checked (parsed_by text) (length components) (length connections) (length frontiers) (length head)) (parsed_by text)
    components components' connections connections' frontiers frontiers' head head' r

-- ---- texts made of a sheet

-- how many bytes were written, above the sixteen lowest bits
abbrev pub text_number : Result ℕ Refusal → ℕ
text_number (Ok count) = 65536 * count
text_number (Err refusal) = packed (Err refusal)

-- a buffer counts for no more bytes than an answer can tell; what lies past them stays as it was
pub record ReportByText (text : List ℕ) (components components' connections connections' frontiers frontiers' : List ℤ) (out out' : List ℕ) (r : ℕ) : Type 0 where
  pub found : Result ℕ Refusal
  pub front : List ℕ
  pub reported : Reported (parsed_by text) components components' connections connections' frontiers frontiers' (take item_limit out) front found
  pub answer : r ≡ text_number found
  pub left : out' ≡ front ++ drop item_limit out

pub record ConvertByText (text : List ℕ) (components components' connections connections' frontiers frontiers' : List ℤ) (out out' : List ℕ) (r : ℕ) : Type 0 where
  pub found : Result ℕ Refusal
  pub front : List ℕ
  pub converted : SheetConverted text components components' connections connections' frontiers frontiers' (take item_limit out) front found
  pub answer : r ≡ text_number found
  pub left : out' ≡ front ++ drop item_limit out
