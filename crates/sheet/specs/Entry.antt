-- What reading a sheet answers and leaves (document 01, "The sheet and the program": "Then come 2 for the work lists"; after the table of
-- refusals: "A sheet also needs work lists of the lengths it counts", a refusal "changes no slice").
-- Assumes nothing: these are definitions.
use Rattle.lists.specs.declared.Fault.{Fault}
use Rattle.std.specs.Prelude.{None}
use Rattle.std.specs.Prelude.{⊤}
use Rattle.std.specs.Prelude.{ℕ, ◌≡◌, Bool, ◌&&◌, List, [], ◌∷◌, ℤ, Result, Ok, Err, length}
use Rattle.lists.specs.Limits.{component_width, connection_width, frontier_width}
use Rattle.lists.specs.Records.{component_count, connection_count, frontier_count}
use Rattle.checks.specs.Refusals.{refuse, too_short, room_for, refusal_numbers, numbers_by}
use Rattle.lists.specs.Slices.{left_of}
use Rattle.lists.specs.declared.Refusal.{Refusal}
use Rattle.forms.specs.Sheet.{Parsed, Sheet, Faulty}
use Rattle.forms.specs.declared.Style.{Style}
use Rattle.forms.specs.declared.Style.TheVariants.{Old}
use Rattle.forms.specs.declared.Counts.{Counts}
use Rattle.sheet.specs.declared.Sheet as code

-- ---- what a sheet says; a faulty one says no lists, and no rules line means 1

abbrev pub style_of : Parsed → Style
style_of (Sheet style rules cs ps fs) = style
style_of (Faulty r) = Old

abbrev pub rules_of : Parsed → ℕ
rules_of (Sheet style rules cs ps fs) = rules
rules_of (Faulty r) = 1

abbrev pub components_of : Parsed → List ℤ
components_of (Sheet style rules cs ps fs) = cs
components_of (Faulty r) = []

abbrev pub connections_of : Parsed → List ℤ
connections_of (Sheet style rules cs ps fs) = ps
connections_of (Faulty r) = []

abbrev pub frontiers_of : Parsed → List ℤ
frontiers_of (Sheet style rules cs ps fs) = fs
frontiers_of (Faulty r) = []

-- ---- the entry, given how many numbers each work list has

-- each has room for the records of its list
abbrev pub enough_room : List ℤ → List ℤ → List ℤ → ℕ → ℕ → ℕ → Bool
enough_room cs ps fs components connections frontiers =
    room_for (component_count cs) component_width components
    && (room_for (connection_count ps) connection_width connections && room_for (frontier_count fs) frontier_width frontiers)

-- 9, 1, 11 or 12, and then 2
abbrev pub sheet_checked : Parsed → ℕ → ℕ → ℕ → Result ⊤ Refusal
sheet_checked (Sheet style rules cs ps fs) components connections frontiers =
    refuse Fault.ShortSlice None (too_short (enough_room cs ps fs components connections frontiers))
sheet_checked (Faulty r) components connections frontiers = Err r

-- how many records each list has
abbrev pub counts_of : Parsed → Counts
counts_of p = record {
  components = component_count (components_of p);
  connections = connection_count (connections_of p);
  frontiers = frontier_count (frontiers_of p);
}

-- its form, its rules and its counts
abbrev pub sheet_of : Parsed → code.Sheet
sheet_of p = record { style = style_of p; rules = rules_of p; counts = counts_of p }

abbrev pub reading_of : Result ⊤ Refusal → code.Sheet → Result code.Sheet Refusal
reading_of (Ok tt) sheet = Ok sheet
reading_of (Err r) sheet = Err r

-- the paper's numbers of each case: 0 and how many records each list has, or those of the refusal
abbrev pub numbers_of : Result code.Sheet Refusal → List ℕ
numbers_of (Ok sheet) = 0 ∷ sheet.counts.components ∷ sheet.counts.connections ∷ sheet.counts.frontiers ∷ []
numbers_of (Err r) = refusal_numbers r

-- from a parsed text and three lent work lists
pub record SheetRead (p : Parsed) (components components' connections connections' frontiers frontiers' : List ℤ) (r : Result code.Sheet Refusal) : Type 0 where
  pub answer : r ≡ reading_of (sheet_checked p (length components) (length connections) (length frontiers)) (sheet_of p)
  pub numbers : numbers_of r ≡ numbers_by (sheet_checked p (length components) (length connections) (length frontiers))
      (component_count (components_of p) ∷ connection_count (connections_of p) ∷ frontier_count (frontiers_of p) ∷ [])
  pub components_left : components' ≡ left_of (sheet_checked p (length components) (length connections) (length frontiers)) (components_of p) components
  pub connections_left : connections' ≡ left_of (sheet_checked p (length components) (length connections) (length frontiers)) (connections_of p) connections
  pub frontiers_left : frontiers' ≡ left_of (sheet_checked p (length components) (length connections) (length frontiers)) (frontiers_of p) frontiers
