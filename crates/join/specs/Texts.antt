-- What the inner functions say: of the records of a merge, and of a second sheet behind the lists of the first. No sentence of a joined
-- sheet rests on these.
-- Assumes nothing: these are definitions.
use Rattle.std.specs.Prelude.{⊤, Result, ℕ, ◌/◌, List, length, ℤ}
use Rattle.forms.specs.Form.{Field, write_records}
use Rattle.forms.specs.Sheet.{Parsed}
use Rattle.sheet.specs.Entry.{rules_of}
use Rattle.joining.specs.Merge.{merged}
use Rattle.joining.specs.Plot.{Plot, refusal_of}
use Rattle.join.specs.Entry.{plot_said, first_checked, both_checked, in_sheet, ◌or_next◌}
use Rattle.join.specs.declared.JoinRefusal.{JoinRefusal}

-- the records of a merge, each of so many numbers
abbrev pub merged_text : List Field → ℕ → List ℕ → List ℤ → List ℤ → List ℕ
merged_text form width fields a b = write_records form (length (merged fields width a b) / width) (merged fields width a b)

-- the lists of two sheets: 3 to 6 of the second, and what is asked of both
abbrev pub lists_joined : ℕ → Plot → ℕ → Plot → ℕ → Result ⊤ JoinRefusal
lists_joined rules p other q room = in_sheet 2 (refusal_of other q) or_next in_sheet 0 (both_checked rules p other q room)

-- the lists of the first sheet, and a text behind them: 3 to 6 of the first, all of the second, and what is asked of both
abbrev pub behind_joined : ℕ → Plot → Parsed → ℕ → ℕ → ℕ → ℕ → Result ⊤ JoinRefusal
behind_joined rules p q components connections frontiers room =
    in_sheet 1 (refusal_of rules p)
    or_next in_sheet 2 (first_checked q components connections frontiers)
    or_next in_sheet 0 (both_checked rules p (rules_of q) (plot_said q) room)
