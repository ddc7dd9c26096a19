-- The laws of a join (document 02, R-9), of sheets that are joined.
--     Says      what the joined sheet says of the two
--     Joins     the statements
-- The theorem is `joins` of proofs/Joins.antt. No contract rests on it.
-- Assumes nothing: these are statements.
use Rattle.std.specs.Prelude.{ℕ, ◌≡◌, List, [], ◌++◌, ℤ, Ok}
use Rattle.forms.specs.Sheet.{Sheet}
use Rattle.forms.specs.Writing.{sheet_text}
use Rattle.forms.specs.declared.Style.{Style}
use Rattle.forms.specs.declared.Style.TheVariants.{Old}
use Rattle.joining.specs.Plot.{Plot, plot_of, Valid, JoinOf, joined}
use Rattle.joining.specs.Shares.{Kept}
use Rattle.join.specs.Entry.{parsed_by, joined_text, join_checked}

-- a text says the rules and the lists of a plot
abbrev pub SaysPlot : List ℕ → Style → ℕ → Plot → Type 0
SaysPlot text style rules p = parsed_by text ≡ Sheet style rules p.components p.connections p.frontiers

-- two valid sheets of the same rules, and the joined one, of the old form: it is valid, and its lists are the union of theirs
pub record Says (first second text : List ℕ) : Type 0 where
  pub rules : ℕ
  pub one : Plot
  pub one_style : Style
  pub from_first : SaysPlot first one_style rules one
  pub first_valid : Valid rules one
  pub two : Plot
  pub two_style : Style
  pub from_second : SaysPlot second two_style rules two
  pub second_valid : Valid rules two
  pub to : SaysPlot text Old rules (joined one two)
  pub valid : Valid rules (joined one two)
  pub is : JoinOf one two (joined one two)
  -- "Components that shared a net or fragment in either half share one in the whole"
  pub first_kept : Kept one (joined one two)
  pub second_kept : Kept two (joined one two)

pub record Joins : Type 0 where
  -- of every accepted call
  pub says : (first second : List ℕ) (components connections frontiers room : ℕ)
      → join_checked (parsed_by first) (parsed_by second) components connections frontiers room ≡ Ok tt
      → Says first second (joined_text (parsed_by first) (parsed_by second))
  -- a valid sheet with itself is the sheet in the old form, its frontiers twice
  pub self : (text : List ℕ) (style : Style) (rules : ℕ) (cs ps fs : List ℤ) → SaysPlot text style rules (plot_of cs ps fs) → Valid rules (plot_of cs ps fs)
      → joined_text (parsed_by text) (parsed_by text) ≡ sheet_text Old rules cs ps (fs ++ fs)
  -- with the empty plot, on either side, it is the sheet in the old form
  pub none : (text empty : List ℕ) (style other : Style) (rules : ℕ) (cs ps fs : List ℤ) → SaysPlot text style rules (plot_of cs ps fs) → Valid rules (plot_of cs ps fs)
      → SaysPlot empty other rules (plot_of [] [] [])
      → (joined_text (parsed_by text) (parsed_by empty) ≡ sheet_text Old rules cs ps fs) × (joined_text (parsed_by empty) (parsed_by text) ≡ sheet_text Old rules cs ps fs)
