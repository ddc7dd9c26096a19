-- The writing of a sheet in a form: the bytes that say a rules number and three lists. Theorems: what `parse` accepts is the writing of what
-- it gives (`parse_unique`; but an old sheet may spell out `rules=1`), and the writing of everything within the limits is accepted and gives
-- it back (`parse_write`).
-- Assumes nothing: these are definitions.
use Rattle.std.specs.Prelude.{ℕ, ◌/◌, ◌%◌, ◌≤◌, min, ◌≡◌, cond, List, [], ◌++◌, eqb, ℤ, pos, length}
use Rattle.lines.specs.Text.{ascii}
use Rattle.lines.specs.Decimal.{line_of}
use Rattle.lists.specs.Limits.{component_limit, connection_limit, frontier_limit}
use Rattle.lists.specs.declared.Section.{Section}
use Rattle.lists.specs.declared.Section.TheVariants.{Components, Connections, Frontiers}
use Rattle.forms.specs.Form.{write_records, AllInRange}
use Rattle.forms.specs.declared.Style.{Style}
use Rattle.forms.specs.declared.Style.TheVariants.{Old, Short}
use Rattle.forms.specs.Tables.{form_of, count_key}

-- the line of the rules number
abbrev pub rules_line : ℕ → List ℕ
rules_line rules = line_of (ascii "rules") (pos rules)

-- `rules=1` is left out of an old sheet
unfoldable pub head_text : Style → ℕ → List ℕ
head_text Old rules = cond (eqb rules 1) [] (rules_line rules)
head_text Short rules = line_of (ascii "sheet") (pos 2) ++ rules_line rules

-- how many records a list has
abbrev pub count_of : Style → Section → List ℤ → ℕ
count_of style list zs = length zs / length (form_of style list)

-- the count and the records of a list
abbrev pub list_text : Style → Section → List ℤ → List ℕ
list_text style list zs = line_of (count_key list) (pos (count_of style list zs)) ++ write_records (form_of style list) (count_of style list zs) zs

unfoldable pub lists_text : Style → List ℤ → List ℤ → List ℤ → List ℕ
lists_text style cs ps fs = list_text style Components cs ++ (list_text style Connections ps ++ list_text style Frontiers fs)

abbrev pub sheet_text : Style → ℕ → List ℤ → List ℤ → List ℤ → List ℕ
sheet_text style rules cs ps fs = head_text style rules ++ lists_text style cs ps fs

-- ---- what can be written

-- whole records, no more than the limit, in range
pub record Writable (style : Style) (list : Section) (limit : ℕ) (zs : List ℤ) : Type 0 where
  pub whole : length zs % length (form_of style list) ≡ 0
  pub few : length zs / length (form_of style list) ≤ limit
  pub small : AllInRange zs

pub record WithinLimits (components connections frontiers : ℕ) (style : Style) (cs ps fs : List ℤ) : Type 0 where
  pub of_components : Writable style Components (min components component_limit) cs
  pub of_connections : Writable style Connections (min connections connection_limit) ps
  pub of_frontiers : Writable style Frontiers (min frontiers frontier_limit) fs

-- a rules number that is known
pub record Known (most rules : ℕ) : Type 0 where
  pub least : 1 ≤ rules
  pub largest : rules ≤ most
