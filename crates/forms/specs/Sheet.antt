-- What a sheet of either form says: its form, its rules number and its three lists, or the refusal of its first faulty line.
--     read_head      the lines before the lists: `sheet=2` and `rules=` of the short form, an optional `rules=` of the old one
--     read_list      the line of a list's count, and its records
--     parse          head and lists one after the other, and nothing behind them
-- "A negative count is 9, and a missing or extra line is 9 at its place. A count over its limit is refusal 1 with that list's number and the
-- limit as item; 9 or 1 comes by whichever line is first, before all else" (document 01); so do 11, a rules number that is not known,
-- and 12, a form number other than 2, under no list with the line as item.
-- Assumes nothing: these are definitions.
use Rattle.std.specs.Prelude.{ℕ, suc, ◌+◌, ◌*◌, min, Bool, cond, ◌&&◌, List, [], ◌∷◌, eqb, leb, ℤ, pos, negsuc, Some, None}
use Rattle.lines.specs.Text.{ascii}
use Rattle.lines.specs.Line.{Taken, taken, refused, has_key, read_line, natural}
use Rattle.lists.specs.Limits.{component_limit, connection_limit, frontier_limit}
use Rattle.lists.specs.declared.Fault.{Fault}
use Rattle.lists.specs.declared.Refusal.{Refusal}
use Rattle.lists.specs.declared.Section.{Section}
use Rattle.lists.specs.declared.Section.TheVariants.{Components, Connections, Frontiers}
use Rattle.forms.specs.Form.{Fields, got, stop, lines_of, read_records}
use Rattle.forms.specs.declared.Style.{Style}
use Rattle.forms.specs.declared.Style.TheVariants.{Old, Short}
use Rattle.forms.specs.Tables.{form_of, count_key}

-- ---- refusals

-- 9 at a line of the sheet
abbrev pub bad_line : ℕ → Refusal
bad_line line = record { fault = Fault.BadLine; list = None; item = line }

-- 1: a count over its limit
abbrev pub over_limit : Section → ℕ → Refusal
over_limit list limit = record { fault = Fault.ListLength; list = Some list; item = limit }

-- 11: a rules number that is not known, at a line
abbrev pub strange_rules : ℕ → Refusal
strange_rules line = record { fault = Fault.UnknownRules; list = None; item = line }

-- 12: a form number other than 2, at a line
abbrev pub strange_form : ℕ → Refusal
strange_form line = record { fault = Fault.UnknownForm; list = None; item = line }

-- ---- the head

-- the form, the rules, the text that is left and the number of its first line; or the refusal
pub data Head : Type 0 where
  head : Style → ℕ → List ℕ → ℕ → Head
  no_head : Refusal → Head

-- from 1 to `most`
abbrev pub known : ℕ → ℕ → Bool
known most n = leb 1 n && leb n most

-- a rules line at a line of the sheet was read, or not. `most` is the largest rules number that is known
abbrev pub ruled : Style → ℕ → ℕ → Taken ℤ → Head
ruled style most line (taken (pos n) s) = cond (known most n) (head style n s (suc line)) (no_head (strange_rules line))
ruled style most line (taken (negsuc n) s) = no_head (strange_rules line)
ruled style most line refused = no_head (bad_line line)

-- the line `sheet=` was read, or not
abbrev pub numbered : ℕ → Taken ℤ → Head
numbered most (taken (pos n) s) = cond (eqb n 2) (ruled Short most 1 (read_line (ascii "rules") s)) (no_head (strange_form 0))
numbered most (taken (negsuc n) s) = no_head (strange_form 0)
numbered most refused = no_head (bad_line 0)

-- told apart by the first line; no rules line means 1
unfoldable pub read_head : ℕ → List ℕ → Head
read_head most s =
    cond (has_key (ascii "sheet") s)
    (numbered most (read_line (ascii "sheet") s))
    (cond (has_key (ascii "rules") s) (ruled Old most 0 (read_line (ascii "rules") s)) (head Old 1 s 0))

-- ---- a list

-- the numbers of a list, the text that is left, and the number of its first line; or the refusal
pub data Part : Type 0 where
  part : List ℤ → List ℕ → ℕ → Part
  fault : Refusal → Part

-- the records, whose lines end before a line of the sheet
abbrev pub records_to : ℕ → Fields → Part
records_to next (got zs s) = part zs s next
records_to next (stop line) = fault (bad_line line)

-- the list of a count that was read, or not, at a line of the sheet
abbrev pub counted : Style → Section → ℕ → ℕ → Taken ℕ → Part
counted style list limit line (taken n s) =
    cond (leb n limit)
    (records_to (line + 1 + n * lines_of (form_of style list)) (read_records (form_of style list) n (line + 1) s))
    (fault (over_limit list limit))
counted style list limit line refused = fault (bad_line line)

unfoldable pub read_list : Style → Section → ℕ → ℕ → List ℕ → Part
read_list style list limit line s = counted style list limit line (natural (read_line (count_key list) s))

-- ---- the sheet

-- its form, its rules, and its components, eight numbers each; connections, three; frontiers, three
pub data Parsed : Type 0 where
  Sheet : Style → ℕ → List ℤ → List ℤ → List ℤ → Parsed
  Faulty : Refusal → Parsed

infixr 20 ◌then◌
abbrev pub ◌then◌ : Part → (List ℤ → List ℕ → ℕ → Parsed) → Parsed
part zs s line then f = f zs s line
fault r then f = Faulty r

-- nothing stands behind the last list
abbrev pub ended : Style → ℕ → List ℤ → List ℤ → List ℤ → List ℕ → ℕ → Parsed
ended style rules cs ps fs [] line = Sheet style rules cs ps fs
ended style rules cs ps fs (b ∷ s) line = Faulty (bad_line line)

-- the three lists of a form at a line of the sheet. The caller's limits are cut to those of a scene
unfoldable pub parse_lists : ℕ → ℕ → ℕ → Style → ℕ → List ℕ → ℕ → Parsed
parse_lists components connections frontiers style rules s line =
    read_list style Components (min components component_limit) line s
    then λ cs s₁ line₁. read_list style Connections (min connections connection_limit) line₁ s₁
    then λ ps s₂ line₂. read_list style Frontiers (min frontiers frontier_limit) line₂ s₂
    then λ fs s₃ line₃. ended style rules cs ps fs s₃ line₃

abbrev pub headed : ℕ → ℕ → ℕ → Head → Parsed
headed components connections frontiers (head style rules s line) = parse_lists components connections frontiers style rules s line
headed components connections frontiers (no_head r) = Faulty r

-- `most` is the largest rules number that is known
unfoldable pub parse : ℕ → ℕ → ℕ → ℕ → List ℕ → Parsed
parse most components connections frontiers s = headed components connections frontiers (read_head most s)
