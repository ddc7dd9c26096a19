-- What an entry that reads a sheet and writes a text into a lent buffer answers, and what it leaves in the buffer and in the work lists
-- (document 01, "The sheet and the program": "last 2 for a buffer shorter than this report. A sheet refused by a list check or by that last 2
-- leaves its work lists all zero").
--     fits                      the last 2
--     answer_by, numbers_of     the answer, and its numbers
--     PrintedBy                 the answer, and the buffer
--     list_by                   a work list
-- Assumes nothing: these are definitions.
use Rattle.lists.specs.declared.Fault.{Fault}
use Rattle.std.specs.Prelude.{None}
use Rattle.std.specs.Prelude.{⊤, Result, Ok, Err}
use Rattle.lists.specs.declared.Refusal.{Refusal}
use Rattle.std.specs.Prelude.{ℕ, ◌≡◌, List, [], ◌∷◌, leb, length, replicate, ℤ, pos}
use Rattle.checks.specs.Refusals.{refuse, too_short, refusal_numbers, numbers_by}
use Rattle.lists.specs.Slices.{left_of}

-- 2: a buffer of so many bytes is shorter than the text
abbrev pub fits : List ℕ → ℕ → Result ⊤ Refusal
fits text room = refuse Fault.ShortSlice None (too_short (leb (length text) room))

-- how many bytes were written, or the refusal
abbrev pub answer_by : Result ⊤ Refusal → List ℕ → Result ℕ Refusal
answer_by (Ok tt) text = Ok (length text)
answer_by (Err r) text = Err r

-- the paper's numbers of each case: 0 and how many bytes, or those of the refusal
abbrev pub numbers_of : Result ℕ Refusal → List ℕ
numbers_of (Ok count) = 0 ∷ count ∷ []
numbers_of (Err r) = refusal_numbers r

-- a text printed into a buffer
pub record PrintedBy (checks : Result ⊤ Refusal) (text old new : List ℕ) (r : Result ℕ Refusal) : Type 0 where
  pub answer : r ≡ answer_by checks text
  pub numbers : numbers_of r ≡ numbers_by checks (length text ∷ [])
  pub left : new ≡ left_of checks text old

-- a work list: all zero once the sheet was read into it, or what it held
abbrev pub list_by : Result ⊤ Refusal → List ℤ → List ℤ
list_by (Ok tt) old = replicate (length old) (pos 0)
list_by (Err r) old = old
