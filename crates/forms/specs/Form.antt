-- The text of a list's records as data. A form says for each field of a record the bytes before its number and the byte that ends it. In the
-- old form of a sheet a field is a line, ("id=", LF), ("x=", LF), ..; in the short form a record is one, ("c=", ","), ("", ","), ..,
-- ("", LF). A line is ended by LF, so the line of a fault is how many fields before it end in LF.
--     write_fields, write_records    the text of numbers
--     read_fields, read_records      the numbers of a text, and the text that is left; or the line of the first fault
--     form_test                      what a form must pass; the theorems hold for each that does
-- Assumes nothing: these are definitions.
use Rattle.std.specs.Prelude.{ℕ, zero, suc, Bool, true, false, not, cond, ◌&&◌, List, [], ◌∷◌, ◌++◌, eqb, ℤ, length, drop}
use Rattle.lines.specs.Decimal.{InRange, number}
use Rattle.lines.specs.Line.{Taken, taken, refused, is_digit}
use Rattle.forms.specs.Numbers.{number_until, Ends}

pub record Field : Type 0 where
  pub prefix : List ℕ
  pub ending : ℕ

-- the fields of n records
unfoldable pub times : ℕ → List Field → List Field
times zero form = []
times (suc n) form = form ++ times n form

-- ---- writing

abbrev pub field_text : Field → ℤ → List ℕ
field_text f z = f.prefix ++ number z (f.ending ∷ [])

unfoldable pub write_fields : List Field → List ℤ → List ℕ
write_fields [] zs = []
write_fields (f ∷ fs) [] = []
write_fields (f ∷ fs) (z ∷ zs) = field_text f z ++ write_fields fs zs

-- n records
abbrev pub write_records : List Field → ℕ → List ℤ → List ℕ
write_records form n zs = write_fields (times n form) zs

-- ---- reading

-- a text begins with these bytes
unfoldable pub has_prefix : List ℕ → List ℕ → Bool
has_prefix [] s = true
has_prefix (k ∷ ks) [] = false
has_prefix (k ∷ ks) (b ∷ bs) = eqb b k && has_prefix ks bs

unfoldable pub read_field : Field → List ℕ → Taken ℤ
read_field f s = cond (has_prefix f.prefix s) (number_until f.ending (drop (length f.prefix) s)) refused

-- the numbers and the text that is left, or the line, from 0, that is not as it must be
pub data Fields : Type 0 where
  got : List ℤ → List ℕ → Fields
  stop : ℕ → Fields

-- a number that was read before
abbrev pub after : ℤ → Fields → Fields
after z (got zs s) = got (z ∷ zs) s
after z (stop k) = stop k

-- a field at a line was read, or not; f reads on
abbrev pub onward : ℕ → Taken ℤ → (List ℕ → Fields) → Fields
onward line (taken z s) f = after z (f s)
onward line refused f = stop line

-- the line after a field at a line
abbrev pub line_after : Field → ℕ → ℕ
line_after f line = cond (eqb f.ending 10) (suc line) line

-- from a line on
unfoldable pub read_fields : List Field → ℕ → List ℕ → Fields
read_fields [] line s = got [] s
read_fields (f ∷ fs) line s = onward line (read_field f s) (read_fields fs (line_after f line))

-- n records, the first of which is at a line
abbrev pub read_records : List Field → ℕ → ℕ → List ℕ → Fields
read_records form n line s = read_fields (times n form) line s

-- how many lines the fields take
unfoldable pub lines_of : List Field → ℕ
lines_of [] = 0
lines_of (f ∷ fs) = cond (eqb f.ending 10) (suc (lines_of fs)) (lines_of fs)

-- how many LF a text has
unfoldable pub feeds : List ℕ → ℕ
feeds [] = 0
feeds (b ∷ bs) = cond (eqb b 10) (suc (feeds bs)) (feeds bs)

-- every magnitude is at most 4,294,967,295
unfoldable pub AllInRange : List ℤ → Type 0
AllInRange [] = Unit
AllInRange (z ∷ zs) = InRange z × AllInRange zs

-- ---- the test

-- no byte is LF
unfoldable pub in_line : List ℕ → Bool
in_line [] = true
in_line (b ∷ bs) = not (eqb b 10) && in_line bs

-- the number of a field is ended by neither a digit nor minus, and the bytes before it stand on its line
unfoldable pub field_test : Field → Bool
field_test f = not (is_digit f.ending) && (not (eqb f.ending 45) && in_line f.prefix)

-- every field passes, and the last one ends its line
unfoldable pub form_test : List Field → Bool
form_test [] = false
form_test (f ∷ []) = field_test f && eqb f.ending 10
form_test (f ∷ g ∷ fs) = field_test f && form_test (g ∷ fs)

-- every number of a form ends
unfoldable pub AllEnd : List Field → Type 0
AllEnd [] = Unit
AllEnd (f ∷ fs) = Ends f.ending × AllEnd fs
