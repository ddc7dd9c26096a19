-- Sheets of the old form, evaluated with the limits of the program: a line that is faulty or missing, and a count over its limit.
-- Assumes nothing.
use Prim.Native.Nat.{ℕ}
use Prim.Native.String.{String, ◌++◌}
use mathlib.Core.Path.{◌≡◌, refl}
use mathlib.Core.List.{[], ◌∷◌}
use lib.IntN.{pos, negsuc}
use Rattle.lines.specs.Text.{ascii}
use Rattle.lines.specs.Line.{has_key, read_line, read_number, read_magnitude, read_digits, read_end}
use Rattle.lists.specs.Limits.{component_limit}
use Rattle.lists.specs.declared.Section.{Section}
use Rattle.forms.specs.Numbers.{digits_until, zero_until, magnitude_until, number_until}
use Rattle.forms.specs.Form.{times, has_prefix, read_field, read_fields, lines_of}
use Rattle.forms.specs.declared.Style.TheVariants.{Old}
use Rattle.forms.specs.Sheet.{Parsed, Sheet, Faulty, bad_line, over_limit, read_head, read_list, parse_lists, parse}

-- all that a sheet is read by
computed : ℕ
unfolding parse read_head read_list parse_lists read_fields times read_field has_prefix number_until magnitude_until digits_until zero_until has_key read_line read_number read_magnitude read_digits read_end lines_of
computed = 0

abbrev read : String → Parsed
read text = parse 3 256 1024 256 (ascii text)

abbrev lever : String
lever = "id=1\nx=0\ny=0\nz=0\nkind=4\nfacing=0\nsupport=0\nconducts=0\n"

abbrev repeater : String
repeater = "id=2\nx=1\ny=0\nz=0\nkind=1\nfacing=2\nsupport=0\nconducts=0\n"

abbrev components : String
components = "components=2\n" ++ lever ++ repeater

abbrev connections : String
connections = "connections=1\nsource=1\nsink=2\nkind=5\n"

-- a position left of the origin
frontier : read "components=0\nconnections=0\nfrontiers=1\nx=-30\ny=64\nz=30000001\n" ≡ Sheet Old 1 [] [] (negsuc 29 ∷ pos 64 ∷ pos 30000001 ∷ [])
unfolding computed
frontier = refl

-- ---- 9 at its line

-- the last of 22 lines has no LF
no_last_end : read (components ++ connections ++ "frontiers=0") ≡ Faulty (bad_line 21)
unfolding computed
no_last_end = refl

missing_last : read (components ++ connections) ≡ Faulty (bad_line 21)
unfolding computed
missing_last = refl

-- `z=` of the lever is left out, so the wrong key stands at its place
missing_inside : read ("components=1\nid=1\nx=0\ny=0\nkind=4\nfacing=0\nsupport=0\nconducts=0\n" ++ connections ++ "frontiers=0\n") ≡ Faulty (bad_line 4)
unfolding computed
missing_inside = refl

-- a count with no LF is no count
count_unended : read "components=257" ≡ Faulty (bad_line 0)
unfolding computed
count_unended = refl

count_too_large : read "components=4294967296\n" ≡ Faulty (bad_line 0)
unfolding computed
count_too_large = refl

-- a line before it is faulty, and first
fault_before : read "components=1\nid=01\n" ≡ Faulty (bad_line 1)
unfolding computed
fault_before = refl

-- ---- 1 at its list, whatever follows

count_over : read "components=257\n" ≡ Faulty (over_limit Section.Components 256)
unfolding computed
count_over = refl

connections_over : read (components ++ "connections=1025\n") ≡ Faulty (over_limit Section.Connections 1024)
unfolding computed
connections_over = refl

-- limits above those of a scene are cut
cut : parse 3 4294967295 65536 65536 (ascii "components=4294967295\n") ≡ Faulty (over_limit Section.Components component_limit)
unfolding computed
cut = refl
