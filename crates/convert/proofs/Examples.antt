-- The converter, evaluated: the plot of document 01 ("The sheet and the program") there and back, and sheets that are not valid.
-- Assumes nothing.
use Prim.Native.Nat.{ℕ}
use Prim.Native.String.{String}
use mathlib.Core.Path.{◌≡◌, refl}
use mathlib.Core.List.{List, [], ◌∷◌, ◌++◌}
use Rattle.std.specs.Prelude.{Ok, Err, Option, Some, None}
use Rattle.lines.specs.Text.{ascii}
use Rattle.lines.specs.Decimal.{digits_then}
use Rattle.lines.specs.Line.{has_key, read_line, read_number, read_magnitude, read_digits, read_end}
use Rattle.lists.specs.First.{first_from, all_from, tabulate}
use Rattle.lists.specs.Ranges.{record_in_range, first_out_of_range}
use Rattle.lists.specs.Order.{record_before, first_not_ascending}
use Rattle.lists.specs.Ids.{place_below, first_repeated}
use Rattle.lists.specs.declared.Fault.{Fault}
use Rattle.lists.specs.declared.Section.{Section}
use Rattle.checks.specs.Refusals.{not_whole, scene_lists, grouping_lists}
use Rattle.forms.specs.Numbers.{digits_until, zero_until, magnitude_until, number_until}
use Rattle.forms.specs.Form.{times, write_fields, has_prefix, read_field, read_fields, lines_of}
use Rattle.forms.specs.Sheet.{read_head, read_list, parse_lists, parse}
use Rattle.forms.specs.Writing.{head_text, lists_text}
use Rattle.forms.specs.Converter.{Converted}
use Rattle.convert.specs.Entry.{converted, convert_checked}

-- lines, each ended by LF
abbrev sheet : List String → List ℕ
sheet [] = []
sheet (l ∷ ls) = ascii l ++ 10 ∷ sheet ls

-- all that a sheet is read, checked and written by
computed : ℕ
unfolding parse read_head read_list parse_lists read_fields times read_field has_prefix number_until magnitude_until digits_until zero_until has_key read_line read_number read_magnitude read_digits read_end lines_of head_text lists_text write_fields digits_then first_from all_from tabulate record_in_range first_out_of_range record_before first_not_ascending place_below first_repeated not_whole scene_lists grouping_lists
computed = 0

abbrev refused : Fault → Option Section → ℕ → Converted
refused fault list item = Err (record { fault = fault; list = list; item = item })

abbrev old_plot : List String
old_plot =
    "components=2" ∷ "id=1" ∷ "x=0" ∷ "y=0" ∷ "z=0" ∷ "kind=4" ∷ "facing=0" ∷ "support=0" ∷ "conducts=0"
    ∷ "id=2" ∷ "x=1" ∷ "y=0" ∷ "z=0" ∷ "kind=1" ∷ "facing=2" ∷ "support=0" ∷ "conducts=0"
    ∷ "connections=1" ∷ "source=1" ∷ "sink=2" ∷ "kind=5" ∷ "frontiers=0" ∷ []

abbrev short_plot : List String
short_plot = "sheet=2" ∷ "rules=1" ∷ "components=2" ∷ "c=1,0,0,0,4,0,0,0" ∷ "c=2,1,0,0,1,2,0,0" ∷ "connections=1" ∷ "n=1,2,5" ∷ "frontiers=0" ∷ []

there : converted (sheet old_plot) ≡ Ok (sheet short_plot)
unfolding computed
there = refl

back : converted (sheet short_plot) ≡ Ok (sheet old_plot)
unfolding computed
back = refl

spelled_there : converted (sheet ("rules=1" ∷ old_plot)) ≡ Ok (sheet short_plot)
unfolding computed
spelled_there = refl

-- ---- not valid

-- 3 of a frontier, and no list is written
frontier_out_of_range : converted (sheet ("components=0" ∷ "connections=0" ∷ "frontiers=1" ∷ "x=0" ∷ "y=30000001" ∷ "z=0" ∷ []))
    ≡ refused Fault.OutOfRange (Some Section.Frontiers) 0
unfolding computed
frontier_out_of_range = refl

-- 9 comes by its line, before a list check
line_first : converted (sheet ("components=1" ∷ "id=0" ∷ "x=0" ∷ "y=0" ∷ "z=0" ∷ "kind=99" ∷ "facing=0" ∷ "support=0" ∷ "conducts=0" ∷ "connections=0" ∷ []))
    ≡ refused Fault.BadLine None 10
unfolding computed
line_first = refl

-- the text has 99 bytes: a buffer of one fewer is refused last
room : convert_checked (sheet old_plot) 16 3 0 99 ≡ Ok tt
unfolding computed
room = refl

no_room : convert_checked (sheet old_plot) 16 3 0 98 ≡ Err (record { fault = Fault.ShortSlice; list = None; item = 0 })
unfolding computed
no_room = refl
