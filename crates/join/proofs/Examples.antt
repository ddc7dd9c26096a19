-- Two sheets joined, evaluated: a lever and a wire on the one table, the same wire and a lamp on the other; and pairs that are not joined.
-- Assumes nothing.
use Prim.Native.Nat.{ℕ}
use Prim.Native.String.{String}
use mathlib.Core.Path.{◌≡◌, refl}
use mathlib.Core.List.{List, [], ◌∷◌, ◌++◌}
use Rattle.std.specs.Prelude.{⊤, Result, Ok, Err, Option, Some, None}
use Rattle.lines.specs.Text.{ascii}
use Rattle.lines.specs.Decimal.{digits_then}
use Rattle.lines.specs.Line.{has_key, read_line, read_number, read_magnitude, read_digits, read_end}
use Rattle.lists.specs.First.{first_from, all_from, tabulate}
use Rattle.lists.specs.Ranges.{record_in_range, first_out_of_range}
use Rattle.lists.specs.Order.{record_before, first_not_ascending}
use Rattle.lists.specs.Ids.{place_below, first_repeated}
use Rattle.lists.specs.declared.Fault.{Fault}
use Rattle.lists.specs.declared.Section.{Section}
use Rattle.checks.specs.Refusals.{not_whole, scene_lists, grouping_lists}
use Rattle.forms.specs.Numbers.{digits_until, zero_until, magnitude_until, number_until}
use Rattle.forms.specs.Form.{times, write_fields, has_prefix, read_field, read_fields, lines_of}
use Rattle.forms.specs.Sheet.{read_head, read_list, parse_lists, parse}
use Rattle.forms.specs.Writing.{head_text, lists_text}
use Rattle.joining.specs.Split.{records, flat}
use Rattle.joining.specs.Merge.{comes_before, weave, merge_by, merged}
use Rattle.joining.specs.Conflict.{same_record, first_conflict}
use Rattle.join.specs.Entry.{parsed_by, joined_text, join_checked}
use Rattle.join.specs.declared.JoinRefusal.{JoinRefusal}

-- lines, each ended by LF
abbrev sheet : List String → List ℕ
sheet [] = []
sheet (l ∷ ls) = ascii l ++ 10 ∷ sheet ls

-- all that sheets are read, checked, joined and written by
computed : ℕ
unfolding parse read_head read_list parse_lists read_fields times read_field has_prefix number_until magnitude_until digits_until zero_until has_key read_line read_number read_magnitude read_digits read_end lines_of head_text lists_text write_fields digits_then first_from all_from tabulate record_in_range first_out_of_range record_before first_not_ascending place_below first_repeated not_whole scene_lists grouping_lists records flat comes_before weave merge_by merged same_record first_conflict
computed = 0

abbrev refused : ℕ → Fault → Option Section → ℕ → Result ⊤ JoinRefusal
refused n fault list item = Err (record { sheet = n; refusal = record { fault = fault; list = list; item = item } })

abbrev left : List String
left =
    "sheet=2" ∷ "rules=1" ∷ "components=2" ∷ "c=1,0,0,0,4,0,0,0" ∷ "c=2,1,0,0,0,0,0,0" ∷ "connections=1" ∷ "n=1,2,0" ∷ "frontiers=1" ∷ "f=0,0,0" ∷ []

abbrev right : List String
right =
    "components=2" ∷ "id=2" ∷ "x=1" ∷ "y=0" ∷ "z=0" ∷ "kind=0" ∷ "facing=0" ∷ "support=0" ∷ "conducts=0"
    ∷ "id=3" ∷ "x=2" ∷ "y=0" ∷ "z=0" ∷ "kind=11" ∷ "facing=0" ∷ "support=0" ∷ "conducts=0"
    ∷ "connections=1" ∷ "source=2" ∷ "sink=3" ∷ "kind=0" ∷ "frontiers=1" ∷ "x=0" ∷ "y=0" ∷ "z=0" ∷ []

abbrev whole : List String
whole =
    "components=3" ∷ "id=1" ∷ "x=0" ∷ "y=0" ∷ "z=0" ∷ "kind=4" ∷ "facing=0" ∷ "support=0" ∷ "conducts=0"
    ∷ "id=2" ∷ "x=1" ∷ "y=0" ∷ "z=0" ∷ "kind=0" ∷ "facing=0" ∷ "support=0" ∷ "conducts=0"
    ∷ "id=3" ∷ "x=2" ∷ "y=0" ∷ "z=0" ∷ "kind=11" ∷ "facing=0" ∷ "support=0" ∷ "conducts=0"
    ∷ "connections=2" ∷ "source=1" ∷ "sink=2" ∷ "kind=0" ∷ "source=2" ∷ "sink=3" ∷ "kind=0"
    ∷ "frontiers=2" ∷ "x=0" ∷ "y=0" ∷ "z=0" ∷ "x=0" ∷ "y=0" ∷ "z=0" ∷ []

joins : joined_text (parsed_by (sheet left)) (parsed_by (sheet right)) ≡ sheet whole
unfolding computed
joins = refl

-- work lists for both sheets' records, and a buffer that is long enough
accepted : join_checked (parsed_by (sheet left)) (parsed_by (sheet right)) 32 6 6 400 ≡ Ok tt
unfolding computed
accepted = refl

-- ---- not joined

-- the second sheet's records stand behind the first's
no_room : join_checked (parsed_by (sheet left)) (parsed_by (sheet right)) 31 6 6 400 ≡ refused 2 Fault.ShortSlice None 0
unfolding computed
no_room = refl

-- the last 2 is of both
no_buffer : join_checked (parsed_by (sheet left)) (parsed_by (sheet right)) 32 6 6 30 ≡ refused 0 Fault.ShortSlice None 0
unfolding computed
no_buffer = refl

abbrev empty : List String
empty = "components=0" ∷ "connections=0" ∷ "frontiers=0" ∷ []

-- 13 is of both; and 3 of the first sheet comes before 9 of the second
other_rules : join_checked (parsed_by (sheet ("rules=2" ∷ empty))) (parsed_by (sheet empty)) 0 0 0 0 ≡ refused 0 Fault.OtherRules None 0
unfolding computed
other_rules = refl

first_sheet_first : join_checked (parsed_by (sheet ("sheet=2" ∷ "rules=1" ∷ "components=0" ∷ "connections=1" ∷ "n=1,2,10" ∷ "frontiers=0" ∷ []))) (parsed_by []) 0 3 0 0
    ≡ refused 1 Fault.OutOfRange (Some Section.Connections) 0
unfolding computed
first_sheet_first = refl

second_sheet : join_checked (parsed_by (sheet empty)) (parsed_by []) 0 0 0 0 ≡ refused 2 Fault.BadLine None 0
unfolding computed
second_sheet = refl

-- the wire of the second table faces north
abbrev turned : List String
turned = "sheet=2" ∷ "rules=1" ∷ "components=1" ∷ "c=2,1,0,0,0,1,0,0" ∷ "connections=0" ∷ "frontiers=0" ∷ []

unequal : join_checked (parsed_by (sheet left)) (parsed_by (sheet turned)) 24 3 3 0 ≡ refused 0 Fault.UnequalFields (Some Section.Components) 0
unfolding computed
unequal = refl
