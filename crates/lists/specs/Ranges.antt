-- Ranges (refusal 3): field f of a record is from low[f] to high[f]. They hold for every kind and in every list.
-- Assumes nothing: these are definitions.
use Rattle.std.specs.Prelude.{Option}
use Rattle.std.specs.Prelude.{ℕ, ◌+◌, ◌*◌, ◌/◌, Bool, not, List, ◌∷◌, [], length, map, ℤ, pos, negsuc}
use Rattle.lists.specs.declared.ranges.Bounds.{Bounds}
use Rattle.lists.specs.Signed.{at, in_range}
use Rattle.lists.specs.First.{first_from, all_from}

-- each field of the record at `i` is in its range
unfoldable pub record_in_range : List ℤ → List ℤ → List ℤ → ℕ → Bool
record_in_range low high list i = all_from (λ f. in_range (at low f) (at high f) (at list (i + f))) 0 (length low)

-- the first record with a field outside its range
unfoldable pub first_out_of_range : List ℤ → List ℤ → List ℤ → Option ℕ
first_out_of_range low high list = first_from (λ k. not (record_in_range low high list (k * length low))) 0 (length list / length low)

-- the least and the greatest numbers of a table of ranges
abbrev pub lows_of : List Bounds → List ℤ
lows_of fields = map (λ r. r.low) fields

abbrev pub highs_of : List Bounds → List ℤ
highs_of fields = map (λ r. r.high) fields

-- ids are 0 to 4,294,967,295
abbrev pub greatest_id : ℤ
greatest_id = pos 4294967295

-- coordinates are -30,000,000 to 30,000,000
abbrev pub least_coordinate : ℤ
least_coordinate = negsuc 29999999

abbrev pub greatest_coordinate : ℤ
greatest_coordinate = pos 30000000

-- id; x, y, z; kind 0..12; facing and support 0..6; conducts 0 or 1
abbrev pub component_low : List ℤ
component_low = pos 0 ∷ least_coordinate ∷ least_coordinate ∷ least_coordinate ∷ pos 0 ∷ pos 0 ∷ pos 0 ∷ pos 0 ∷ []

abbrev pub component_high : List ℤ
component_high = greatest_id ∷ greatest_coordinate ∷ greatest_coordinate ∷ greatest_coordinate ∷ pos 12 ∷ pos 6 ∷ pos 6 ∷ pos 1 ∷ []

-- source, sink; kind 0..9
abbrev pub connection_low : List ℤ
connection_low = pos 0 ∷ pos 0 ∷ pos 0 ∷ []

abbrev pub connection_high : List ℤ
connection_high = greatest_id ∷ greatest_id ∷ pos 9 ∷ []

-- source, its port 0..255, sink, its port; transfer 0..6
abbrev pub port_low : List ℤ
port_low = pos 0 ∷ pos 0 ∷ pos 0 ∷ pos 0 ∷ pos 0 ∷ []

abbrev pub port_high : List ℤ
port_high = greatest_id ∷ pos 255 ∷ greatest_id ∷ pos 255 ∷ pos 6 ∷ []

-- x, y, z
abbrev pub frontier_low : List ℤ
frontier_low = least_coordinate ∷ least_coordinate ∷ least_coordinate ∷ []

abbrev pub frontier_high : List ℤ
frontier_high = greatest_coordinate ∷ greatest_coordinate ∷ greatest_coordinate ∷ []
