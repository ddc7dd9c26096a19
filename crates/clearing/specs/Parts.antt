-- Clearing up a plot after digging (document 02, R-10): which port connections are dropped and which are kept, and the rows of both lists.
--     dropped_items, kept_items     their items, in order
--     dropped_rows, kept_rows       the lists that are answered
-- A support connection stays, and one with both ends is not at fault: `end_missing` is what refusal 7 asks of a port connection.
-- Assumes nothing: these are definitions.
use Rattle.std.specs.Prelude.{ℕ, ◌*◌, ◌∷◌, Bool, true, false, not, List, [], take, drop, ℤ}
use Rattle.std.specs.List.{filter, flat_map, range_with_len}
use Rattle.lists.specs.Limits.{port_width}
use Rattle.lists.specs.Records.{port_connection, port_count}
use Rattle.lists.specs.Ids.{has_component, end_missing}
use Rattle.clearing.specs.declared.Missing.{Missing}

-- ---- items

-- "drops exactly those non-support port connections with an endpoint that is no component"
abbrev pub dropped_items : List ℤ → List ℤ → List ℕ
dropped_items cs ps = filter (end_missing cs ps) (range_with_len 0 (port_count ps))

-- "and keeps the others in order"
abbrev pub kept_items : List ℤ → List ℤ → List ℕ
kept_items cs ps = filter (λ k. not (end_missing cs ps k)) (range_with_len 0 (port_count ps))

-- ---- rows

-- port connection k as it was given: five numbers
abbrev pub port_row : List ℤ → ℕ → List ℤ
port_row ps k = take port_width (drop (k * port_width) ps)

abbrev pub kept_rows : List ℤ → List ℤ → List ℤ
kept_rows cs ps = flat_map (port_row ps) (kept_items cs ps)

-- "which ends were missing: 0 source, 1 sink, 2 both"
abbrev pub missing_number : Missing → ℕ
missing_number Missing.Source = 0
missing_number Missing.Sink = 1
missing_number Missing.Both = 2

-- given whether the source and whether the sink is a component. It is asked of a connection that misses one, so where the source is
-- there the sink is not.
abbrev pub missing_ends : Bool → Bool → Missing
missing_ends false true = Missing.Source
missing_ends true sink = Missing.Sink
missing_ends false false = Missing.Both

-- the missing ends of port connection k
abbrev pub ends_of : List ℤ → List ℤ → ℕ → Missing
ends_of cs ps k = missing_ends (has_component cs (port_connection ps k).source) (has_component cs (port_connection ps k).sink)

-- "by its old item number and which ends were missing"
abbrev pub dropped_width : ℕ
dropped_width = 2

abbrev pub dropped_row : List ℤ → List ℤ → ℕ → List ℕ
dropped_row cs ps k = k ∷ missing_number (ends_of cs ps k) ∷ []

-- "It lists each dropped connection, in order"
abbrev pub dropped_rows : List ℤ → List ℤ → List ℕ
dropped_rows cs ps = flat_map (dropped_row cs ps) (dropped_items cs ps)
