-- The port that is asked for, as the questions of one port take it (document 02, R-1 and R-5): what they search from
-- and to, by member, and its verdict row.
--     drive_sources, immediate_sources     the flags of these members
--     HasRow                               a verdict row in a list of rows
--     feeds_id                             a connection that feeds the port, by ids
-- Assumes nothing: these are definitions.
use Rattle.std.specs.Prelude.{ℕ, ◌≡◌, Bool, ◌&&◌, List, [], ◌∷◌, ◌⊎◌, eqb, ℤ}
use Rattle.lists.specs.Records.{port_connection, component_count}
use Rattle.lists.specs.First.{tabulate}
use Rattle.signals.specs.Signals.{is_signal}
use Rattle.signals.specs.Sources.{is_drive}
use Rattle.signals.specs.Drive.{members_where}
use Rattle.inputs.specs.Query.{is_immediate}

-- the drive sources, by member
abbrev pub drive_sources : List ℤ → List ℤ → List Bool
drive_sources cs fs = members_where cs (is_drive cs fs)

-- the immediate sources of a port of the component at p, by member
abbrev pub immediate_sources : List ℤ → List ℤ → ℕ → ℕ → List Bool
immediate_sources cs ps p port = tabulate (is_immediate cs ps p port) (component_count cs)

-- a row of these three numbers stands in a list of such rows
abbrev pub HasRow : ℕ → ℕ → ℕ → List ℕ → Type 0
HasRow a b c [] = ⊥
HasRow a b c (x ∷ []) = ⊥
HasRow a b c (x ∷ y ∷ []) = ⊥
HasRow a b c (x ∷ y ∷ z ∷ rows) = ((x ≡ a) × (y ≡ b) × (z ≡ c)) ⊎ HasRow a b c rows

-- port connection k carries a signal to the port of the component with the id
abbrev pub feeds_id : List ℤ → ℕ → ℕ → ℕ → Bool
feeds_id ps id port k = is_signal ps k && (eqb (port_connection ps k).sink id && eqb (port_connection ps k).sink_port_of port)
