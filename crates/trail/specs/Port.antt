-- The trails of a port of an accepted scene, by ids (document 02, R-1). "Fed by" is a port connection of transfer 0 to 5; "feeds the port"
-- looks at the port where it sinks.
--     is_drive_id, feeds_next, feeds_into      the three tests of a trail
--     port_trail, BestOf                       a trail of a port, and the one to be found
-- Assumes nothing: these are definitions.
use Rattle.std.specs.Prelude.{Option, Some, None, ℕ, Bool, false, ◌&&◌, List, eqb, ℤ}
use Rattle.lists.specs.Records.{port_connection, port_count}
use Rattle.lists.specs.First.{some}
use Rattle.lists.specs.Ids.{place_of}
use Rattle.regions.specs.Graph.{Edges}
use Rattle.signals.specs.Signals.{is_signal}
use Rattle.signals.specs.Sources.{is_drive}
use Rattle.trail.specs.Trail.{trail, BestTrail}

-- "its first member is a drive source": the component with the id is one; an id without a component is none
abbrev pub drive_at : List ℤ → List ℤ → Option ℕ → Bool
drive_at cs fs (Some p) = is_drive cs fs p
drive_at cs fs None = false

unfoldable pub is_drive_id : List ℤ → List ℤ → ℕ → Bool
is_drive_id cs fs id = drive_at cs fs (place_of cs id)

-- port connection k carries a signal from one id to another
abbrev pub carries : List ℤ → ℕ → ℕ → ℕ → Bool
carries ps a b k = is_signal ps k && (eqb (port_connection ps k).source a && eqb (port_connection ps k).sink b)

-- "each next one is fed by the one before"
unfoldable pub feeds_next : List ℤ → Edges
feeds_next ps a b = some (carries ps a b) (port_count ps)

-- "its last feeds the port"
unfoldable pub feeds_into : List ℤ → ℕ → ℕ → ℕ → Bool
feeds_into ps id port a = some (λ k. carries ps a id k && eqb (port_connection ps k).sink_port_of port) (port_count ps)

-- a list of ids is a trail of the port
abbrev pub port_trail : List ℤ → List ℤ → List ℤ → ℕ → ℕ → List ℕ → Bool
port_trail cs ps fs id port l = trail (is_drive_id cs fs) (feeds_next ps) (feeds_into ps id port) l

-- it is the one to be found
abbrev pub BestOf : List ℤ → List ℤ → List ℤ → ℕ → ℕ → List ℕ → Type 0
BestOf cs ps fs id port l = BestTrail (is_drive_id cs fs) (feeds_next ps) (feeds_into ps id port) l
