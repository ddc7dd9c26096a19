-- Ports as the code hands them over: seven places, and then as rows (document 01, "What changes shape"): each role, face and channel, unused
-- places 0.
-- Assumes nothing: these are definitions.
use Rattle.std.specs.Prelude.{ℕ, ◌-◌, List, [], ◌∷◌, ◌++◌, map, length, get_or, take, replicate, Option, Some, None}
use Rattle.faces.specs.Ports.{Port, port}

-- the most ports of a component
abbrev pub port_places : ℕ
port_places = 7

abbrev pub row_of : Port → List ℕ
row_of p = p.role ∷ p.face ∷ p.channel ∷ []

abbrev pub unused_row : List ℕ
unused_row = 0 ∷ 0 ∷ 0 ∷ []

-- a row for each port, then unused places
abbrev pub rows_of : List Port → List (List ℕ)
rows_of ports = map row_of ports ++ replicate (port_places - length ports) unused_row

-- and back, whatever its numbers. An unused place would read as an Input without a face.
abbrev pub port_of : List ℕ → Port
port_of row = port (get_or row 0 0) (get_or row 1 0) (get_or row 2 0)

-- the ports in the first `count` places
abbrev pub ports_below : List (List ℕ) → ℕ → List Port
ports_below rows count = map port_of (take count rows)

-- a place for each port, then places without one
abbrev pub places_of : List Port → List (Option Port)
places_of ports = map Some ports ++ replicate (port_places - length ports) None
