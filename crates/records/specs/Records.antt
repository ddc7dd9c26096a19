-- A list of records, and the flat list of their numbers.
-- Assumes nothing: these are definitions.
use Rattle.std.specs.Prelude.{ℕ, ◌+◌, ◌*◌, ◌<◌, ◌≡◌, ◌⊎◌, List, [], ◌∷◌, ◌++◌, length, ℤ}
use Rattle.lists.specs.Limits.{connection_limit, port_width}
use Rattle.records.specs.declared.PortRecord.{PortRecord}

-- the five numbers of a record, in the order of document 01
abbrev pub fields : PortRecord → List ℤ
fields r = r.source ∷ r.source_port ∷ r.sink ∷ r.sink_port ∷ r.transfer ∷ []

-- the flat list of a list of records
unfoldable pub flatten : List PortRecord → List ℤ
flatten [] = []
flatten (r ∷ rs) = fields r ++ flatten rs

-- ---- what the functions hand on to each other

-- the numbers of the flat array: as many as the most records have, and one more
abbrev pub room : ℕ
room = connection_limit * port_width + 1

-- the numbers are those of the records, or records and numbers are over the limit
abbrev pub Stands : List PortRecord → List ℤ → Type 0
Stands rs numbers = (numbers ≡ flatten rs) ⊎ ((connection_limit < length rs) × (connection_limit * port_width < length numbers))
