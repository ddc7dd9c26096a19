-- The ids that a report prints behind `immediate=` and `inferred=` rise.
--     IdsRise       the statement, of any set and the table of ids of components no two of which share one
-- The theorem is `ids_rise` of proofs/Rises.antt. No contract rests on it.
-- Assumes nothing: these are statements.
use Rattle.std.specs.Prelude.{None, ◌≡◌, List, ℕ, ℤ}
use Rattle.tables.specs.Order.{StrictlyAscending}
use Rattle.lists.specs.Ids.{IdTable, first_repeated}
use Rattle.blocks.specs.Blocks.{ids_in}

abbrev pub IdsRise : Type 0
IdsRise = (cs : List ℤ) (keys words : List ℕ) → IdTable cs keys → first_repeated cs ≡ None → StrictlyAscending (ids_in keys words)
