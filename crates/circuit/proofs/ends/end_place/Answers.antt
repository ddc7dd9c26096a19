-- `circuit::ends::end_place` meets its contract: where neither hint is right, the table is searched.
-- Assumes nothing.
use Rattle.lists.proofs.Places.{places_table}
use Rattle.circuit.proofs.ends.end_place.Goals as goal

pub returns : goal.returns
returns c cs p = c.place_of.ensures cs (places_table p)
