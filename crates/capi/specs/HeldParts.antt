-- What the inner functions of the entries on a held plot hand on to each other; no entry's contract rests on these.
-- Assumes nothing: these are definitions.
use Rattle.std.specs.Prelude.{ℕ, ◌≤◌, List, length}
use Rattle.lists.specs.Limits.{component_limit, connection_limit}
use Rattle.held.specs.Lent.{used_in, freed_count_in, held_in}

-- the counts of a state that can be left
pub record Counted (state : List ℕ) : Type 0 where
  pub room : 4 ≤ length state
  pub freed : freed_count_in state ≤ used_in state
  pub used : used_in state ≤ component_limit
  pub held : held_in state ≤ connection_limit
