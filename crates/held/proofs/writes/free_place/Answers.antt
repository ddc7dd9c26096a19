-- Answers for the goals that the search leaves.
use mathlib.Core.Path.{refl}
use Rattle.held.specs.Writes.{freed_state}
use Rattle.held.proofs.writes.free_place.Goals as goal

pub returns-clause-state : goal.returns-clause-state
unfolding freed_state
returns-clause-state c = refl
