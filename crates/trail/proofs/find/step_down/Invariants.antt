-- `trail::find::step_down` meets its contract. The loop's invariant: no neighbour passed has the next lower level. Assumes nothing.
use Rattle.trail.proofs.Walking.{NonePassed}
use Rattle.trail.proofs.find.step_down.Given as goal

abbrev pub invariant-loop-neighbour : goal.invariant-loop-neighbour
invariant-loop-neighbour l = NonePassed l.neighbour-items l.levels l.lower l.neighbour-index
