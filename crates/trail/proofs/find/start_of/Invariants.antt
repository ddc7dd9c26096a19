-- `trail::find::start_of` meets its contract. The loop's invariant is `Nearest`. Assumes nothing.
use Rattle.trail.proofs.Starting.{Nearest}
use Rattle.trail.proofs.find.start_of.Given as goal

abbrev pub invariant-loop-x : goal.invariant-loop-x
invariant-loop-x l = Nearest l.drives l.levels l.x l.least l.start
