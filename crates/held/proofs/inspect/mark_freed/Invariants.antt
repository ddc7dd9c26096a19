-- `held::inspect::mark_freed` meets its contract: the places seen are below and different, and they are marked.
-- Assumes nothing.
use Rattle.held.proofs.Loops.{SeenMarks}
use Rattle.held.proofs.inspect.mark_freed.Given as goal

abbrev pub invariant-loop-i : goal.invariant-loop-i
invariant-loop-i l = SeenMarks l.state l.used l.i l.marks
