-- `assessment::slots::mark_slots` meets its contract: the flags are those of the connections passed.
-- Assumes nothing.
use Rattle.lists.specs.Ends.{sources_of, sinks_of}
use Rattle.assessment.specs.Places.{SlotFlags}
use Rattle.assessment.proofs.slots.mark_slots.Given as goal

abbrev pub invariant-loop-k : goal.invariant-loop-k
invariant-loop-k l = SlotFlags l.k l.ports.numbers.now (sources_of l.ends) (sinks_of l.ends) l.drive l.potential l.slots
