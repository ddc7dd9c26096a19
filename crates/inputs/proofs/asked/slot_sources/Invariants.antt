-- `inputs::asked::slot_sources` meets its contract: each key passed is in the one set, and its row in the other.
-- Assumes nothing.
use Rattle.inputs.proofs.Asking.{Sought}
use Rattle.inputs.proofs.asked.slot_sources.Given as goal

abbrev pub invariant-loop-key : goal.invariant-loop-key
invariant-loop-key l = Sought l.fed l.key-items l.slot l.labels l.upstream l.key-index l.immediate.words l.inferred.words
