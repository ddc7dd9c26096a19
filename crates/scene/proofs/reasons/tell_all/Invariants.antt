-- `scene::reasons::tell_all` meets its contract: at connection k the numbers of those before it are laid.
-- Assumes nothing.
use Rattle.scene.proofs.Told.{Told}
use Rattle.scene.proofs.reasons.tell_all.Given as goal

abbrev pub invariant-loop-k : goal.invariant-loop-k
invariant-loop-k l = Told l.rules l.components.numbers.now l.connections.numbers.now l.initial.out l.out l.count l.k
