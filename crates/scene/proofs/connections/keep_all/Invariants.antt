-- `scene::connections::keep_all` meets its contract: at connection k the rows kept of those before it are laid.
-- Assumes nothing.
use Rattle.scene.proofs.Writes.{Laid}
use Rattle.scene.proofs.connections.keep_all.Given as goal

abbrev pub invariant-loop-k : goal.invariant-loop-k
invariant-loop-k l = Laid l.rules l.components.numbers.now l.connections.numbers.now l.initial.out l.out l.count l.k
