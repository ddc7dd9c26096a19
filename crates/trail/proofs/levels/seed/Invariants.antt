-- `trail::levels::seed` meets its contract. The loop's invariant: the feeding nodes passed have level 1, and no others have one.
-- Assumes nothing.
use mathlib.Core.Path.{◌≡◌}
use lib.ListN.{length}
use Rattle.trail.specs.Waves.{Seeded}
use Rattle.trail.proofs.levels.seed.Given as goal

abbrev pub invariant-loop-x : goal.invariant-loop-x
invariant-loop-x l = (length l.queue ≡ length l.fn.queue) × Seeded l.feeds l.x l.levels l.queue l.tail
