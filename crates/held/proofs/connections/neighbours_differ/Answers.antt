-- Answers for the goals that the search leaves.
use native.Mathlib.Omega.{arith}
use Rattle.held.proofs.connections.neighbours_differ.Goals as goal

pub loop-k-init : goal.loop-k-init
loop-k-init c i h e = absurd (omega arith)
