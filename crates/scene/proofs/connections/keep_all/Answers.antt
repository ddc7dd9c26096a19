-- `scene::connections::keep_all` meets its contract.
-- Assumes nothing.
use native.Mathlib.Omega.{arith}
use Rattle.scene.proofs.Writes.{none_laid, one_laid, all_laid}
use Rattle.scene.proofs.connections.keep_all.Goals as goal

pub loop-k-init : goal.loop-k-init
loop-k-init c = none_laid _ _ _ _

pub loop-k-preserved : goal.loop-k-preserved
loop-k-preserved c = one_laid _ _ _ _ _ _ _ _ _ c.loop-k.invariant c.keep-count.ensures

pub returns : goal.returns
returns c = all_laid _ _ _ _ _ _ c.loop-k.k (omega arith) c.loop-k.invariant
