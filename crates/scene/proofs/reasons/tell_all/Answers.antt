-- `scene::reasons::tell_all` meets its contract.
-- Assumes nothing.
use native.Mathlib.Omega.{arith}
use Rattle.scene.proofs.Told.{none_told, one_told, all_told}
use Rattle.scene.proofs.reasons.tell_all.Goals as goal

pub loop-k-init : goal.loop-k-init
loop-k-init c = none_told _ _ _ _

pub loop-k-preserved : goal.loop-k-preserved
loop-k-preserved c = one_told _ _ _ _ _ _ c.loop-k.k _ _ c.loop-k.invariant (omega arith) c.reason_of-reason.ensures c.from-count.ensures

pub returns : goal.returns
returns c = all_told _ _ _ _ _ _ c.loop-k.k (omega arith) c.loop-k.invariant
