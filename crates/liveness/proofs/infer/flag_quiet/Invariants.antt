-- `liveness::infer::flag_quiet` meets its contract: each flag up to the present one is its component's.
-- Assumes nothing.
use mathlib.Core.Path.{◌≡◌}
use Prim.Native.Nat.{ℕ, ◌<◌}
use Rattle.regions.specs.Graph.{marked}
use Rattle.signals.specs.Signals.{signals}
use Rattle.signals.specs.Stages.{inferred_by}
use Rattle.liveness.proofs.infer.flag_quiet.Given as goal

abbrev pub invariant-loop-p : goal.invariant-loop-p
invariant-loop-p l =
    let t = l.plot in
    let cs = t.plot.components.now in
    (j : ℕ) → j < l.p → marked l.flags j ≡ inferred_by cs t.members.now t.region_at.now l.has_drive l.fed (signals cs t.plot.ports.now) t.labels.now j
