-- Answers for the goals that the search leaves.
use mathlib.Core.Path.{refl}
use mathlib.Core.List.{[]}
use Prim.Native.Nat.{ℕ}
use lib.ListN.{get_or}
use Rattle.lists.specs.Records.{component}
use Rattle.assessment.specs.Rows.{rows_of, rows_below}
use Rattle.assessment.specs.Places.{slot_of, status_at}
use Rattle.assessment.proofs.Devices.{device_few, rows_read, below_none, below_more}
use Rattle.assessment.proofs.slots.put_rows.Goals as goal

pub loop-p-init : goal.loop-p-init
unfolding rows_below
loop-p-init c = below_none _ (λ p. []) 3 12 _ _ refl

pub loop-p-preserved : goal.loop-p-preserved
unfolding rows_below
loop-p-preserved c =
    let a = c.args in
    let cs = a.components.numbers.now in
    let s = a.slots.now in
    let row = λ (p : ℕ). rows_of a.rules (component cs p).id (component cs p).kind (component cs p).facing (λ port. status_at s (slot_of (get_or a.members.now p 0) port)) in
    below_more _ row 3 12 _ _ (λ k. refl) c.loop-p-test.true c.loop-p.invariant (device_few _ _ _ _ _ _)
    (rows_read _ _ _ _ _ _ _ _ c.id.ensures.0 c.kind.ensures c.facing.ensures (rw c.from.ensures at c.put_ports-at.ensures)) c.put_ports-at.auto.out
