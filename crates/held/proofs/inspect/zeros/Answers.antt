-- Answers for the goals that the search leaves.
use mathlib.Core.Path.{sym, ap, ◌∙◌}
use mathlib.Core.Bool.{Bool, ◌&&◌}
use Prim.Native.Nat.{◌+◌, ◌-◌}
use native.Mathlib.Nat.{add-zero, sub-zero}
use lib.ListN.{take, drop}
use Rattle.held.specs.Tests.{every}
use Rattle.held.specs.Lent.{is_zero}
use Rattle.held.proofs.Lists.{and_assoc'}
use Rattle.held.proofs.InspectLaws.{zero_turn, zero_done, and_last}
use Rattle.held.proofs.inspect.zeros.Goals as goal

pub loop-f-init : goal.loop-f-init
loop-f-init c = rw (add-zero c.args.from, sub-zero)

pub loop-f-preserved : goal.loop-f-preserved
loop-f-preserved c =
    let rest = every is_zero (take (c.args.n - (c.loop-f.f + 1)) (drop (c.args.from + (c.loop-f.f + 1)) c.args.list.now)) in
    and_assoc' c.loop-f.all c.is_zero-all.result rest
    ∙ (ap (λ (t : Bool). c.loop-f.all && t) (ap (λ (z : Bool). z && rest) c.is_zero-all.ensures ∙ sym (zero_turn c.args.list.now c.args.from c.args.n c.loop-f.f c.loop-f-test.true c.requires))
    ∙ c.loop-f.invariant)

pub returns : goal.returns
returns c =
    sym (and_last c.loop-f.all)
    ∙ (ap (λ (t : Bool). c.loop-f.all && t) (sym (zero_done c.args.list.now c.args.from c.args.n c.loop-f.f c.loop-f-test.false)) ∙ c.loop-f.invariant)
