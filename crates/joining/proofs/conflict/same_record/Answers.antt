-- Field by field.
use mathlib.Core.Path.{◌≡◌, sym, ◌∙◌}
use mathlib.Core.Bool.{true, false}
use Prim.Native.Nat.{◌+◌, ◌*◌, ◌-◌}
use native.Mathlib.Omega.{arith}
use Rattle.std.proofs.Common.{rules}
use Rattle.lists.specs.Signed.{at, eq_z}
use Rattle.lists.proofs.Search.{all_fails, all_later, all_done}
use Rattle.joining.specs.Conflict.{same_record}
use Rattle.joining.proofs.conflict.same_record.Goals as goal

pub loop-f-init : goal.loop-f-init
unfolding same_record
loop-f-init c = let all : c.args.width - 0 ≡ c.args.width = omega arith in rw all

pub returns-then-a-i : goal.returns-then-a-i
returns-then-a-i c =
    let a = c.args in
    let other : eq_z (at a.a.now (a.i * a.width + c.loop-f.f)) (at a.b.now (a.j * a.width + c.loop-f.f)) ≡ false = search rules in
    sym (all_fails _ _ _ c.loop-f-test.true other) ∙ c.loop-f.invariant

pub loop-f-preserved : goal.loop-f-preserved
loop-f-preserved c =
    let a = c.args in
    let one : eq_z (at a.a.now (a.i * a.width + c.loop-f.f)) (at a.b.now (a.j * a.width + c.loop-f.f)) ≡ true = search rules in
    sym (all_later _ _ _ c.loop-f-test.true one) ∙ c.loop-f.invariant

pub returns : goal.returns
returns c = sym (all_done _ _ _ c.loop-f-test.false) ∙ c.loop-f.invariant
