-- Field by field.
use mathlib.Core.Path.{◌≡◌, sym, ◌∙◌}
use mathlib.Core.Bool.{true, false}
use Prim.Native.Nat.{◌+◌}
use lib.ListN.{length, get_or}
use lib.Signed.{lt_z}
use native.Mathlib.Omega.{arith}
use Rattle.std.proofs.Common.{rules}
use Rattle.lists.specs.Signed.{at}
use Rattle.joining.proofs.Steps.{field_below, start_less, start_more, start_same, start_done}
use Rattle.joining.proofs.merging.starts_before.Goals as goal

pub overflow_add-x : goal.overflow_add-x
overflow_add-x c = omega (arith, field_below _ _ c.requires.fields_below c.loop-k.k c.loop-k-test.true)

pub offset_bounds-a-i : goal.offset_bounds-a-i
offset_bounds-a-i c = omega (arith, field_below _ _ c.requires.fields_below c.loop-k.k c.loop-k-test.true)

pub bounds-a-i : goal.bounds-a-i
bounds-a-i c = omega (arith, field_below _ _ c.requires.fields_below c.loop-k.k c.loop-k-test.true)

pub overflow_add-y : goal.overflow_add-y
overflow_add-y c = omega (arith, field_below _ _ c.requires.fields_below c.loop-k.k c.loop-k-test.true)

pub offset_bounds-b-j : goal.offset_bounds-b-j
offset_bounds-b-j c = omega (arith, field_below _ _ c.requires.fields_below c.loop-k.k c.loop-k-test.true)

pub bounds-b-j : goal.bounds-b-j
bounds-b-j c = omega (arith, field_below _ _ c.requires.fields_below c.loop-k.k c.loop-k-test.true)

pub returns-then-x-y : goal.returns-then-x-y
returns-then-x-y c =
    let a = c.args in
    let f = get_or a.fields.now c.loop-k.k 0 in
    let less : lt_z (at a.a.now (a.i + f)) (at a.b.now (a.j + f)) ≡ true = search rules in
    sym (start_less _ _ _ _ _ _ c.loop-k-test.true less) ∙ c.loop-k.invariant

pub returns-then-y-x : goal.returns-then-y-x
returns-then-y-x c =
    let a = c.args in
    let f = get_or a.fields.now c.loop-k.k 0 in
    let less : lt_z (at a.a.now (a.i + f)) (at a.b.now (a.j + f)) ≡ false = search rules in
    let more : lt_z (at a.b.now (a.j + f)) (at a.a.now (a.i + f)) ≡ true = search rules in
    sym (start_more _ _ _ _ _ _ c.loop-k-test.true less more) ∙ c.loop-k.invariant

pub loop-k-preserved : goal.loop-k-preserved
loop-k-preserved c =
    let a = c.args in
    let f = get_or a.fields.now c.loop-k.k 0 in
    let less : lt_z (at a.a.now (a.i + f)) (at a.b.now (a.j + f)) ≡ false = search rules in
    let more : lt_z (at a.b.now (a.j + f)) (at a.a.now (a.i + f)) ≡ false = search rules in
    sym (start_same _ _ _ _ _ _ c.loop-k-test.true less more) ∙ c.loop-k.invariant

pub returns : goal.returns
returns c =
    let same : c.loop-k.k ≡ length c.args.fields.now = omega (arith, c.loop-k-test.false, c.loop-k.auto.k-end) in
    sym (start_done _ _ _ _ _ _ same) ∙ c.loop-k.invariant
