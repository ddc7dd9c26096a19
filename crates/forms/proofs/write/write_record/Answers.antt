-- Field by field.
use native.Mathlib.Omega.{arith}
use lib.IntN.{pos}
use lib.ListN.{get_or}
use mir.Syntax.{w64}
use mir.Facts.{to_z-of_z}
use Rattle.std.proofs.Common.{rules, FitsSigned}
use Rattle.forms.proofs.Writing.{left_room, left_step, left_end, next_field, no_field}
use Rattle.forms.proofs.write.write_record.Goals as goal

pub write_field-at-requires : goal.write_field-at-requires
write_field-at-requires c =
    let a = c.args in
    let x = c.loop-k in
    let z = get_or a.numbers.now x.k (pos 0) in
    let fits : FitsSigned w64 z = search rules in
    rw (to_z-of_z {w = w64} fits)
    (left_room _ _ x.invariant.1 (next_field a.form.fields.now a.numbers.now x.k _ (pos 0) c.loop-k-test.true c.requires.numbers))

pub loop-k-preserved : goal.loop-k-preserved
loop-k-preserved c =
    let a = c.args in
    let x = c.loop-k in
    let z = get_or a.numbers.now x.k (pos 0) in
    let fits : FitsSigned w64 z = search rules in
    let wrote = rw (to_z-of_z {w = w64} fits) at c.write_field-at.ensures in
    (_, left_step _ _ x.invariant.1 (next_field a.form.fields.now a.numbers.now x.k _ (pos 0) c.loop-k-test.true c.requires.numbers) wrote)

pub returns : goal.returns
returns c =
    let a = c.args in
    let x = c.loop-k in
    left_end x.invariant.1 (no_field a.form.fields.now a.numbers.now x.k (omega arith))
