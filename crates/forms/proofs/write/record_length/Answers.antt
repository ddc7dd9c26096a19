-- Field by field.
use native.Mathlib.Omega.{arith}
use lib.IntN.{pos}
use lib.ListN.{get_or}
use mir.Syntax.{w64}
use mir.Facts.{to_z-of_z}
use Rattle.std.proofs.Common.{rules, FitsSigned}
use Rattle.forms.proofs.Writing.{next_field, no_field}
use Rattle.forms.proofs.Lengths.{length_added, length_end}
use Rattle.forms.proofs.write.record_length.Goals as goal

pub loop-k-preserved : goal.loop-k-preserved
loop-k-preserved c =
    let a = c.args in
    let x = c.loop-k in
    let z = get_or a.numbers.now x.k (pos 0) in
    let fits : FitsSigned w64 z = search rules in
    let size = rw (to_z-of_z {w = w64} fits) at c.field_length.ensures in
    rw (c.saturating_add-n.ensures, size)
    (length_added _ _ x.n _ _ (next_field a.form.fields.now a.numbers.now x.k _ (pos 0) c.loop-k-test.true c.requires) x.invariant.1)

pub returns : goal.returns
returns c =
    let a = c.args in
    let x = c.loop-k in
    length_end x.n _ _ (no_field a.form.fields.now a.numbers.now x.k (omega arith)) x.invariant.0 x.invariant.1
