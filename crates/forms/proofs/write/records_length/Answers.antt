-- Record by record.
use Prim.Native.Nat.{◌/◌}
use native.Mathlib.Nat.{div-mul-le_self}
use native.Mathlib.Omega.{arith}
use lib.ListN.{length}
use Rattle.forms.specs.Places.{fields_of}
use Rattle.forms.proofs.Held.{form_some}
use Rattle.forms.proofs.Writing.{next_record, no_record, records_first}
use Rattle.forms.proofs.Lengths.{length_start, length_told, length_end}
use Rattle.forms.proofs.write.records_length.Goals as goal

pub nonzero_div-k-end : goal.nonzero_div-k-end
nonzero_div-k-end c = form_some c.args.form.fields.now c.args.form.passes

pub loop-k-init : goal.loop-k-init
loop-k-init c =
    let a = c.args in
    let w = length a.form.fields.now in
    length_start _ _ (records_first (fields_of a.form.fields.now) a.numbers.now (length a.numbers.now / w) w)

pub loop-k-preserved : goal.loop-k-preserved
loop-k-preserved c =
    let a = c.args in
    let x = c.loop-k in
    let w = length a.form.fields.now in
    let n = length a.numbers.now / w in
    rw (c.saturating_add-n.ensures, c.record_length.ensures)
    (length_told _ _ x.n _ _ (next_record a.form.fields.now a.numbers.now n x.k c.loop-k-test.true (div-mul-le_self (length a.numbers.now) w)) x.invariant.1)

pub returns : goal.returns
returns c =
    let a = c.args in
    let x = c.loop-k in
    length_end x.n _ _ (no_record a.form.fields.now a.numbers.now (length a.numbers.now / length a.form.fields.now) x.k (omega arith)) x.invariant.0 x.invariant.1
