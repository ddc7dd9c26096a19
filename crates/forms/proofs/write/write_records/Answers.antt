-- Record by record.
use Prim.Native.Nat.{◌/◌}
use native.Mathlib.Nat.{div-mul-le_self}
use native.Mathlib.Omega.{arith}
use mathlib.Core.List.{[]}
use lib.ListN.{length}
use Rattle.forms.specs.Places.{fields_of}
use Rattle.forms.proofs.Held.{form_some}
use Rattle.forms.proofs.Writing.{left_start, left_room, left_step, left_end, next_record, no_record, records_first}
use Rattle.forms.proofs.write.write_records.Goals as goal

pub nonzero_div-k-end : goal.nonzero_div-k-end
nonzero_div-k-end c = form_some c.args.form.fields.now c.args.form.passes

pub loop-k-init : goal.loop-k-init
loop-k-init c =
    let a = c.args in
    let w = length a.form.fields.now in
    ([], rw (records_first (fields_of a.form.fields.now) a.numbers.now (length a.numbers.now / w) w) (left_start c.requires))

pub write_record-at-requires-clause-room : goal.write_record-at-requires-clause-room
write_record-at-requires-clause-room c =
    let a = c.args in
    let x = c.loop-k in
    let w = length a.form.fields.now in
    let n = length a.numbers.now / w in
    left_room _ _ x.invariant.1 (next_record a.form.fields.now a.numbers.now n x.k c.loop-k-test.true (div-mul-le_self (length a.numbers.now) w))

pub loop-k-preserved : goal.loop-k-preserved
loop-k-preserved c =
    let a = c.args in
    let x = c.loop-k in
    let w = length a.form.fields.now in
    let n = length a.numbers.now / w in
    (_, left_step _ _ x.invariant.1 (next_record a.form.fields.now a.numbers.now n x.k c.loop-k-test.true (div-mul-le_self (length a.numbers.now) w)) c.write_record-at.ensures)

pub returns : goal.returns
returns c =
    let a = c.args in
    let x = c.loop-k in
    left_end x.invariant.1 (no_record a.form.fields.now a.numbers.now (length a.numbers.now / length a.form.fields.now) x.k (omega arith))
