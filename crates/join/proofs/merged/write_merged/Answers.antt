-- Record by record.
use native.Mathlib.Omega.{arith}
use mathlib.Core.List.{[]}
use lib.ListN.{length}
use Rattle.forms.specs.Places.{fields_of}
use Rattle.forms.proofs.Held.{form_some}
use Rattle.forms.proofs.Writing.{left_start, left_room, left_step, left_end}
use Rattle.join.proofs.Records.{text_start, stepped, step_text, no_text}
use Rattle.join.proofs.merged.write_merged.Goals as goal

pub loop-step-init : goal.loop-step-init
loop-step-init c =
    let a = c.args in
    let w = length a.form.fields.now in
    let start = text_start (fields_of a.form.fields.now) w a.fields.now (form_some a.form.fields.now a.form.passes) c.requires.fields_below a.a.now a.b.now in
    ((omega arith, omega arith), ([], rw start (left_start c.requires.room)))

pub next_record-requires-clause-fields_below : goal.next_record-requires-clause-fields_below
next_record-requires-clause-fields_below c = (c.requires.fields_below, form_some c.args.form.fields.now c.args.form.passes)

pub write_record-at-requires-clause-room : goal.write_record-at-requires-clause-room
write_record-at-requires-clause-room c =
    let a = c.args in
    let x = c.loop-step in
    let m = stepped a.form.fields.now a.fields.now a.a.now x.i a.b.now x.j c.next_record.result c.in-Some.step c.next_record.ensures c.in-Some.is in
    left_room _ _ x.invariant.1.1 (step_text a.form.fields.now a.fields.now a.a.now x.i a.b.now x.j m)

pub loop-step-preserved : goal.loop-step-preserved
loop-step-preserved c =
    let a = c.args in
    let x = c.loop-step in
    let m = stepped a.form.fields.now a.fields.now a.a.now x.i a.b.now x.j c.next_record.result c.in-Some.step c.next_record.ensures c.in-Some.is in (
      (m.first_in, m.second_in),
      (_, left_step _ _ x.invariant.1.1 (step_text a.form.fields.now a.fields.now a.a.now x.i a.b.now x.j m) c.write_record-at.ensures),
    )

pub returns : goal.returns
returns c =
    let a = c.args in
    let x = c.loop-step in
    left_end x.invariant.1.1 (no_text a.form.fields.now a.fields.now a.a.now x.i a.b.now x.j c.next_record.result c.next_record.ensures c.in_default.is)
