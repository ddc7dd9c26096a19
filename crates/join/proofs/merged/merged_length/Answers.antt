-- Record by record.
use native.Mathlib.Omega.{arith}
use lib.ListN.{length}
use Rattle.forms.specs.Places.{fields_of}
use Rattle.forms.proofs.Held.{form_some}
use Rattle.forms.proofs.Lengths.{length_start, length_told, length_end}
use Rattle.join.proofs.Records.{text_start, stepped, step_text, no_text}
use Rattle.join.proofs.merged.merged_length.Goals as goal

pub loop-step-init : goal.loop-step-init
loop-step-init c =
    let a = c.args in
    let w = length a.form.fields.now in
    let start = text_start (fields_of a.form.fields.now) w a.fields.now (form_some a.form.fields.now a.form.passes) c.requires a.a.now a.b.now in
    ((omega arith, omega arith), length_start _ _ start)

pub next_record-requires-clause-fields_below : goal.next_record-requires-clause-fields_below
next_record-requires-clause-fields_below c = (c.requires, form_some c.args.form.fields.now c.args.form.passes)

pub loop-step-preserved : goal.loop-step-preserved
loop-step-preserved c =
    let a = c.args in
    let x = c.loop-step in
    let m = stepped a.form.fields.now a.fields.now a.a.now x.i a.b.now x.j c.next_record.result c.in-Some.step c.next_record.ensures c.in-Some.is in (
      (m.first_in, m.second_in),
      rw (c.saturating_add-n.ensures, c.record_length.ensures)
          (length_told _ _ x.n _ _ (step_text a.form.fields.now a.fields.now a.a.now x.i a.b.now x.j m) x.invariant.1.1),
    )

pub returns : goal.returns
returns c =
    let a = c.args in
    let x = c.loop-step in
    length_end x.n _ _ (no_text a.form.fields.now a.fields.now a.a.now x.i a.b.now x.j c.next_record.result c.next_record.ensures c.in_default.is) x.invariant.1.0 x.invariant.1.1
