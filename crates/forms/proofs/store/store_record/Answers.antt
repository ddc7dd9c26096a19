-- Field by field.
use native.Mathlib.Omega.{arith}
use mathlib.Core.Path.{sym}
use mathlib.Core.List.{[], ◌∷◌, ◌++◌}
use mir.Syntax.{w64}
use mir.Facts.{to_z-of_z}
use Rattle.std.proofs.Common.{rules, FitsSigned}
use Rattle.lines.proofs.Writing.{laid_snoc}
use Rattle.forms.specs.Places.{fields_of}
use Rattle.forms.proofs.Held.{field_ends}
use Rattle.forms.proofs.Steps.{step, field_accepted, ends, turned, finished, before_count}
use Rattle.forms.proofs.store.store_record.Goals as goal

pub known_field-value-requires-clause-ends : goal.known_field-value-requires-clause-ends
known_field-value-requires-clause-ends c = field_ends c.args.form.fields.now c.loop-k.k _ c.loop-k-test.true c.args.form.passes

pub known_field-value-requires-clause-accepted : goal.known_field-value-requires-clause-accepted
known_field-value-requires-clause-accepted c =
    let a = c.args in
    let x = c.loop-k in
    let form = a.form.fields.now in
    field_accepted (fields_of form) a.text.now a.at 0 (turned form a.text.now a.at 0 x.k x.invariant.2 _ c.loop-k-test.true) c.requires.all_read

pub loop-k-preserved : goal.loop-k-preserved
loop-k-preserved c =
    let a = c.args in
    let x = c.loop-k in
    let form = a.form.fields.now in
    let r = c.known_field-value.result in
    let n = before_count form a.text.now a.at 0 x.k x.invariant.2 (omega arith) in
    let f : FitsSigned w64 r.0 = search rules in
    let good = field_ends form x.k _ c.loop-k-test.true a.form.passes in
    let s = turned form a.text.now a.at 0 x.k x.invariant.2 _ c.loop-k-test.true in (
      x.invariant.0 ++ (r.0 ∷ []),
      _,
      step (fields_of form) a.text.now a.at 0 s good r.0 r.1 (sym c.known_field-value.ensures),
      rw (to_z-of_z {w = w64} f, x.invariant.3) (laid_snoc x.invariant.0 a.out.now r.0 x.k n (omega arith)),
    )

pub returns : goal.returns
returns c =
    let a = c.args in
    let x = c.loop-k in
    let s = finished a.form.fields.now a.text.now a.at 0 x.k x.invariant.2 (omega arith) in
    (x.invariant.0, s.placed, ends (fields_of a.form.fields.now) a.text.now a.at 0 s, x.invariant.3)
