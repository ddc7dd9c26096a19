-- Field by field.
use native.Mathlib.Omega.{arith}
use mathlib.Core.Path.{sym, ◌∙◌}
use mathlib.Core.List.{[]}
use Rattle.forms.specs.Places.{fields_of}
use Rattle.forms.proofs.Held.{field_ends}
use Rattle.forms.proofs.Steps.{start, step, fails, ends, turned, line_here, finished, lines_few, none_left}
use Rattle.forms.proofs.read.check_record.Goals as goal

pub loop-k-init : goal.loop-k-init
loop-k-init c = let a = c.args in ([], a.line, start (fields_of a.form.fields.now) a.text.now a.at a.line c.requires.at_in_bounds)

pub read_field-requires-clause-ends : goal.read_field-requires-clause-ends
read_field-requires-clause-ends c = field_ends c.args.form.fields.now c.loop-k.k _ c.loop-k-test.true c.args.form.passes

pub overflow_add-result : goal.overflow_add-result
overflow_add-result c = omega (arith, c.lines_of.ensures, lines_few c.args.form.fields.now c.loop-k.k, c.requires.few_lines)

pub returns-in_default : goal.returns-in_default
returns-in_default c =
    let a = c.args in
    let x = c.loop-k in
    let form = a.form.fields.now in
    let s = x.invariant.2 in
    rw (c.lines_of.ensures, ← line_here form a.text.now a.at a.line x.k s)
    (fails
    (fields_of form)
    a.text.now
    a.at
    a.line
    (turned form a.text.now a.at a.line x.k s _ c.loop-k-test.true)
    (sym c.read_field.ensures ∙ c.in_default.is))

pub loop-k-preserved : goal.loop-k-preserved
loop-k-preserved c =
    let a = c.args in
    let x = c.loop-k in
    let form = a.form.fields.now in
    let good = field_ends form x.k _ c.loop-k-test.true a.form.passes in (
      _,
      _,
      step
          (fields_of form)
          a.text.now
          a.at
          a.line
          (turned form a.text.now a.at a.line x.k x.invariant.2 _ c.loop-k-test.true)
          good
          c.in-Some.field-0-0
          c.in-Some.end
          (sym c.read_field.ensures ∙ c.in-Some.is),
    )

pub returns : goal.returns
returns c =
    let a = c.args in
    let x = c.loop-k in
    let s = finished a.form.fields.now a.text.now a.at a.line x.k x.invariant.2 (omega arith) in
    (x.invariant.0, none_left s.count, s.placed, ends (fields_of a.form.fields.now) a.text.now a.at a.line s)
