-- Record by record.
use native.Mathlib.Omega.{arith}
use mathlib.Core.List.{[], ◌++◌}
use lib.ListN.{length}
use Rattle.std.proofs.lemmas.Result.{err_from_is_err_and}
use Rattle.forms.specs.Places.{fields_of}
use Rattle.forms.proofs.Steps.{records_start, record_step, record_fails, records_end, all_lines, line_room}
use Rattle.forms.proofs.read.check_records.Goals as goal

pub loop-k-init : goal.loop-k-init
loop-k-init c =
    let a = c.args in
    ([], records_start (fields_of a.form.fields.now) a.text.now a.at a.line a.count c.requires.at_in_bounds)

pub overflow_mul-k : goal.overflow_mul-k
overflow_mul-k c =
    let a = c.args in
    let few = (all_lines a.form.fields.now c.lines_of-lines.result c.lines_of-lines.ensures).1 in
    omega (arith, line_room c.loop-k.k a.count c.lines_of-lines.result (length a.form.fields.now) a.line _ c.loop-k-test.true few c.requires.few_lines)

pub overflow_add-line : goal.overflow_add-line
overflow_add-line c =
    let a = c.args in
    let few = (all_lines a.form.fields.now c.lines_of-lines.result c.lines_of-lines.ensures).1 in
    omega (arith, line_room c.loop-k.k a.count c.lines_of-lines.result (length a.form.fields.now) a.line _ c.loop-k-test.true few c.requires.few_lines)

pub check_record-requires-clause-at_in_bounds : goal.check_record-requires-clause-at_in_bounds
check_record-requires-clause-at_in_bounds c = c.loop-k.invariant.1.placed

pub check_record-requires-clause-few_lines : goal.check_record-requires-clause-few_lines
check_record-requires-clause-few_lines c =
    let a = c.args in
    let few = (all_lines a.form.fields.now c.lines_of-lines.result c.lines_of-lines.ensures).1 in
    line_room c.loop-k.k a.count c.lines_of-lines.result (length a.form.fields.now) a.line _ c.loop-k-test.true few c.requires.few_lines

pub returns-in_err-position : goal.returns-in_err-position
returns-in_err-position c =
    let a = c.args in
    let x = c.loop-k in
    let form = a.form.fields.now in
    let all = (all_lines form c.lines_of-lines.result c.lines_of-lines.ensures).0 in
    let p = err_from_is_err_and c.from_residual.result c.from_residual.ensures.1 in
    let e = rw all at c.in_err-position.ensures in
    rw (p.1, p.2) (record_fails (fields_of form) a.text.now a.at a.line a.count x.k x.invariant.1 c.loop-k-test.true _ e)

pub loop-k-preserved : goal.loop-k-preserved
loop-k-preserved c =
    let a = c.args in
    let x = c.loop-k in
    let form = a.form.fields.now in
    let all = (all_lines form c.lines_of-lines.result c.lines_of-lines.ensures).0 in
    let (zs, n, w, e) = rw all at c.in_ok-position.ensures in
    (x.invariant.0 ++ zs, record_step (fields_of form) a.text.now a.at a.line a.count x.k x.invariant.1 c.loop-k-test.true zs c.in_ok-position.position w e)

pub returns : goal.returns
returns c =
    let a = c.args in
    let x = c.loop-k in
    let (n, w, e) = records_end (fields_of a.form.fields.now) a.text.now a.at a.line a.count x.k x.invariant.1 (omega arith) in
    (x.invariant.0, n, w, e)
