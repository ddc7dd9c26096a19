-- Each way out is a case of the count's line and of the records behind it.
use Prim.Native.Nat.{ℕ, ◌+◌, ◌*◌, ◌≤◌}
use native.Mathlib.Omega.{arith}
use mathlib.Core.Path.{◌≡◌, ap, ◌∙◌}
use lib.ListN.{length, drop}
use Rattle.std.specs.Prelude.{Some, None}
use Rattle.std.proofs.lemmas.Result.{err_from_is_err_and}
use Rattle.lines.specs.Line.{taken, read_line, natural, taken_in}
use Rattle.lines.proofs.Counting.{count_rest}
use Rattle.lines.proofs.Placed.{refused_is}
use Rattle.forms.specs.Form.{lines_of}
use Rattle.forms.specs.Tables.{form_of, count_key}
use Rattle.forms.specs.Sheet.{records_to}
use Rattle.forms.proofs.Grammar.{times_length}
use Rattle.forms.proofs.Steps.{any_line, all_lines}
use Rattle.forms.proofs.Finding.{list_records, list_over, list_bad, few_lines, few_in_all}
use Rattle.forms.proofs.find.find_list.Goals as goal
use Rattle.forms.proofs.find.find_list.Goals.{In_ok-value, After-lines_of}

-- the text behind the count starts where the records are looked for
behind : (c : In_ok-value) → (c.in_ok-value.start ≤ length c.args.text.now)
    × (natural (read_line (count_key c.args.section) (drop c.args.at c.args.text.now)) ≡ taken c.in_ok-value.value (drop c.in_ok-value.start c.args.text.now))
behind c =
    let a = c.args in
    let y = c.in_ok-value in
    let e : taken_in (length a.text.now) (natural (read_line (count_key a.section) (drop a.at a.text.now))) ≡ Some (y.value, y.start) = grind arith in
    count_rest a.text.now (count_key a.section) a.at y.value y.start e

-- the lines of a record
lines : (c : After-lines_of) → (c.lines_of.result ≡ lines_of (form_of c.args.style c.args.section)) × (c.lines_of.result ≤ 8)
lines c =
    let e = (all_lines c.form_of-form.result.fields.now c.lines_of.result c.lines_of.ensures).0 ∙ ap lines_of c.form_of-form.ensures in
    (e, omega (arith, e, few_lines c.args.style c.args.section))

pub returns-in_err-value : goal.returns-in_err-value
returns-in_err-value c =
    let a = c.args in
    let p = err_from_is_err_and c.from_residual.result c.from_residual.ensures.1 in
    let e : taken_in (length a.text.now) (natural (read_line (count_key a.section) (drop a.at a.text.now))) ≡ None = grind arith in
    let k : c.in_err-value.field-0.0 ≡ c.bad_line.result = grind arith in
    rw (p.1, p.2, k, c.bad_line.ensures) (list_bad _ _ _ _ _ (refused_is _ _ e))

pub returns-then-limit-count : goal.returns-then-limit-count
returns-then-limit-count c =
    let a = c.args in
    rw c.over_limit.ensures (list_over a.style a.section a.limit a.line _ _ _ (behind (goal.at.returns-then-limit-count c).In_ok-value).1 c.if-limit-count.true)

pub overflow_mul-result : goal.overflow_mul-result
overflow_mul-result c =
    omega (arith, few_in_all c.in_ok-value.value c.args.limit _ c.lines_of.result c.if-limit-count.false c.requires.few_records (lines c).1)

pub overflow_add-result-in-Ok : goal.overflow_add-result-in-Ok
overflow_add-result-in-Ok c =
    omega (arith, c.requires.few_lines, few_in_all c.in_ok-value.value c.args.limit _ c.lines_of.result c.if-limit-count.false c.requires.few_records (lines c).1)

pub returns-in-Ok : goal.returns-in-Ok
returns-in-Ok c =
    let a = c.args in
    let y = c.in_ok-value in
    let b = behind (goal.at.returns-in-Ok c).In_ok-value in
    let l = (lines c).0 in
    let (zs, n, within, e) = rw c.form_of-form.ensures at c.in-Ok.ensures in (
      zs,
      record {
        start_within = b.0;
        end_within = within;
        total = n ∙ times_length y.value (form_of a.style a.section);
        records = any_line _ _ 0 _ zs _ e;
      },
      c.if-limit-count.false,
      ap (λ (n : ℕ). a.line + 1 + y.value * n) l,
      rw l (list_records a.style a.section a.limit a.line _ _ _ b.1 c.if-limit-count.false ∙ ap (records_to (a.line + 1 + y.value * lines_of (form_of a.style a.section))) e),
    )

pub returns-in-Err : goal.returns-in-Err
returns-in-Err c =
    let a = c.args in
    let y = c.in_ok-value in
    let b = behind (goal.at.returns-in-Err c).In_ok-value in
    let e = rw c.form_of-form.ensures at c.in-Err.ensures in
    rw c.bad_line-in-Err.ensures
    (list_records a.style a.section a.limit a.line _ _ _ b.1 c.if-limit-count.false ∙ ap (records_to (a.line + 1 + y.value * lines_of (form_of a.style a.section))) e)
