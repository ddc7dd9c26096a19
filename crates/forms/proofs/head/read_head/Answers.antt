-- The forms by the first line.
use native.Mathlib.Omega.{arith}
use mathlib.Core.Path.{◌≡◌, sym, ap, ◌∙◌}
use lib.IntN.{pos}
use lib.ListN.{length, drop}
use mir.Syntax.{w64}
use mir.Val.{to_z, of_z}
use mir.Facts.{to_z-of_z}
use Rattle.std.specs.Prelude.{Some, None}
use Rattle.std.proofs.Common.{rules, FitsSigned}
use Rattle.std.proofs.lemmas.Result.{err_from_is_err_and}
use Rattle.lines.specs.Text.{ascii}
use Rattle.lines.specs.Line.{taken, read_line, taken_in}
use Rattle.lines.proofs.Placed.{refused_is, line_rest}
use Rattle.forms.proofs.Heads.{form_unread, form_strange, form_short, form_old, form_bare}
use Rattle.forms.proofs.head.read_head.Goals as goal

pub returns-in_err-form : goal.returns-in_err-form
returns-in_err-form c =
    let a = c.args in
    let p = err_from_is_err_and c.from_residual.result c.from_residual.ensures.1 in
    let e : taken_in (length a.text.now) (read_line (ascii "sheet") (drop 0 a.text.now)) ≡ None = grind arith in
    let k : c.in_err-form.field-0.0 ≡ c.bad_line.result = grind arith in
    rw (p.1, p.2, k, c.bad_line.ensures) (form_unread a.most a.text.now (sym c.begins.ensures ∙ c.if-begins.true) (refused_is _ _ e))

pub returns-then-form-ne2 : goal.returns-then-form-ne2
returns-then-form-ne2 c =
    let a = c.args in
    let y = c.in_ok-form in
    let e : taken_in (length a.text.now) (read_line (ascii "sheet") (drop 0 a.text.now)) ≡ Some (y.form, y.end) = grind arith in
    rw c.strange_form.ensures
    (form_strange a.most a.text.now (sym c.begins.ensures ∙ c.if-begins.true) y.form _ (line_rest a.text.now 0 (ascii "sheet") y.form y.end e).1 (λ i. c.if-form-ne2.true (ap (of_z w64) i)))

pub returns-then-begins : goal.returns-then-begins
returns-then-begins c =
    let a = c.args in
    let y = c.in_ok-form in
    let e : taken_in (length a.text.now) (read_line (ascii "sheet") (drop 0 a.text.now)) ≡ Some (y.form, y.end) = grind arith in
    let fits : FitsSigned w64 y.form = search rules in
    let two : y.form ≡ pos 2 = sym (to_z-of_z {w = w64} fits) ∙ ap (to_z w64) c.if-form-ne2.false in
    let f = (line_rest a.text.now 0 (ascii "sheet") y.form y.end e).1 ∙ ap (λ z. taken z (drop y.end a.text.now)) two in
    rw (form_short a.most a.text.now (sym c.begins.ensures ∙ c.if-begins.true) _ f) c.read_rules.ensures

pub returns-then-begins-2 : goal.returns-then-begins-2
returns-then-begins-2 c =
    rw (form_old c.args.most c.args.text.now (sym c.begins.ensures ∙ c.if-begins.false) (sym c.begins-2.ensures ∙ c.if-begins-2.true))
    c.read_rules-then-begins-2.ensures

pub returns : goal.returns
returns c =
    let e = form_bare c.args.most c.args.text.now (sym c.begins.ensures ∙ c.if-begins.false) (sym c.begins-2.ensures ∙ c.if-begins-2.false) in
    (omega arith, omega arith, e)
