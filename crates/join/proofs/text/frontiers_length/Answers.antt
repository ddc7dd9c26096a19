-- The line of the count, and the records of both lists.
use mathlib.Core.Path.{ap, ◌∙◌}
use mathlib.Core.List.{List}
use Prim.Native.Nat.{ℕ, ◌+◌, ◌/◌, min}
use lib.IntN.{pos}
use lib.ListN.{length}
use Rattle.lines.specs.Decimal.{line_of}
use Rattle.lists.specs.declared.Section.TheVariants.{Frontiers}
use Rattle.forms.specs.Form.{write_records}
use Rattle.forms.specs.Places.{greatest}
use Rattle.forms.specs.Tables.{form_of, count_key}
use Rattle.forms.specs.declared.Style.TheVariants.{Old}
use Rattle.join.proofs.Behind.{frontiers_text, by_form, three_measured}
use Rattle.join.proofs.text.frontiers_length.Goals as goal

pub returns : goal.returns
returns c =
    let a = c.args.a.now in
    let b = c.args.b.now in
    let form = c.form_of-form.result.fields.now in
    let measured = three_measured
    (line_of (count_key Frontiers) (pos (length a / 3 + length b / 3)))
    (write_records (form_of Old Frontiers) (length a / 3) a)
    (write_records (form_of Old Frontiers) (length b / 3) b)
    (rw c.count_key.ensures at c.line_length-line.ensures)
    (c.records_length.ensures ∙ ap (λ (t : List ℕ). min (length t) greatest) (by_form form a c.form_of-form.ensures))
    c.saturating_add-first.ensures
    (c.records_length-2.ensures ∙ ap (λ (t : List ℕ). min (length t) greatest) (by_form form b c.form_of-form.ensures))
    c.saturating_add.ensures in
    measured ∙ ap (λ (t : List ℕ). min (length t) greatest) (frontiers_text a b c.requires.0 c.requires.1)
