-- The line of the count, and the records of both lists, one behind the other.
use mathlib.Core.List.{append_assoc}
use Prim.Native.Nat.{◌+◌, ◌/◌}
use lib.IntN.{pos}
use lib.ListN.{length}
use Rattle.lines.specs.Decimal.{line_of}
use Rattle.lines.proofs.Writing.{wrote_then, room_then}
use Rattle.lists.specs.declared.Section.TheVariants.{Frontiers}
use Rattle.forms.specs.Form.{write_records}
use Rattle.forms.specs.Tables.{form_of, count_key}
use Rattle.forms.specs.declared.Style.TheVariants.{Old}
use Rattle.join.proofs.Behind.{frontiers_text, by_form, room_two, room_three}
use Rattle.join.proofs.text.write_frontiers.Goals as goal

pub write_records-requires : goal.write_records-requires
write_records-requires c =
    let a = c.args.a.now in
    let b = c.args.b.now in
    rw (by_form c.form_of-form.result.fields.now a c.form_of-form.ensures)
    (room_then (rw c.count_key.ensures at c.write_line-x.ensures) (write_records (form_of Old Frontiers) (length a / 3) a)
    (room_two a b c.requires.whole.0 c.requires.whole.1 c.requires.room))

pub write_records-requires-2 : goal.write_records-requires-2
write_records-requires-2 c =
    let a = c.args.a.now in
    let b = c.args.b.now in
    let form = c.form_of-form.result.fields.now in
    let first = rw (by_form form a c.form_of-form.ensures) at c.write_records.ensures in
    rw (by_form form b c.form_of-form.ensures)
    (room_then (wrote_then (rw c.count_key.ensures at c.write_line-x.ensures) first) (write_records (form_of Old Frontiers) (length b / 3) b)
    (room_three a b c.requires.whole.0 c.requires.whole.1 c.requires.room))

pub returns : goal.returns
returns c =
    let a = c.args.a.now in
    let b = c.args.b.now in
    let form = c.form_of-form.result.fields.now in
    let first = rw (by_form form a c.form_of-form.ensures) at c.write_records.ensures in
    let second = rw (by_form form b c.form_of-form.ensures) at c.write_records-2.ensures in
    rw (← frontiers_text a b c.requires.whole.0 c.requires.whole.1, ← append_assoc (line_of (count_key Frontiers) (pos (length a / 3 + length b / 3))) (write_records (form_of Old Frontiers) (length a / 3) a) (write_records (form_of Old Frontiers) (length b / 3) b))
    (wrote_then (wrote_then (rw c.count_key.ensures at c.write_line-x.ensures) first) second)
