-- What is counted and what is left are the whole.
use Prim.Native.Nat.{◌+◌, ◌-◌, ◌/◌, ◌≤◌, min}
use mathlib.Core.Path.{◌≡◌}
use lib.ListN.{length}
use Rattle.forms.specs.Places.{fields_of, greatest}
use Rattle.joining.specs.Cursor.{merged_from}
use Rattle.join.specs.Texts.{merged_text}
use Rattle.join.proofs.Records.{text_of}
use Rattle.join.proofs.merged.merged_length.Given as goal

abbrev pub invariant-loop-step : goal.invariant-loop-step
invariant-loop-step l =
    let form = fields_of l.form.fields.now in
    let w = length l.form.fields.now in
    ((l.i ≤ length l.a / w) × (l.j ≤ length l.b / w))
    × ((l.n ≤ greatest)
    × (min (l.n + length (text_of form (merged_from l.fields w l.a l.i l.b l.j))) greatest ≡ min (length (merged_text form w l.fields l.a l.b)) greatest))

abbrev pub decreases-loop-step : goal.decreases-loop-step
decreases-loop-step l = (length l.a / length l.form.fields.now - l.i) + (length l.b / length l.form.fields.now - l.j)
