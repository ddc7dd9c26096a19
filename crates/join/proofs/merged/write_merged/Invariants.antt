-- What is written and what is left are the whole.
use Prim.Native.Nat.{ℕ, ◌+◌, ◌-◌, ◌/◌, ◌≤◌}
use mathlib.Core.List.{List}
use lib.ListN.{length}
use Rattle.forms.specs.Places.{fields_of}
use Rattle.forms.proofs.Writing.{Left}
use Rattle.joining.specs.Cursor.{merged_from}
use Rattle.join.specs.Texts.{merged_text}
use Rattle.join.proofs.Records.{text_of}
use Rattle.join.proofs.merged.write_merged.Given as goal

abbrev pub invariant-loop-step : goal.invariant-loop-step
invariant-loop-step l =
    let form = fields_of l.form.fields.now in
    let w = length l.form.fields.now in
    ((l.i ≤ length l.a / w) × (l.j ≤ length l.b / w))
    × ((s : List ℕ)
    × Left (merged_text form w l.fields l.a l.b) (text_of form (merged_from l.fields w l.a l.i l.b l.j)) l.initial.out l.out l.at s)

abbrev pub decreases-loop-step : goal.decreases-loop-step
decreases-loop-step l = (length l.a / length l.form.fields.now - l.i) + (length l.b / length l.form.fields.now - l.j)
