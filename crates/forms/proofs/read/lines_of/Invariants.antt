-- The lines of the fields so far.
use Prim.Native.Nat.{◌≤◌}
use mathlib.Core.Path.{◌≡◌}
use lib.ListN.{take}
use Rattle.forms.specs.Form.{lines_of}
use Rattle.forms.specs.Places.{fields_of}
use Rattle.forms.proofs.read.lines_of.Given as goal

abbrev pub invariant-loop-field : goal.invariant-loop-field
invariant-loop-field l =
    (l.lines ≤ l.field-index) × (l.lines ≡ lines_of (fields_of (take l.field-index (take l.n l.form.fields.now))))
