-- What is counted and what is left are the whole.
use Prim.Native.Nat.{◌+◌, ◌≤◌, min}
use mathlib.Core.Path.{◌≡◌}
use lib.ListN.{length, drop}
use Rattle.forms.specs.Form.{write_fields}
use Rattle.forms.specs.Places.{fields_of, greatest}
use Rattle.forms.proofs.write.record_length.Given as goal

abbrev pub invariant-loop-k : goal.invariant-loop-k
invariant-loop-k l =
    (l.n ≤ greatest)
    × (min (l.n + length (write_fields (fields_of (drop l.k l.form.fields.now)) (drop l.k l.numbers))) greatest
    ≡ min (length (write_fields (fields_of l.form.fields.now) l.numbers)) greatest)
