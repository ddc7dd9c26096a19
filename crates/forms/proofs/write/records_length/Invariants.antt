-- What is counted and what is left are the whole.
use Prim.Native.Nat.{◌+◌, ◌≤◌, ◌-◌, ◌*◌, ◌/◌, min}
use mathlib.Core.Path.{◌≡◌}
use lib.ListN.{length, drop}
use Rattle.forms.specs.Form.{times, write_fields, write_records}
use Rattle.forms.specs.Places.{fields_of, greatest}
use Rattle.forms.proofs.write.records_length.Given as goal

abbrev pub invariant-loop-k : goal.invariant-loop-k
invariant-loop-k l =
    let form = fields_of l.form.fields.now in
    let n = length l.numbers / length l.form.fields.now in
    (l.n ≤ greatest)
    × (min (l.n + length (write_fields (times (n - l.k) form) (drop (l.k * length l.form.fields.now) l.numbers))) greatest
    ≡ min (length (write_records form n l.numbers)) greatest)
