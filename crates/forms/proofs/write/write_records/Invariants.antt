-- What is written and what is left are the whole.
use Prim.Native.Nat.{ℕ, ◌-◌, ◌*◌, ◌/◌}
use mathlib.Core.List.{List}
use lib.ListN.{length, drop}
use Rattle.forms.specs.Form.{times, write_fields, write_records}
use Rattle.forms.specs.Places.{fields_of}
use Rattle.forms.proofs.Writing.{Left}
use Rattle.forms.proofs.write.write_records.Given as goal

abbrev pub invariant-loop-k : goal.invariant-loop-k
invariant-loop-k l =
    let form = fields_of l.form.fields.now in
    let n = length l.numbers / length l.form.fields.now in
    (s : List ℕ)
    × Left (write_records form n l.numbers) (write_fields (times (n - l.k) form) (drop (l.k * length l.form.fields.now) l.numbers)) l.initial.out l.out l.at s
