-- What is written and what is left are the whole.
use Prim.Native.Nat.{ℕ}
use mathlib.Core.List.{List}
use lib.ListN.{drop}
use Rattle.forms.specs.Form.{write_fields}
use Rattle.forms.specs.Places.{fields_of}
use Rattle.forms.proofs.Writing.{Left}
use Rattle.forms.proofs.write.write_record.Given as goal

abbrev pub invariant-loop-k : goal.invariant-loop-k
invariant-loop-k l =
    (s : List ℕ)
    × Left (write_fields (fields_of l.form.fields.now) l.numbers) (write_fields (fields_of (drop l.k l.form.fields.now)) (drop l.k l.numbers)) l.initial.out l.out l.at s
