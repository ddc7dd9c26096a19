-- Some fields were read before (`Passed`).
use Prim.Native.Nat.{ℕ}
use mathlib.Core.List.{List}
use lib.IntN.{ℤ}
use lib.ListN.{drop}
use Rattle.forms.specs.Places.{fields_of}
use Rattle.forms.proofs.Steps.{Passed}
use Rattle.forms.proofs.read.check_record.Given as goal

abbrev pub invariant-loop-k : goal.invariant-loop-k
invariant-loop-k l =
    (before : List ℤ) × (m : ℕ)
    × Passed (fields_of l.form.fields.now) l.text l.at l.line (fields_of (drop l.k l.form.fields.now)) m l.position before
