-- Some records were read before.
use mathlib.Core.List.{List}
use lib.IntN.{ℤ}
use Rattle.forms.specs.Places.{fields_of}
use Rattle.forms.proofs.Steps.{Come}
use Rattle.forms.proofs.read.check_records.Given as goal

abbrev pub invariant-loop-k : goal.invariant-loop-k
invariant-loop-k l = (before : List ℤ) × Come (fields_of l.form.fields.now) l.text l.at l.line l.count l.k l.position before
