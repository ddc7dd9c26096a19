-- The values of the records read before stand at the list's front.
use mathlib.Core.Path.{◌≡◌}
use mathlib.Core.List.{List}
use lib.IntN.{ℤ}
use Rattle.lists.specs.Slices.{laid}
use Rattle.forms.specs.Places.{fields_of}
use Rattle.forms.proofs.Steps.{Come}
use Rattle.forms.proofs.store.store_records.Given as goal

abbrev pub invariant-loop-k : goal.invariant-loop-k
invariant-loop-k l =
    (before : List ℤ) × Come (fields_of l.form.fields.now) l.text l.at 0 l.count l.k l.position before × (l.out ≡ laid before l.initial.out)
