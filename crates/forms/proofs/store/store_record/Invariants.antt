-- The values read before stand at the list's front.
use Prim.Native.Nat.{ℕ}
use mathlib.Core.Path.{◌≡◌}
use mathlib.Core.List.{List}
use lib.IntN.{ℤ}
use lib.ListN.{drop}
use Rattle.lists.specs.Slices.{laid}
use Rattle.forms.specs.Places.{fields_of}
use Rattle.forms.proofs.Steps.{Passed}
use Rattle.forms.proofs.store.store_record.Given as goal

abbrev pub invariant-loop-k : goal.invariant-loop-k
invariant-loop-k l =
    (before : List ℤ) × (m : ℕ)
    × Passed (fields_of l.form.fields.now) l.text l.at 0 (fields_of (drop l.k l.form.fields.now)) m l.position before
    × (l.out ≡ laid before l.initial.out)
