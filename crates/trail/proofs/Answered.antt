-- The answer of the finder by the place of the row that was found.
-- Assumes nothing.
use Rattle.std.specs.Prelude.{Option, Result}
use Prim.Native.Nat.{ℕ}
use mathlib.Core.Path.{◌≡◌, sym, subst}
use mathlib.Core.List.{List}
use lib.IntN.{ℤ}
use Rattle.lists.specs.declared.Refusal.{Refusal}
use Rattle.inputs.specs.Query.{row_place}
use Rattle.trail.specs.Entries.{port_refusal, FindingBy}

module _ {cs ps fs : List ℤ} {port : ℕ} {trail : List ℕ} where
  pub finding_found : (rules : ℕ) (id : ℕ) {found : Option ℕ} {trail' : List ℕ} {r : Result ℕ Refusal} → row_place rules cs id port ≡ found
      → FindingBy (port_refusal rules cs ps fs port found) cs ps fs id port trail trail' r
      → FindingBy (port_refusal rules cs ps fs port (row_place rules cs id port)) cs ps fs id port trail trail' r
  finding_found rules id {trail' = trail'} {r = r} e a = subst (λ (f : Option ℕ). FindingBy (port_refusal rules cs ps fs port f) cs ps fs id port trail trail' r) (sym e) a
