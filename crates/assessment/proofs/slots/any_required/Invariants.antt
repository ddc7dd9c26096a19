-- `assessment::slots::any_required` meets its contract: no component passed has a required port.
-- Assumes nothing.
use mathlib.Core.Path.{◌≡◌}
use Prim.Native.Nat.{ℕ, ◌<◌}
use Rattle.lists.specs.Records.{component}
use Rattle.assessment.specs.Rows.{required_count}
use Rattle.assessment.proofs.slots.any_required.Given as goal

abbrev pub invariant-loop-p : goal.invariant-loop-p
invariant-loop-p l =
    (q : ℕ) → q < l.p
    → required_count l.rules (component l.components.numbers.now q).kind (component l.components.numbers.now q).facing ≡ 0
