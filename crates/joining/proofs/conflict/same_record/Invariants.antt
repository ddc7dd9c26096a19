-- What is left of the fields decides.
use mathlib.Core.Path.{◌≡◌}
use Prim.Native.Nat.{◌+◌, ◌*◌, ◌-◌}
use Rattle.lists.specs.Signed.{at, eq_z}
use Rattle.lists.specs.First.{all_from}
use Rattle.joining.specs.Conflict.{same_record}
use Rattle.joining.proofs.conflict.same_record.Given as goal

abbrev pub invariant-loop-f : goal.invariant-loop-f
invariant-loop-f l =
    all_from (λ f. eq_z (at l.a (l.i * l.width + f)) (at l.b (l.j * l.width + f))) l.f (l.width - l.f) ≡ same_record l.width l.a l.i l.b l.j
