-- Answers for the goals that the search leaves.
use mathlib.Core.Bool.{false≢true}
use mathlib.Core.Logic.{⊎_elim}
use mathlib.Core.Path.{◌≡◌}
use Prim.Native.Nat.{◌+◌, ◌-◌, ◌≤◌, ◌<◌}
use native.Mathlib.Nat.{eq-or-lt_of_le}
use native.Mathlib.Omega.{arith}
use Rattle.lists.proofs.ids.none_repeated.Goals as goal

pub loop-k-preserved : goal.loop-k-preserved
loop-k-preserved c =
    let l = c.loop-k in
    λ i h e. ⊎_elim
    (λ (same : i + 1 ≡ l.k).
    let here : l.k - 1 ≡ i = omega arith in
    c.if-keys-k.false (rw (here, ← same) e))
    (λ (less : i + 1 < l.k). l.invariant i less e)
    (eq-or-lt_of_le (let m : i + 1 ≤ l.k = omega arith in m))

pub loop-k-init : goal.loop-k-init
loop-k-init c = λ i h. absurd (omega arith)

pub returns-then-keys-k : goal.returns-then-keys-k
returns-then-keys-k c e = absurd (false≢true e)

pub returns : goal.returns
returns c e = record { at = λ i h. c.loop-k.invariant i (omega arith) }
