-- A list that is filled place by place, and the test of a port connection's transfer.
-- Assumes nothing.
use mathlib.Core.Path.{◌≡◌, sym, ap, ◌∙◌}
use mathlib.Core.Bool.{true, false, not}
use mathlib.Core.List.{List}
use mathlib.Core.Logic.{⊎_elim}
use Prim.Native.Nat.{ℕ, ◌+◌, ◌*◌, ◌≤◌, ◌<◌}
use native.Mathlib.Nat.{eq-or-lt_of_le}
use native.Mathlib.Omega.{arith}
use lib.ListN.{length, get_or, set}
use lib.Seq.{get_or-set_same, get_or-set_other}
use lib.IntN.{ℤ}
use borrow.Author.Tests.{eq-eqb, ne_eqb}
use Rattle.lists.specs.Limits.{port_width}
use Rattle.lists.specs.Records.{natural_at}
use Rattle.lists.specs.Ids.{support_transfer}
use Rattle.signals.specs.Signals.{is_signal}

-- the places before k hold f, and f k is stored at k
pub stored : {A : Type 0} (d : A) (f : ℕ → A) (l : List A) (k : ℕ) (v : A) → k < length l → ((j : ℕ) → j < k → get_or l j d ≡ f j) → v ≡ f k
    → (j : ℕ) → j < k + 1 → get_or (set l k v) j d ≡ f j
stored d f l k v here before is j h =
    ⊎_elim
    (λ (same : j ≡ k). rw same (get_or-set_same l k v d here ∙ is))
    (λ (less : j < k). get_or-set_other l k j v d (λ e. omega arith) ∙ before j less)
    (eq-or-lt_of_le (let m : j ≤ k = omega arith in m))

module _ (ps : List ℤ) (k r : ℕ) (read : r ≡ natural_at ps (k * port_width + 4)) where
  pub is_support : r ≡ support_transfer → is_signal ps k ≡ false
  is_support e = ap not (eq-eqb (natural_at ps (k * port_width + 4)) support_transfer (sym read ∙ e))

  pub is_signal_lem : (r ≡ support_transfer → ⊥) → is_signal ps k ≡ true
  is_signal_lem ne = ap not (ne_eqb (natural_at ps (k * port_width + 4)) support_transfer (λ e. ne (read ∙ e)))
