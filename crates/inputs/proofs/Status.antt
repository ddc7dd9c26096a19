-- Status 0 of a port, and the immediate sources that it comes from.
--     source_found, source_at     an immediate source is the source of a connection that feeds the port
--     fed_found                   a port that is fed by driven members has such a connection
--     fed_zero, zero_fed          status 0 exactly if it is
-- Assumes nothing.
use mathlib.Core.Path.{◌≡◌, refl, sym, ap, ◌∙◌}
use mathlib.Core.Bool.{Bool, true, false, not, cond, ◌&&◌, false≢true}
use mathlib.Core.List.{List}
use mathlib.Core.Logic.{⊎_elim}
use Prim.Native.Nat.{ℕ, ◌<◌}
use native.Mathlib.Omega.{arith}
use lib.Dec.{eqb}
use lib.ListN.{length, get_or-eq_default}
use lib.IntN.{ℤ}
use borrow.Author.Tests.{eqb-true, eq-eqb}
use Rattle.tables.specs.Laws.{order?}
use Rattle.lists.specs.Records.{port_count}
use Rattle.lists.specs.First.{some}
use Rattle.lists.proofs.Search.{both}
use Rattle.lists.proofs.Some.{some_at, some_found}
use Rattle.regions.specs.Graph.{marked}
use Rattle.signals.specs.Signals.{source_member}
use Rattle.signals.specs.Drive.{drive, potential}
use Rattle.assessment.specs.Verdicts.{feeds_port, fed_by, status_of}
use Rattle.inputs.specs.Query.{is_immediate}

-- a flag that is set stands in the list
pub marked_below : (l : List Bool) (k : ℕ) → marked l k ≡ true → k < length l
marked_below l k e = ⊎_elim (λ h. absurd (false≢true (sym (get_or-eq_default l false h) ∙ e))) (λ h. h) (order? (length l) k)

-- status 0 of the three tests, where the second holds only if the first does
zero_back : (a b c : Bool) → cond {A = ℕ} (not a) 2 (cond b 0 (cond c 1 3)) ≡ 0 → b ≡ true
zero_back true true c e = refl
zero_back true false true e = absurd (omega arith)
zero_back true false false e = absurd (omega arith)
zero_back false b c e = absurd (omega arith)

module _ (cs ps fs : List ℤ) (p port : ℕ) where
  -- ---- immediate sources

  pub source_found : (a : ℕ) → is_immediate cs ps p port a ≡ true → (k : ℕ) × (k < port_count ps) × (feeds_port cs ps p port k ≡ true) × (source_member cs ps k ≡ a)
  unfolding is_immediate
  source_found a e =
      let f = some_found (λ k. feeds_port cs ps p port k && eqb (source_member cs ps k) a) (port_count ps) e in
      let b = both (feeds_port cs ps p port f.0) (eqb (source_member cs ps f.0) a) f.2 in
      (f.0, f.1, b.0, eqb-true (source_member cs ps f.0) a b.1)

  pub source_at : (k : ℕ) → k < port_count ps → feeds_port cs ps p port k ≡ true → is_immediate cs ps p port (source_member cs ps k) ≡ true
  unfolding is_immediate
  source_at k h e =
      let a = source_member cs ps k in
      some_at (λ j. feeds_port cs ps p port j && eqb (source_member cs ps j) a) (port_count ps) k h
      (ap (λ (t : Bool). t && eqb (source_member cs ps k) a) e ∙ eq-eqb a a refl)

  -- ---- status 0

  pub fed_found : fed_by cs ps p port (drive cs ps fs) ≡ true
      → (k : ℕ) × (k < port_count ps) × (feeds_port cs ps p port k ≡ true) × (marked (drive cs ps fs) (source_member cs ps k) ≡ true)
  unfolding fed_by
  fed_found e =
      let f = some_found (λ k. feeds_port cs ps p port k && marked (drive cs ps fs) (source_member cs ps k)) (port_count ps) e in
      let b = both (feeds_port cs ps p port f.0) (marked (drive cs ps fs) (source_member cs ps f.0)) f.2 in
      (f.0, f.1, b.0, b.1)

  module _ (rules : ℕ) where
    pub fed_zero : fed_by cs ps p port (drive cs ps fs) ≡ true → status_of rules cs ps fs p port ≡ 0
    unfolding status_of
    fed_zero e =
        let f = fed_found e in
        rw (some_at (feeds_port cs ps p port) (port_count ps) f.0 f.1 f.2, e)

    pub zero_fed : status_of rules cs ps fs p port ≡ 0 → fed_by cs ps p port (drive cs ps fs) ≡ true
    unfolding status_of
    zero_fed e = zero_back (some (feeds_port cs ps p port) (port_count ps)) (fed_by cs ps p port (drive cs ps fs)) (fed_by cs ps p port (potential rules cs ps fs)) e
