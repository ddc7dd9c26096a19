-- Verdict rows where one port connection is added.
--     rows_after        the rows, one by one
-- Assumes nothing.
use mathlib.Core.Path.{◌≡◌, refl, sym, ap, subst, ◌∙◌}
use mathlib.Core.Bool.{Bool, true, false, not, cond, ◌&&◌}
use mathlib.Core.List.{List, [], ◌∷◌, ◌++◌}
use mathlib.Core.Logic.{⊎_elim}
use Prim.Native.Nat.{ℕ, zero, suc, ◌<◌}
use native.Mathlib.Omega.{arith}
use lib.Dec.{eqb}
use lib.ListN.{length}
use lib.IntN.{ℤ}
use borrow.Author.Tests.{eqb-true}
use Rattle.lists.specs.Limits.{port_width}
use Rattle.lists.specs.Records.{PortConnection, component, port_connection, component_count, port_count}
use Rattle.lists.specs.First.{some}
use Rattle.lists.specs.Ids.{support_transfer}
use Rattle.lists.proofs.Search.{never, both}
use Rattle.lists.proofs.Some.{some_at, some_found}
use Rattle.faces.specs.Ports.{ports_of}
use Rattle.signals.specs.Signals.{is_signal}
use Rattle.signals.specs.Drive.{drive, potential}
use Rattle.assessment.specs.Verdicts.{feeds_port, fed_by, status_of, is_required, port_rows, verdict_rows, input_rows}
use Rattle.one_wire.specs.Added.{Added}
use Rattle.one_wire.specs.Ports.{RowAfter, RowsAfter, none, row}
use Rattle.one_wire.proofs.Shifted.{port_there, port_back}

-- ---- status 2

-- a port has status 2 exactly if nothing feeds it
unfed : (fed driven possible : Bool) → ◌≡◌ {A = ℕ} (cond (not fed) 2 (cond driven 0 (cond possible 1 3))) 2 → fed ≡ false
unfed true true possible e = absurd (omega arith)
unfed true false true e = absurd (omega arith)
unfed true false false e = absurd (omega arith)
unfed false driven possible e = refl

module _ (cs ps fs : List ℤ) (p port : ℕ) where
  abbrev is_fed : Bool
  is_fed = some (feeds_port cs ps p port) (port_count ps)

  status_unfed : (rules : ℕ) → status_of rules cs ps fs p port ≡ 2 → is_fed ≡ false
  unfolding status_of
  status_unfed rules e = unfed is_fed (fed_by cs ps p port (drive cs ps fs)) (fed_by cs ps p port (potential rules cs ps fs)) e

  unfed_status : (rules : ℕ) → is_fed ≡ false → status_of rules cs ps fs p port ≡ 2
  unfolding status_of
  unfed_status rules e = rw e

-- ---- a row

-- a port connection sinks at the port
abbrev feeds : List ℤ → ℕ → ℕ → PortConnection → Bool
feeds cs p port c = not (eqb c.transfer support_transfer) && (eqb c.sink (component cs p).id && eqb c.sink_port_of port)

module _ (rules : ℕ) (cs ps ps' fs : List ℤ) (i : ℕ) (added : Added port_width ps i ps') where
  abbrev c : PortConnection
  c = port_connection ps' i

  module _ (p port : ℕ) where
    still_fed : is_fed cs ps fs p port ≡ true → is_fed cs ps' fs p port ≡ true
    still_fed e =
        let (k, h, t) = some_found (feeds_port cs ps p port) (port_count ps) e in
        let (j, l, same) = port_there added k h in
        some_at (feeds_port cs ps' p port) (port_count ps') j l (ap (feeds cs p port) same ∙ t)

    -- what the new connection feeds
    at_sink : feeds cs p port c ≡ true → ((component cs p).id ≡ c.sink) × (port ≡ c.sink_port_of)
    at_sink t =
        let parts = both (eqb c.sink (component cs p).id) (eqb c.sink_port_of port) (both (is_signal ps' i) (eqb c.sink (component cs p).id && eqb c.sink_port_of port) t).1 in
        (sym (eqb-true c.sink (component cs p).id parts.0), sym (eqb-true c.sink_port_of port parts.1))

    newly_fed : is_fed cs ps fs p port ≡ false → is_fed cs ps' fs p port ≡ true → ((component cs p).id ≡ c.sink) × (port ≡ c.sink_port_of)
    newly_fed unmet e =
        let (j, l, t) = some_found (feeds_port cs ps' p port) (port_count ps') e in
        ⊎_elim
        (λ (q : j ≡ i). at_sink (subst (λ (x : ℕ). feeds_port cs ps' p port x ≡ true) q t))
        (λ (found : (k : ℕ) × (k < port_count ps) × (port_connection ps' j ≡ port_connection ps k)).
        never (sym unmet ∙ some_at (feeds_port cs ps p port) (port_count ps) found.0 found.1 (sym (ap (feeds cs p port) found.2) ∙ t)))
        (port_back added j l)

    row_after : RowAfter c (component cs p).id port (status_of rules cs ps fs p port) (status_of rules cs ps' fs p port)
    row_after = record {
      leaves = λ before after. newly_fed (status_unfed cs ps fs p port rules before) (fed (is_fed cs ps' fs p port) refl after);
      enters = λ after. unfed_status cs ps fs p port rules (not_fed (is_fed cs ps fs p port) refl (status_unfed cs ps' fs p port rules after));
    }
      where
        fed : (t : Bool) → is_fed cs ps' fs p port ≡ t → (status_of rules cs ps' fs p port ≡ 2 → ⊥) → t ≡ true
        fed true e h = refl
        fed false e h = absurd (h (unfed_status cs ps' fs p port rules e))

        not_fed : (t : Bool) → is_fed cs ps fs p port ≡ t → is_fed cs ps' fs p port ≡ false → t ≡ false
        not_fed true e h = never (sym h ∙ still_fed e)
        not_fed false e h = refl

  -- ---- all rows

  after_both : {a a' b b' : List ℕ} → RowsAfter c a a' → RowsAfter c b b' → RowsAfter c (a ++ b) (a' ++ b')
  after_both none s = s
  after_both (row r rest) s = row r (after_both rest s)

  rows_of_ports : (p m : ℕ) → RowsAfter c (port_rows rules cs ps fs p m) (port_rows rules cs ps' fs p m)
  unfolding port_rows
  rows_of_ports p zero = none
  rows_of_ports p (suc k) = after_both (rows_of_ports p k) (go (is_required rules (component cs p) k))
    where
      go : (t : Bool) → RowsAfter c (cond t ((component cs p).id ∷ k ∷ status_of rules cs ps fs p k ∷ []) []) (cond t ((component cs p).id ∷ k ∷ status_of rules cs ps' fs p k ∷ []) [])
      go true = row (row_after p k) none
      go false = none

  component_rows : (m : ℕ) → RowsAfter c (verdict_rows rules cs ps fs m) (verdict_rows rules cs ps' fs m)
  unfolding verdict_rows
  component_rows zero = none
  component_rows (suc p) = after_both (component_rows p) (rows_of_ports p (length (ports_of rules (component cs p))))

  pub rows_after : RowsAfter c (input_rows rules cs ps fs) (input_rows rules cs ps' fs)
  rows_after = component_rows (component_count cs)
