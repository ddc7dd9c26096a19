-- Whether a port is fed, by the table of fed ports, and its status, by the flags of its slot.
--     fed_within                 what the table of fed ports names are members
--     fed_same                   `slot_fed` by the connections
--     slot_feeds, status_is      a port connection feeds a slot exactly where it feeds its port; so `status_at` is `status_of`
-- Assumes nothing.
use Rattle.std.specs.Prelude.{Some, None}
use mathlib.Core.Path.{◌≡◌, refl, sym, ap, ◌∙◌}
use mathlib.Core.Bool.{Bool, true, false, cond, ◌&&◌}
use mathlib.Core.List.{List, map}
use mathlib.Core.Logic.{⊎_elim}
use Prim.Native.Nat.{ℕ, ◌/◌, ◌%◌, ◌≤◌, ◌<◌}
use native.Mathlib.Omega.{arith}
use lib.Dec.{eqb, ltb}
use lib.ListN.{length, get_or, length-map}
use lib.IntN.{ℤ}
use borrow.Author.Tests.{eqb-true, eq-eqb, ne_eqb, lt-ltb, le-ltb}
use Rattle.tables.specs.Order.{member}
use Rattle.tables.specs.Laws.{order?, at_member}
use Rattle.tables.specs.Pairs.{pair, span}
use Rattle.lists.specs.Limits.{component_limit}
use Rattle.lists.specs.Records.{component, port_connection, component_count, port_count}
use Rattle.lists.specs.First.{is_found, some}
use Rattle.lists.specs.Ids.{member_of, first_end_missing}
use Rattle.lists.specs.Ends.{Settled}
use Rattle.lists.specs.Within.{PortConnections}
use Rattle.lists.proofs.Search.{both}
use Rattle.lists.proofs.Members.{member_below}
use Rattle.regions.specs.Graph.{marked}
use Rattle.signals.specs.Signals.{is_signal, source_member, sink_member}
use Rattle.signals.specs.Keys.{Slots, KeysOf, slot, ports}
use Rattle.signals.specs.Flags.{GatheredBy}
use Rattle.assessment.specs.Verdicts.{feeds_port, fed_by, status_of}
use Rattle.assessment.specs.Rows.{slot_fed, FedWithin}
use Rattle.assessment.specs.declared.slots.Slot.{Slot}
use Rattle.assessment.specs.Places.{places, slot_of, slot_count, slot_at, slot_number, unfed, SlotFlags, LiveMarks, slot_status, status_at}
use Rattle.signals.proofs.Tabulated.{first_cong}
use Rattle.signals.proofs.Ends.{ends_below, sink_is}
use Rattle.signals.proofs.Tested.{same_truth}
use Rattle.signals.proofs.Graph.{parts_same, and_turn, feeds, no_slot, fed_at, has_pair, pairs_member, settled_small, source_at, sink_at}
use Rattle.lists.proofs.Some.{some_found, some_at, and_true}
use Rattle.assessment.proofs.Required.{and_none}
use Rattle.assessment.proofs.Places.{flag_at}

-- ---- the table of fed ports

module _ {cs ps : List ℤ} {sources sinks slots keys : List ℕ} (few : component_count cs ≤ component_limit) (w : PortConnections ps)
    (s : Settled cs ps 0 sources) (t : Settled cs ps 2 sinks) (u : Slots ps sinks slots) (table : KeysOf ps slots sources no_slot keys)
    (ends : first_end_missing cs ps ≡ None) where
  -- the members that feed slots are those of components
  pub fed_within : FedWithin keys (component_count cs)
  fed_within = record {
    below = λ i h l.
        let key = get_or keys i 0 in
        let a = key / span in
        let b = key % span in
        let there : member (pair a b) keys ≡ true = at_member (pair a b) keys i h (omega arith) in
        let g = some_found (has_pair ps slots sources a b) (port_count ps) (sym (pairs_member table (λ k q signal. omega (arith, settled_small few s k q)) a b l (omega arith)) ∙ there) in
        let k = g.0 in
        let c = both (is_signal ps k) (eqb (get_or slots k 0) a && eqb (get_or sources k 0) b) g.2 in
        let d = both (eqb (get_or slots k 0) a) (eqb (get_or sources k 0) b) c.1 in
        omega (arith, eqb-true (get_or sources k 0) b d.1, source_at few s t k g.1, (ends_below cs ps ends k g.1 c.0).source_below);
  }

module _ {cs ps : List ℤ} {sources sinks slots keys : List ℕ} (few : component_count cs ≤ component_limit) (w : PortConnections ps)
    (s : Settled cs ps 0 sources) (t : Settled cs ps 2 sinks) (u : Slots ps sinks slots) (table : KeysOf ps slots sources no_slot keys)
    (ends : first_end_missing cs ps ≡ None) (p port : ℕ) (h : p < component_count cs) (l : port < ports) where
  abbrev m : ℕ
  m = member_of cs p

  -- a connection feeds the slot where it feeds the port
  to_slot : (k : ℕ) → k < port_count ps → feeds_port cs ps p port k ≡ true → feeds cs ps m port (source_member cs ps k) k ≡ true
  to_slot k q e =
      let a = both (is_signal ps k) _ e in
      let b = both (eqb (port_connection ps k).sink (component cs p).id) (eqb (port_connection ps k).sink_port_of port) a.1 in
      and_true _ _ a.0
      (and_true _ _ (sink_is cs ps ends k q a.0 p h ∙ b.0)
      (and_true _ _ b.1 (eq-eqb (source_member cs ps k) (source_member cs ps k) refl)))

  to_port : (a k : ℕ) → k < port_count ps → feeds cs ps m port a k ≡ true → feeds_port cs ps p port k ≡ true
  to_port a k q e =
      let b = both (is_signal ps k) _ e in
      let c = both (eqb (sink_member cs ps k) m) _ b.1 in
      let d = both (eqb (port_connection ps k).sink_port_of port) (eqb (source_member cs ps k) a) c.1 in
      and_true _ _ b.0 (and_true _ _ (sym (sink_is cs ps ends k q b.0 p h) ∙ c.0) d.0)

  abbrev by_slot : ℕ → Bool
  by_slot a = member (pair (slot m port) a) keys

  slot_port : some by_slot span ≡ true → some (feeds_port cs ps p port) (port_count ps) ≡ true
  slot_port e =
      let f = some_found by_slot span e in
      let a = f.0 in
      let g = some_found (feeds cs ps m port a) (port_count ps) (fed_at few w s t u table p port a h l f.1 ∙ f.2) in
      some_at (feeds_port cs ps p port) (port_count ps) g.0 g.1 (to_port a g.0 g.1 g.2)

  port_slot : some (feeds_port cs ps p port) (port_count ps) ≡ true → some by_slot span ≡ true
  port_slot e =
      let f = some_found (feeds_port cs ps p port) (port_count ps) e in
      let k = f.0 in
      let signal = (both (is_signal ps k) _ f.2).0 in
      let a = source_member cs ps k in
      let small : a < span = omega (arith, (ends_below cs ps ends k f.1 signal).source_below) in
      let fed = some_at (feeds cs ps m port a) (port_count ps) k f.1 (to_slot k f.1 f.2) in
      some_at by_slot span a small (sym (fed_at few w s t u table p port a h l small) ∙ fed)

  pub fed_same : slot_fed keys (slot m port) ≡ some (feeds_port cs ps p port) (port_count ps)
  unfolding slot_fed
  fed_same = same_truth (some by_slot span) (some (feeds_port cs ps p port) (port_count ps)) slot_port port_slot

-- ---- flags of slots

module _ {cs ps : List ℤ} {sources sinks : List ℕ} (few : component_count cs ≤ component_limit) (s : Settled cs ps 0 sources) (t : Settled cs ps 2 sinks)
    (ends : first_end_missing cs ps ≡ None) (p port : ℕ) (h : p < component_count cs) (l : port < places) where
  abbrev j : ℕ
  j = slot_of (member_of cs p) port

  slot_below : j < slot_count
  slot_below = omega (arith, member_below cs p h)

  other : eqb slot_count j ≡ false
  other = ne_eqb slot_count j (λ e. omega (arith, slot_below))

  module _ (k : ℕ) (q : k < port_count ps) where
    abbrev fed_port : ℕ
    fed_port = (port_connection ps k).sink_port_of

    abbrev sinks_here : Bool
    sinks_here = eqb (port_connection ps k).sink (component cs p).id

    by_signal : (signal : Bool) → is_signal ps k ≡ signal
        → eqb (slot_number (cond (signal && ltb fed_port places) (Some (slot_of (get_or sinks k 0) fed_port)) None)) j ≡ (signal && (sinks_here && eqb fed_port port))
    by_signal false e = other
    by_signal true e =
        ⊎_elim
        (λ (past : places ≤ fed_port). rw (le-ltb fed_port places past, ne_eqb fed_port port (λ x. omega arith)) (other ∙ sym (and_none sinks_here)))
        (λ (here : fed_port < places).
        rw (lt-ltb fed_port places here, sink_at few s t k q)
        (parts_same places (sink_member cs ps k) fed_port (member_of cs p) port (λ x. (omega arith, omega arith)) ∙ ap (λ (b : Bool). b && eqb fed_port port) (sink_is cs ps ends k q e p h)))
        (order? places fed_port)

    slot_feeds : eqb (slot_number (slot_at ps k (get_or sinks k 0))) j ≡ feeds_port cs ps p port k
    unfolding slot_at
    slot_feeds = by_signal (is_signal ps k) refl

  module _ {drive potential : List Bool} {slots : List Slot} (f : SlotFlags (port_count ps) ps sources sinks drive potential slots) (room : length slots ≡ slot_count) where
    fed_is : (get_or slots j unfed).fed ≡ some (feeds_port cs ps p port) (port_count ps)
    fed_is =
        sym (flag_at (λ s. s.fed) refl slots j)
        ∙ f.fed_flags.at j (omega (arith, slot_below, room, length-map slots (λ s. s.fed)))
        ∙ ap is_found (first_cong (λ k. eqb (slot_number (slot_at ps k (get_or sinks k 0))) j) (feeds_port cs ps p port) 0 (port_count ps) (λ k a b. slot_feeds k (omega arith)))

    flag_is : (marks : List Bool) (flag : Slot → Bool) → flag unfed ≡ false
        → GatheredBy (port_count ps) (λ k. slot_number (slot_at ps k (get_or sinks k 0))) (λ k. marked marks (get_or sources k 0)) (map flag slots)
        → flag (get_or slots j unfed) ≡ fed_by cs ps p port marks
    unfolding fed_by
    flag_is marks flag off g =
        sym (flag_at flag off slots j)
        ∙ g.at j (omega (arith, slot_below, room, length-map slots flag))
        ∙ ap is_found (first_cong (λ k. marked marks (get_or sources k 0) && eqb (slot_number (slot_at ps k (get_or sinks k 0))) j) (λ k. feeds_port cs ps p port k && marked marks (source_member cs ps k)) 0 (port_count ps) (λ k a b.
        let here : k < port_count ps = omega arith in
        rw (slot_feeds k here, source_at few s t k here) (and_turn true (marked marks (source_member cs ps k)) (feeds_port cs ps p port k))))

    pub status_is : (rules : ℕ) (fs : List ℤ) → LiveMarks rules cs ps fs drive potential → status_at slots j ≡ status_of rules cs ps fs p port
    unfolding slot_status status_of
    status_is rules fs live =
        rw (fed_is, flag_is drive (λ s. s.driven) refl f.driven_flags, flag_is potential (λ s. s.possible) refl f.possible_flags, live.drive_is, live.potential_is)
