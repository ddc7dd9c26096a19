-- The ends of connections as members, and the table of fed ports.
--     pair_same, slot_same                  two pairs are equal where their parts are
--     pairs_member                          what a table of keys has
--     settled_small                         settled members are below the span
--     source_at, sink_at                    and are those at the ends of the connections
--     sortable_slots                        so that fed ports can be sorted as pairs
--     fed_at                                the table of fed ports
-- Assumes nothing.
use mathlib.Core.Path.{◌≡◌, refl, sym, ap, ◌∙◌}
use mathlib.Core.Bool.{Bool, true, false, ◌&&◌, and_assoc}
use mathlib.Core.Logic.{⊎_elim}
use mathlib.Core.List.{List}
use Prim.Native.Nat.{ℕ, ◌+◌, ◌*◌, ◌≤◌, ◌<◌}
use native.Mathlib.Nat.{add-zero}
use native.Mathlib.Omega.{arith}
use lib.Dec.{eqb}
use lib.ListN.{length, get_or}
use lib.IntN.{ℤ}
use borrow.Author.Tests.{eq-eqb, ne_eqb}
use Rattle.tables.specs.Order.{member}
use Rattle.tables.specs.Laws.{same?, member_rearranged}
use Rattle.tables.specs.Pairs.{pair, span}
use Rattle.lists.specs.Limits.{component_limit, port_width}
use Rattle.lists.specs.Records.{natural_at, port_connection, component_count, port_count}
use Rattle.lists.specs.First.{is_found, some}
use Rattle.lists.specs.Ids.{member_of}
use Rattle.lists.specs.Ends.{Settled}
use Rattle.lists.specs.Within.{PortConnections}
use Rattle.lists.proofs.Fields.{field_most}
use Rattle.lists.proofs.Members.{member_below}
use Rattle.signals.specs.Signals.{is_signal, source_member, sink_member}
use Rattle.signals.specs.Keys.{Slots, Sortable, KeysOf, signal_key, slot, ports}
use Rattle.signals.proofs.Tabulated.{member_tab, first_cong}
use Rattle.signals.proofs.Ends.{members_small}

-- ---- tests of pairs

-- two numbers in a base are equal where their parts are
pub parts_same : (base x y a b : ℕ) → (x * base + y ≡ a * base + b → (x ≡ a) × (y ≡ b)) → eqb (x * base + y) (a * base + b) ≡ (eqb x a && eqb y b)
parts_same base x y a b parts =
    ⊎_elim
    (λ (p : x ≡ a). ⊎_elim
    (λ (q : y ≡ b). rw (eq-eqb x a p, eq-eqb y b q) (eq-eqb (x * base + y) (a * base + b) (rw (p, q))))
    (λ n. rw (eq-eqb x a p, ne_eqb y b n) (ne_eqb (x * base + y) (a * base + b) (λ e. n (parts e).1)))
    (same? y b))
    (λ n. rw (ne_eqb x a n) (ne_eqb (x * base + y) (a * base + b) (λ e. n (parts e).0)))
    (same? x a)

pub pair_same : (x y a b : ℕ) → y < span → b < span → eqb (pair x y) (pair a b) ≡ (eqb x a && eqb y b)
pair_same x y a b h l = parts_same span x y a b (λ e. (omega arith, omega arith))

pub slot_same : (x y a b : ℕ) → y < ports → b < ports → eqb (slot x y) (slot a b) ≡ (eqb x a && eqb y b)
slot_same x y a b h l = parts_same ports x y a b (λ e. (omega arith, omega arith))

-- the key of a support is past every pair of a member
key_same : (t : Bool) (x y nowhere a b : ℕ) → (t ≡ true → y < span) → a < nowhere → b < span
    → eqb (signal_key t x y nowhere) (pair a b) ≡ (t && (eqb x a && eqb y b))
key_same true x y nowhere a b h n l = pair_same x y a b (h refl) l
key_same false x y nowhere a b h n l = ne_eqb (pair nowhere component_limit) (pair a b) (λ e. omega arith)

pub and_turn : (t a b : Bool) → (t && (a && b)) ≡ (t && (b && a))
and_turn false a b = refl
and_turn true true true = refl
and_turn true true false = refl
and_turn true false true = refl
and_turn true false false = refl

-- ---- a table of keys

-- connection k is a signal with the pair of a and b
abbrev pub has_pair : List ℤ → List ℕ → List ℕ → ℕ → ℕ → ℕ → Bool
has_pair ps firsts seconds a b k = is_signal ps k && (eqb (get_or firsts k 0) a && eqb (get_or seconds k 0) b)

module _ {ps : List ℤ} {firsts seconds : List ℕ} {nowhere : ℕ} {keys : List ℕ} (t : KeysOf ps firsts seconds nowhere keys) where
  pub pairs_member : ((k : ℕ) → k < port_count ps → is_signal ps k ≡ true → get_or seconds k 0 < span) → (a b : ℕ) → a < nowhere → b < span
      → member (pair a b) keys ≡ some (has_pair ps firsts seconds a b) (port_count ps)
  pairs_member small a b h l =
      let key : ℕ → ℕ = λ k. signal_key (is_signal ps k) (get_or firsts k 0) (get_or seconds k 0) nowhere in
      member_rearranged t.sorted.rearranged (pair a b)
      ∙ member_tab key (port_count ps) (pair a b)
      ∙ ap is_found (first_cong (λ k. eqb (key k) (pair a b)) (has_pair ps firsts seconds a b) 0 (port_count ps) (λ k p q.
      key_same (is_signal ps k) (get_or firsts k 0) (get_or seconds k 0) nowhere a b (small k (omega arith)) h l))

-- ---- settled members

module _ {cs ps : List ℤ} {f : ℕ} {members : List ℕ} (few : component_count cs ≤ component_limit) (s : Settled cs ps f members) where
  pub settled_small : (k : ℕ) → k < port_count ps → get_or members k 0 ≤ component_limit
  settled_small k h = omega (arith, s.at k h, members_small cs (natural_at ps (k * port_width + f)))

module _ {cs ps : List ℤ} {sources sinks : List ℕ} (few : component_count cs ≤ component_limit) (s : Settled cs ps 0 sources) (t : Settled cs ps 2 sinks) where
  pub source_at : (k : ℕ) → k < port_count ps → get_or sources k 0 ≡ source_member cs ps k
  source_at k h = rw add-zero at (s.at k h)

  pub sink_at : (k : ℕ) → k < port_count ps → get_or sinks k 0 ≡ sink_member cs ps k
  sink_at k h = t.at k h

-- ---- sorted as pairs

-- connection k feeds a port of member m from member a
abbrev pub feeds : List ℤ → List ℤ → ℕ → ℕ → ℕ → ℕ → Bool
feeds cs ps m port a k =
    is_signal ps k && (eqb (sink_member cs ps k) m && (eqb (port_connection ps k).sink_port_of port && eqb (source_member cs ps k) a))

-- the number of a port that no member has
abbrev pub no_slot : ℕ
no_slot = component_limit * ports

module _ {cs ps : List ℤ} {sources sinks slots : List ℕ} (few : component_count cs ≤ component_limit) (w : PortConnections ps)
    (s : Settled cs ps 0 sources) (t : Settled cs ps 2 sinks) (u : Slots ps sinks slots) where
  port_small : (k : ℕ) → k < port_count ps → (port_connection ps k).sink_port_of < ports
  port_small k h = omega (arith, field_most w k 3 h (omega arith) 255 refl refl)

  pub sortable_slots : port_count ps ≤ length slots → port_count ps ≤ length sources → Sortable (port_count ps) slots sources no_slot
  sortable_slots slots-long sources_long = record {
    firsts_long = slots-long;
    seconds_long = sources_long;
    first = λ k h. omega (arith, u.at k h, port_small k h, settled_small few t k h);
    second = λ k h. omega (arith, settled_small few s k h);
    nowhere_small = omega arith;
  }

  pub fed_at : {keys : List ℕ} → KeysOf ps slots sources no_slot keys → (p port a : ℕ) → p < component_count cs → port < ports → a < span
      → some (feeds cs ps (member_of cs p) port a) (port_count ps) ≡ member (pair (slot (member_of cs p) port) a) keys
  fed_at table p port a h l m =
      let below = member_below cs p h in
      ap is_found (first_cong (feeds cs ps (member_of cs p) port a) (has_pair ps slots sources (slot (member_of cs p) port) a) 0 (port_count ps) (λ k q r.
      let here : k < port_count ps = omega arith in
      rw (u.at k here, sink_at few s t k here, source_at few s t k here, slot_same (sink_member cs ps k) (port_connection ps k).sink_port_of (member_of cs p) port (port_small k here) l)
      (ap (λ (x : Bool). is_signal ps k && x) (sym (and_assoc (eqb (sink_member cs ps k) (member_of cs p)) (eqb (port_connection ps k).sink_port_of port) (eqb (source_member cs ps k) a))))))
      ∙ sym (pairs_member table (λ k q signal. omega (arith, settled_small few s k q)) (slot (member_of cs p) port) a (omega arith) m)
