-- What the rules number changes.
--     marks_agree           where lamps are the same, so are statuses and sources
--     ports_agree           where blank facings are, so are the ports and which of them have a row
--     rules_agree           where both are, nothing depends on the number
--     same_but_inferred     whatever the components: what may differ is inferred inputs, and the rows of devices that are unread
--     unread_rows           those rows
-- Assumes nothing.
use Rattle.std.specs.Prelude.{Option, Some, None}
use mathlib.Core.Path.{◌≡◌, refl, sym, ap, ◌∙◌}
use mathlib.Core.Bool.{Bool, true, false, cond, not, ◌&&◌, ◌||◌}
use mathlib.Core.List.{List, [], ◌++◌, append_assoc, append-nil}
use mathlib.Core.Logic.{◌⊎◌, inl, inr}
use Prim.Native.Nat.{ℕ, zero, suc, ◌+◌, ◌≤◌, ◌<◌}
use native.Mathlib.Omega.{arith}
use Rattle.std.proofs.lemmas.Grind.{common_steps}
use Rattle.std.proofs.lemmas.Bool.Decides.{nat_tests}
use lib.Dec.{eqb, leb, ltb}
use lib.ListN.{length}
use lib.IntN.{ℤ}
use borrow.Author.Tests.{ne_eqb}
use Rattle.lists.specs.Rules.{blanks_unread}
use Rattle.lists.specs.Records.{Component, component, port_connection, component_count, port_count}
use Rattle.lists.specs.First.{some, is_found, tabulate}
use Rattle.lists.specs.Ids.{place_of, place_below, member_of}
use Rattle.lists.proofs.Search.{found_at}
use Rattle.faces.specs.Ports.{Port, NoFace, Input, Control, piston_kind, turns, is_unread, unread, blank_ports, ports_by_facing, ports_for, ports_of}
use Rattle.faces.specs.Select.{port_at}
use Rattle.regions.specs.Kosaraju.{reached}
use Rattle.signals.specs.Signals.{signals}
use Rattle.signals.specs.Sources.{source_kind, is_drive, is_on_frontier}
use Rattle.signals.specs.Regions.{lamp, is_passive, kind_at, fed_from_outside, is_inferred, region_of_place}
use Rattle.signals.specs.Drive.{members_where, drive, potential}
use Rattle.signals.proofs.Tabulated.{first_cong}
use Rattle.assessment.specs.Verdicts.{feeds_port, fed_by, status_of, torch, is_device, has_row, port_rows, verdict_rows, row_if, kind_row, sources_at, source_rows_below, source_rows}
use Rattle.assessment.specs.Rows.{device_rows, first_required, count_by_kind, required_count}
use Rattle.assessment.specs.RulesLaws.{NoLamp, SameMarks, MarksAgree, BlanksAlike, SamePorts, PortsAgree, RulesAgree}
use Rattle.assessment.specs.RulesLaws.{driving_rows, SameButInferred, RowsUnread}
use Rattle.assessment.proofs.Required.{and_none, port_rows_lem, row_of}
use Rattle.assessment.proofs.Ascends.{SmallKind, kind_small}

tabulate_cong : {A : Type 0} (f g : ℕ → A) (n : ℕ) → ((k : ℕ) → f k ≡ g k) → tabulate f n ≡ tabulate g n
unfolding tabulate
tabulate_cong f g zero same = refl
tabulate_cong f g (suc n) same = rw (tabulate_cong f g n same, same n)

-- ---- two numbers under which the sources of connections pass alike

module _ (a b : ℕ) (cs ps fs : List ℤ)
    (alike : (k : ℕ) → is_passive a (kind_at cs (place_of cs (port_connection ps k).source)) ≡ is_passive b (kind_at cs (place_of cs (port_connection ps k).source))) where
  fed_same : (r : ℕ) → fed_from_outside a cs ps r ≡ fed_from_outside b cs ps r
  unfolding fed_from_outside
  fed_same r = ap is_found (first_cong _ _ 0 (port_count ps) (λ k l h. rw (alike k)))

  inferred_same : (p : ℕ) → is_inferred a cs ps fs p ≡ is_inferred b cs ps fs p
  unfolding is_inferred
  inferred_same p = rw (fed_same (region_of_place cs ps p))

  where_same : members_where cs (λ p. is_drive cs fs p || is_inferred a cs ps fs p) ≡ members_where cs (λ p. is_drive cs fs p || is_inferred b cs ps fs p)
  unfolding members_where
  where_same =
      tabulate_cong _ _ (component_count cs) (λ m.
      ap is_found (first_cong _ _ 0 (component_count cs) (λ p l h.
      ap (λ t. (is_drive cs fs p || t) && eqb (member_of cs p) m) (inferred_same p))))

  reached_same : potential a cs ps fs ≡ potential b cs ps fs
  unfolding potential
  reached_same = ap (reached (component_count cs) (signals cs ps)) where_same

  status_same : (p port : ℕ) → status_of a cs ps fs p port ≡ status_of b cs ps fs p port
  unfolding status_of
  status_same p port = rw reached_same

  sources_same : (n : ℕ) → source_rows_below a cs ps fs n ≡ source_rows_below b cs ps fs n
  unfolding source_rows_below sources_at
  sources_same zero = refl
  sources_same (suc p) = rw (sources_same p, inferred_same p)

  same_marks : SameMarks a b cs ps fs
  same_marks = record {
    fed = fed_same;
    inferred = inferred_same;
    reached = reached_same;
    statuses = status_same;
    sources = sources_same (component_count cs);
  }

-- where no component is a lamp, none that an id names is one
no_lamp_at : (cs : List ℤ) → NoLamp cs → (id : ℕ) → eqb (kind_at cs (place_of cs id)) lamp ≡ false
unfolding place_below
no_lamp_at cs none id = go (place_of cs id) refl
  where
    go : (found : Option ℕ) → place_of cs id ≡ found → eqb (kind_at cs found) lamp ≡ false
    go None e = refl
    go (Some p) e = none.at p (omega (arith, (found_at (λ k. eqb (component cs k).id id) 0 (component_count cs) p e).below))

pub marks_agree : MarksAgree
marks_agree a b cs ps fs (inl e) =
    same_marks a b cs ps fs (λ k.
    let kind = kind_at cs (place_of cs (port_connection ps k).source) in
    ap (λ t. eqb kind 9 || (eqb kind 10 || (eqb kind lamp && t))) e)
marks_agree a b cs ps fs (inr none) =
    same_marks a b cs ps fs (λ k. rw (no_lamp_at cs none (port_connection ps k).source))

-- ---- facings left blank

blank_alike : (a b : ℕ) (cs : List ℤ) → BlanksAlike a b cs → (p : ℕ) → p < component_count cs → unread a (component cs p) ≡ unread b (component cs p)
blank_alike a b cs (inl e) p h = ap (λ t. t && (eqb (component cs p).facing NoFace && turns (component cs p).kind)) e
blank_alike a b cs (inr none) p h = rw (none.at p h) (and_none (blanks_unread a) ∙ sym (and_none (blanks_unread b)))

ports_alike : (a b : ℕ) (c : Component) → unread a c ≡ unread b c → ports_of a c ≡ ports_of b c
unfolding ports_for
ports_alike a b c e = ap (λ t. cond t (blank_ports c.kind) (ports_by_facing c.kind c.facing c.support c.conducts)) e

pub ports_agree : PortsAgree
ports_agree a b cs alike p h =
    let c = component cs p in
    let same = ports_alike a b c (blank_alike a b cs alike p h) in
    record {
      ports = same;
      required = λ k.
          ap (λ (ports : List Port). is_device c.kind && (eqb (port_at ports k).role Input || (eqb c.kind torch && eqb (port_at ports k).role Control))) same;
    }

-- ---- both

module _ (a b : ℕ) (cs ps fs : List ℤ) (statuses : (p port : ℕ) → status_of a cs ps fs p port ≡ status_of b cs ps fs p port)
    (same : (p : ℕ) → p < component_count cs → SamePorts a b (component cs p)) where
  ports_same : (p : ℕ) → p < component_count cs → (n : ℕ) → port_rows a cs ps fs p n ≡ port_rows b cs ps fs p n
  unfolding port_rows
  ports_same p h zero = refl
  ports_same p h (suc k) = rw (ports_same p h k, statuses p k, (same p h).required k)

  verdicts_same : (n : ℕ) → n ≤ component_count cs → verdict_rows a cs ps fs n ≡ verdict_rows b cs ps fs n
  unfolding verdict_rows
  verdicts_same zero h = refl
  verdicts_same (suc p) h =
      rw (verdicts_same p (omega arith), ap (λ (ports : List Port). length ports) (same p (omega arith)).ports)
      (ap (λ (rows : List ℕ). verdict_rows b cs ps fs p ++ rows) (ports_same p (omega arith) (length (ports_of b (component cs p)))))

pub rules_agree : RulesAgree
rules_agree a b cs ps fs lamps blanks =
    let marks = marks_agree a b cs ps fs lamps in
    let ports = ports_agree a b cs blanks in
    record { marks = marks; ports = ports; inputs = verdicts_same a b cs ps fs marks.statuses ports (component_count cs) (omega arith) }

-- ---- whatever the components

abbrev status : Bool → Bool → Bool → ℕ
status connected driven possible = cond (not connected) 2 (cond driven 0 (cond possible 1 3))

-- status 2 is by the connections alone, and 0 by these and `drive`
driven_if : (connected driven possible other : Bool)
    → status connected driven possible ≡ 0 → status connected driven other ≡ 0
driven_if false driven possible other e = absurd (omega arith)
driven_if true true possible other e = refl
driven_if true false true other e = absurd (omega arith)
driven_if true false false other e = absurd (omega arith)

disconnected_if : (connected driven possible other : Bool)
    → status connected driven possible ≡ 2 → status connected driven other ≡ 2
disconnected_if false driven possible other e = refl
disconnected_if true true possible other e = absurd (omega arith)
disconnected_if true false true other e = absurd (omega arith)
disconnected_if true false false other e = absurd (omega arith)

module _ (a b : ℕ) (cs ps fs : List ℤ) (p port : ℕ) where
  zero_same : status_of a cs ps fs p port ≡ 0 → status_of b cs ps fs p port ≡ 0
  unfolding status_of
  zero_same =
      driven_if (some (feeds_port cs ps p port) (port_count ps)) (fed_by cs ps p port (drive cs ps fs)) (fed_by cs ps p port (potential a cs ps fs))
      (fed_by cs ps p port (potential b cs ps fs))

  two_same : status_of a cs ps fs p port ≡ 2 → status_of b cs ps fs p port ≡ 2
  unfolding status_of
  two_same =
      disconnected_if (some (feeds_port cs ps p port) (port_count ps)) (fed_by cs ps p port (drive cs ps fs)) (fed_by cs ps p port (potential a cs ps fs))
      (fed_by cs ps p port (potential b cs ps fs))

-- the rows of drive sources of a component, in front of others
inferred_out : (test : Bool) (id : ℕ) (rows : List ℕ) → driving_rows (row_if test id 3 ++ rows) ≡ driving_rows rows
unfolding driving_rows
inferred_out true id rows = refl
inferred_out false id rows = refl

frontier_in : (test : Bool) (id : ℕ) (rows : List ℕ) → driving_rows (row_if test id 2 ++ rows) ≡ row_if test id 2 ++ driving_rows rows
unfolding driving_rows
frontier_in true id rows = refl
frontier_in false id rows = refl

kind_in : (found : Option ℕ) → SmallKind found → (id : ℕ) (rows : List ℕ) → driving_rows (kind_row id found ++ rows) ≡ kind_row id found ++ driving_rows rows
unfolding driving_rows
kind_in None small id rows = refl
kind_in (Some zero) small id rows = refl
kind_in (Some (suc zero)) small id rows = refl
kind_in (Some (suc (suc kind))) small id rows = absurd (omega arith)

module _ (cs fs : List ℤ) where
  -- those of the first n components
  driving_below : ℕ → List ℕ
  driving_below zero = []
  driving_below (suc p) =
      driving_below p ++ (kind_row (component cs p).id (source_kind (component cs p).kind) ++ row_if (is_on_frontier cs fs p) (component cs p).id 2)

  module _ (rules : ℕ) (ps : List ℤ) where
    one_in : (p : ℕ) (rows : List ℕ) → driving_rows (sources_at rules cs ps fs p ++ rows)
        ≡ (kind_row (component cs p).id (source_kind (component cs p).kind) ++ row_if (is_on_frontier cs fs p) (component cs p).id 2) ++ driving_rows rows
    unfolding sources_at
    one_in p rows =
        let id = (component cs p).id in
        let found = source_kind (component cs p).kind in
        let kinds = kind_row id found in
        let frontier = row_if (is_on_frontier cs fs p) id 2 in
        let inferred = row_if (is_inferred rules cs ps fs p) id 3 in
        ap driving_rows (append_assoc kinds (frontier ++ inferred) rows ∙ ap (λ (l : List ℕ). kinds ++ l) (append_assoc frontier inferred rows))
        ∙ kind_in found (kind_small (component cs p).kind) id (frontier ++ (inferred ++ rows))
        ∙ ap (λ (l : List ℕ). kinds ++ l) (frontier_in (is_on_frontier cs fs p) id (inferred ++ rows)
        ∙ ap (λ (l : List ℕ). frontier ++ l) (inferred_out (is_inferred rules cs ps fs p) id rows))
        ∙ sym (append_assoc kinds frontier (driving_rows rows))

    driving_are : (n : ℕ) (rows : List ℕ) → driving_rows (source_rows_below rules cs ps fs n ++ rows) ≡ driving_below n ++ driving_rows rows
    unfolding source_rows_below driving_below
    driving_are zero rows = refl
    driving_are (suc p) rows =
        let own = kind_row (component cs p).id (source_kind (component cs p).kind) ++ row_if (is_on_frontier cs fs p) (component cs p).id 2 in
        ap driving_rows (append_assoc (source_rows_below rules cs ps fs p) (sources_at rules cs ps fs p) rows)
        ∙ driving_are p (sources_at rules cs ps fs p ++ rows)
        ∙ ap (λ (l : List ℕ). driving_below p ++ l) (one_in p rows)
        ∙ sym (append_assoc (driving_below p) own (driving_rows rows))

    driving_all : driving_rows (source_rows rules cs ps fs) ++ [] ≡ driving_below (component_count cs) ++ []
    unfolding driving_rows
    driving_all =
        append-nil (driving_rows (source_rows rules cs ps fs))
        ∙ ap driving_rows (sym (append-nil (source_rows rules cs ps fs)))
        ∙ driving_are (component_count cs) []

-- ---- which ports have a row

-- as many as the component has
count_row : (a b : ℕ) (c : Component) → required_count a c.kind c.facing ≡ required_count b c.kind c.facing → (k : ℕ) → has_row a c k ≡ has_row b c k
count_row a b c e k =
    sym (row_of a c k) ∙ ap (λ (n : ℕ). leb (first_required c.kind) k && ltb k (first_required c.kind + n)) e ∙ row_of b c k

count_alike : (a b : ℕ) (c : Component) → unread a c ≡ unread b c → required_count a c.kind c.facing ≡ required_count b c.kind c.facing
unfolding required_count
count_alike a b c e = ap (λ t. cond (t && not (eqb c.kind piston_kind)) 0 (count_by_kind c.kind)) e

count_piston : (rules kind facing : ℕ) → kind ≡ piston_kind → required_count rules kind facing ≡ 4
unfolding required_count count_by_kind
count_piston rules kind facing e = rw (e, and_none (is_unread rules piston_kind facing))

count_unread : (rules : ℕ) (c : Component) → unread rules c ≡ true → (c.kind ≡ piston_kind → ⊥) → required_count rules c.kind c.facing ≡ 0
unfolding required_count
count_unread rules c e other = rw (e, ne_eqb c.kind piston_kind other)

rows_alike : (a b : ℕ) (c : Component) → (unread a c ≡ unread b c) ⊎ (c.kind ≡ piston_kind) → (k : ℕ) → has_row a c k ≡ has_row b c k
rows_alike a b c (inl e) = count_row a b c (count_alike a b c e)
rows_alike a b c (inr e) = count_row a b c (count_piston a c.kind c.facing e ∙ sym (count_piston b c.kind c.facing e))

nothing : (first k : ℕ) → (leb first k && ltb k (first + 0)) ≡ false
nothing first k = grind (arith, nat_tests, common_steps)

first_piston : (kind : ℕ) → kind ≡ piston_kind → first_required kind ≡ 0
unfolding first_required
first_piston kind e = rw e

pub unread_rows : RowsUnread
unfolding device_rows
unread_rows rules cs ps fs p e =
    let c = component cs p in
    record {
      none = λ other k.
          sym (row_of rules c k) ∙ ap (λ (n : ℕ). leb (first_required c.kind) k && ltb k (first_required c.kind + n)) (count_unread rules c e other)
          ∙ nothing (first_required c.kind) k;
      no_rows = λ other.
          port_rows_lem rules cs ps fs p
          ∙ ap (λ (n : ℕ). device_rows c.id (first_required c.kind) (status_of rules cs ps fs p) n) (count_unread rules c e other);
      four_rows = λ piston.
          port_rows_lem rules cs ps fs p
          ∙ ap (λ (n : ℕ). device_rows c.id (first_required c.kind) (status_of rules cs ps fs p) n) (count_piston rules c.kind c.facing piston)
          ∙ ap (λ (first : ℕ). device_rows c.id first (status_of rules cs ps fs p) 4) (first_piston c.kind piston);
    }

pub same_but_inferred : SameButInferred
same_but_inferred a b cs ps fs = record {
  sources =
      sym (append-nil (driving_rows (source_rows a cs ps fs)))
      ∙ driving_all cs fs a ps ∙ sym (driving_all cs fs b ps)
      ∙ append-nil (driving_rows (source_rows b cs ps fs));
  driven = λ p port. (zero_same a b cs ps fs p port, zero_same b a cs ps fs p port);
  disconnected = λ p port. (two_same a b cs ps fs p port, two_same b a cs ps fs p port);
  rows = rows_alike a b;
}
