-- The input query: the port asked for, its immediate sources and the inferred inputs.
--     slot_ordered, slot_cut, ..     the keys of a slot, which stand between two places of the table
--     Flagged, flagged-..            the flags of a slot's keys, by the keys passed so far
--     immediate_is                   a slot's keys are the immediate sources of its port
--     both_flags                     the flags of the nodes reached that are inferred
--     fed_scene                      what the ports of a scene are asked by
--     slot_asked, immediate_at       what `SlotOf` says of the table of fed ports
--     none_fed, immediate_set, ..    the two sets of the port, by a walk
--     row_place_lem, row_found, ..       the place of the port asked for
--     row_slot                       that port by its slot
--     inputs_found                   the answer, by what was found
-- Assumes nothing.
use Rattle.lists.specs.declared.Fault.{Fault}
use Rattle.std.specs.Prelude.{Option, Some, None, Result}
use Rattle.lists.specs.declared.Refusal.{Refusal}
use mathlib.Core.Path.{◌≡◌, refl, sym, ap, subst, ◌∙◌}
use mathlib.Core.Bool.{Bool, true, false, cond, ◌&&◌, ◌||◌}
use mathlib.Core.List.{List}
use mathlib.Core.Logic.{⊎_elim}
use Prim.Native.Nat.{ℕ, zero, suc, ◌+◌, ◌-◌, ◌*◌, ◌%◌, ◌^◌, ◌≤◌, ◌<◌}
use native.Mathlib.Nat.{eq-or-lt_of_le}
use native.Mathlib.Omega.{arith}
use lib.Dec.{eqb, ltb}
use lib.ListN.{length, get_or, set, replicate, take, drop}
use lib.Seq.{ext_get_or}
use lib.IntN.{ℤ}
use borrow.Author.Tests.{eqb-true, eq-eqb, ltb-true}
use Rattle.std.proofs.lemmas.Grind.{common_steps}
use Rattle.tables.specs.Order.{Ascending, LowerBound, member}
use Rattle.tables.specs.Laws.{order?, at_member, member_at}
use Rattle.tables.specs.Pairs.{pair, span}
use Rattle.sets.specs.Members.{SetOf}
use Rattle.lists.specs.Limits.{component_limit}
use Rattle.lists.specs.Records.{component, port_connection, component_count, port_count}
use Rattle.lists.specs.First.{is_found, tabulate}
use Rattle.lists.specs.Ids.{place_below, place_of, smaller_ids, member_of, first_end_missing}
use Rattle.lists.specs.Within.{Components, PortConnections}
use Rattle.checks.specs.Refusals.{refuse, too_short}
use Rattle.lists.proofs.Search.{never, both, or_true, found_at}
use Rattle.lists.proofs.Members.{member_below}
use Rattle.lists.proofs.Fields.{first_most}
use Rattle.faces.specs.Ports.{ports_of}
use Rattle.faces.proofs.Sound.{ports_few}
use Rattle.regions.specs.Graph.{Edges, marked, flip}
use Rattle.graph.specs.Rows.{edges_of}
use Rattle.graph.proofs.Rows.{edges_are}
use Rattle.regions.specs.Kosaraju.{reached}
use Rattle.regions.proofs.Theorems.{reach_laws}
use Rattle.signals.specs.Signals.{is_signal, source_member, sink_member, signals}
use Rattle.signals.specs.Drive.{members_where}
use Rattle.assessment.specs.Verdicts.{is_required, has_row}
use Rattle.lists.specs.Ends.{Settled}
use Rattle.signals.specs.Keys.{Slots, KeysOf, slot, ports}
use Rattle.signals.specs.Flags.{Flags}
use Rattle.liveness.specs.Sets.{SetWhere}
use Rattle.assessment.specs.Rows.{SlotWithin}
use Rattle.inputs.specs.Query.{is_immediate, upstream, is_inferred_for, with_row, row_place, PortSets, InputsBy}
use Rattle.liveness.specs.Scene.{Accepted}
use Rattle.signals.specs.Stages.{FedTable}
use Rattle.inputs.specs.Inputs.{FedScene, SlotOf, SlotKeys, Walkable, UpstreamSet}
use Rattle.inputs.specs.declared.InputSources.{InputSources}
use Rattle.signals.proofs.Tabulated.{first_cong, tabulated_length, tabulated_at}
use Rattle.signals.proofs.Ends.{sink_is}
use Rattle.signals.proofs.Graph.{no_slot, fed_at}
use mathlib.Core.Bool.{and_assoc}
use Rattle.signals.proofs.Marks.{set_marked}
use Rattle.assessment.proofs.Fed.{outside}
use Rattle.signals.proofs.Tested.{same_truth}
use Rattle.assessment.proofs.Statuses.{fed_within}
use Rattle.liveness.proofs.Answers.{set_where, set_same, set_below}

-- ---- the keys of a slot

-- the part of a list between two places
pub cut_at : (keys : List ℕ) (a b i : ℕ) → b ≤ length keys → i < b - a → get_or (take (b - a) (drop a keys)) i 0 ≡ get_or keys (a + i) 0
cut_at keys a b i h l = grind (arith, common_steps)

pub cut_long : (keys : List ℕ) (a b : ℕ) → b ≤ length keys → length (take (b - a) (drop a keys)) ≡ b - a
cut_long keys a b h = grind (arith, common_steps)

-- where the keys of a slot begin and those past them, all its keys stand between
module _ {keys : List ℕ} (slot : ℕ) {first past : ℕ} (rising : Ascending keys) (low : LowerBound keys (slot * span) first)
    (high : LowerBound keys (slot * span + span) past) where
  pub slot_ordered : first ≤ past
  slot_ordered = ⊎_elim (λ (l : first ≤ past). l)
      (λ (l : past < first). absurd (let w = low.before rising past l in let u = high.from rising past (omega arith) (omega (arith, low.within)) in omega arith))
      (order? first past)

  pub slot_cut : SlotKeys keys slot (take (past - first) (drop first keys))
  slot_cut = record {
    held = λ i h.
        let l : i < past - first = omega (arith, cut_long keys first past high.within) in
        let inside : first + i < length keys = omega (arith, high.within) in
        let least = low.from rising (first + i) (omega arith) inside in
        let most = high.before rising (first + i) (omega arith) in
        let is = cut_at keys first past i high.within l in
        (first + i, inside, sym is, omega (arith, is, least, most));
    all = λ a h e.
        let (k, inside, is) = member_at (pair slot a) keys e in
        let (after, before) = outside keys slot rising low past slot_ordered
        (λ l q. absurd (let w = high.from rising past (omega arith) l in omega arith)) k inside (omega (arith, is)) in
        let l : k - first < past - first = omega arith in
        let same : first + (k - first) ≡ k = omega arith in (
          k - first,
          omega (arith, cut_long keys first past high.within),
          omega (arith, cut_at keys first past (k - first) high.within l, ap (λ (j : ℕ). get_or keys j 0) same, is),
        );
  }

-- a key of the slot is one of its pairs
pub slot_held : {keys cut : List ℕ} {slot : ℕ} → SlotKeys keys slot cut → (i : ℕ) → i < length cut → member (pair slot (get_or cut i 0 % span)) keys ≡ true
slot_held {keys} {cut} {slot} s i h = let (k, l, is, e) = s.held i h in at_member (pair slot (get_or cut i 0 % span)) keys k l (omega (arith, is, e))

pub slot_small : {keys cut : List ℕ} {slot m : ℕ} → SlotKeys keys slot cut → SlotWithin keys slot m → (i : ℕ) → i < length cut → get_or cut i 0 % span < m
slot_small s w i h = let (k, l, is, e) = s.held i h in rw is at (w.below k l (rw is e))

-- each key passed is flagged, and each flag is that of a key
pub record Flagged (keys cut : List ℕ) (slot at : ℕ) (flags : List Bool) : Type 0 where
  pub seen : (k : ℕ) → k < at → marked flags (get_or cut k 0 % span) ≡ true
  pub held : (a : ℕ) → marked flags a ≡ true → member (pair slot a) keys ≡ true

pub flagged_none : (keys cut : List ℕ) (slot n : ℕ) → Flagged keys cut slot 0 (replicate n false)
flagged_none keys cut slot n = record { seen = λ k l. absurd (omega arith); held = λ a e. never (sym (dark n a) ∙ e) }
  where
    dark : (n a : ℕ) → marked (replicate n false) a ≡ false
    dark zero a = refl
    dark (suc n) zero = refl
    dark (suc n) (suc a) = dark n a

pub flagged_more : {keys cut : List ℕ} {slot at : ℕ} {flags : List Bool} → Flagged keys cut slot at flags → member (pair slot (get_or cut at 0 % span)) keys ≡ true
    → get_or cut at 0 % span < length flags → Flagged keys cut slot (at + 1) (set flags (get_or cut at 0 % span) true)
flagged_more {keys} {cut} {slot} {at} {flags} f h l =
    let one = get_or cut at 0 % span in
    let now : (a : ℕ) → marked (set flags one true) a ≡ (marked flags a || eqb one a) = λ a. set_marked flags one a l in
    record {
      seen = λ k m. ⊎_elim
          (λ (same : k ≡ at). now (get_or cut k 0 % span) ∙ ap (λ (t : Bool). marked flags (get_or cut k 0 % span) || t) (eq-eqb one (get_or cut k 0 % span) (ap (λ (j : ℕ). get_or cut j 0 % span) (sym same))) ∙ sym (or_true (marked flags (get_or cut k 0 % span))))
          (λ (less : k < at). now (get_or cut k 0 % span) ∙ rw (f.seen k less))
          (eq-or-lt_of_le (let w : k ≤ at = omega arith in w));
      held = λ a t. go a (marked flags a) refl (sym (now a) ∙ t);
    }
  where
    go : (a : ℕ) (t : Bool) → marked flags a ≡ t → (t || eqb (get_or cut at 0 % span) a) ≡ true → member (pair slot a) keys ≡ true
    go a true m t = f.held a m
    go a false m t = let same = eqb-true (get_or cut at 0 % span) a t in ap (λ (x : ℕ). member (pair slot x) keys) (sym same) ∙ h

-- past the last key of the slot the flags are those of its keys
pub flagged_all : {keys cut : List ℕ} {slot n : ℕ} {flags : List Bool} → SlotKeys keys slot cut → Flagged keys cut slot (length cut) flags
    → length flags ≡ n → n ≤ span → Flags n (λ a. member (pair slot a) keys) flags
flagged_all {keys} {cut} {slot} {n} {flags} s f long small = record {
  long = omega (arith, long);
  at = λ a h. same_truth (marked flags a) (member (pair slot a) keys) (f.held a) (λ e.
      let (i, l, is) = s.all a (omega arith) e in
      ap (marked flags) (sym is) ∙ f.seen i l);
}

-- ---- immediate sources

-- a test of the sink that holds of signals alone may be given otherwise
joined : (signal a b c d : Bool) → (signal ≡ true → a ≡ b) → (signal && (a && (c && d))) ≡ ((signal && (b && c)) && d)
joined true a b c d e = rw (e refl) (sym (and_assoc b c d))
joined false a b c d e = refl

module _ {cs ps : List ℤ} {sources sinks slots keys : List ℕ} (few : component_count cs ≤ component_limit) (w : PortConnections ps)
    (s : Settled cs ps 0 sources) (t : Settled cs ps 2 sinks) (u : Slots ps sinks slots) (table : KeysOf ps slots sources no_slot keys)
    (ends : first_end_missing cs ps ≡ None) (p port : ℕ) (h : p < component_count cs) (l : port < ports) where
  pub immediate_is : (a : ℕ) → a < span → member (pair (slot (member_of cs p) port) a) keys ≡ is_immediate cs ps p port a
  unfolding is_immediate
  immediate_is a m =
      sym (fed_at few w s t u table p port a h l m)
      ∙ ap is_found (first_cong _ _ 0 (port_count ps) (λ k x y.
      joined (is_signal ps k) (eqb (sink_member cs ps k) (member_of cs p)) (eqb (port_connection ps k).sink (component cs p).id)
      (eqb (port_connection ps k).sink_port_of port) (eqb (source_member cs ps k) a) (λ signal. sink_is cs ps ends k (omega arith) signal p h)))

-- ---- upstream

-- the flags of equal lists
pub both_flags : {n : ℕ} (inferred : List Bool) {visited visited' out : List Bool} → visited ≡ visited'
    → Flags n (λ a. marked visited a && marked inferred a) out → Flags n (λ a. marked visited' a && marked inferred a) out
both_flags {n} inferred {visited} {visited'} {out} e f = subst (λ (l : List Bool). Flags n (λ a. marked l a && marked inferred a) out) e f

-- ---- what the ports of a scene are asked by

pub fed_scene : {cs ps : List ℤ} {keys sources sinks fed : List ℕ} → Accepted cs ps keys sources sinks → FedTable ps sources sinks fed → FedScene cs ps fed
fed_scene {sources = sources} {sinks = sinks} accepted table = record {
  scene = accepted.scene;
  sources = sources;
  sinks = sinks;
  source_members = accepted.ends.source_members;
  sink_members = accepted.ends.sink_members;
  table = table;
}

pub flags_long : (cs : List ℤ) (P : ℕ → Bool) → length (members_where cs P) ≡ component_count cs
unfolding members_where
flags_long cs P = tabulated_length _ (component_count cs)

pub walk_nodes : {rules : ℕ} {cs ps fs : List ℤ} {fed ends next : List ℕ} {inferred : List Bool} → Walkable rules cs ps fs fed ends next inferred → length inferred ≡ component_count cs
walk_nodes {cs = cs} r = ap length r.inferred_are ∙ flags_long cs _

-- ---- a mark that there cannot be

not_marked : (t : Bool) → (t ≡ true → ⊥) → t ≡ false
not_marked true h = absurd (h refl)
not_marked false h = refl

-- ---- a port by its slot

module _ {cs ps : List ℤ} {p port : ℕ} {fed : List ℕ} {number : ℕ} (q : SlotOf cs ps p port fed number) where
  few : component_count cs ≤ component_limit
  few = q.fed_scene.scene.components.few

  slot_below : number < component_limit * ports
  slot_below = omega (arith, q.slot_is, q.port_small, member_below cs p q.place, few)

  pub slot_asked : (m : ℕ) → m ≡ component_count cs → (Ascending fed × (number < 2 ^ 32)) × (SlotWithin fed number m × (m ≤ span))
  slot_asked m e =
      let f = q.fed_scene in
      let within = fed_within few f.scene.connections f.source_members f.sink_members f.table.slots_are f.table.fed_keys f.scene.ends in (
        (f.table.fed_keys.sorted.ascending, omega (arith, slot_below)),
        (record { below = λ i h l. omega (arith, e, within.below i h (omega (arith, l, slot_below))) }, omega (arith, e, few)),
      )

  pub immediate_at : (a : ℕ) → a < span → member (pair number a) fed ≡ is_immediate cs ps p port a
  immediate_at a h =
      let f = q.fed_scene in
      ap (λ (x : ℕ). member (pair x a) fed) q.slot_is
      ∙ immediate_is few f.scene.connections f.source_members f.sink_members f.table.slots_are f.table.fed_keys f.scene.ends p port q.place q.port_small a h

-- ---- by a walk

module _ {rules : ℕ} {cs ps fs : List ℤ} {p port : ℕ} {fed ends next : List ℕ} {number : ℕ} {inferred : List Bool} (w : Walkable rules cs ps fs fed ends next inferred)
    (q : SlotOf cs ps p port fed number) where
  nodes : length inferred ≡ component_count cs
  nodes = walk_nodes w

  nodes_small : component_count cs ≤ component_limit
  nodes_small = q.fed_scene.scene.components.few

  -- ---- a slot that no key has

  module _ {cut : List ℕ} (keys : SlotKeys fed number cut) (none : length cut ≡ 0) where
    none_immediate : (a : ℕ) → a < component_count cs → is_immediate cs ps p port a ≡ false
    none_immediate a h =
        let small : a < span = omega (arith, nodes_small) in
        sym (immediate_at q a small) ∙ not_marked (member (pair number a) fed) (λ e. let (i, l, is) = keys.all a small e in absurd (omega (arith, l, none)))

    none_upstream : (a : ℕ) → marked (upstream cs ps p port) a ≡ false
    unfolding upstream
    none_upstream a =
        let n = component_count cs in
        let test = is_immediate cs ps p port in
        let starts = tabulate test n in
        not_marked (marked (reached n (flip (signals cs ps)) starts) a) (λ e.
        let (s, l, start, path) = ((reach_laws n (flip (signals cs ps)) w.turned.rows.within starts).exactly a).0 e in
        never (sym (sym start ∙ tabulated_at test false n s l ∙ none_immediate s l)))

    none_inferred : (a : ℕ) → is_inferred_for rules cs ps fs p port a ≡ false
    unfolding is_inferred_for
    none_inferred a = rw (none_upstream a)

    pub none_fed : {r : InputSources} → PortSets rules cs ps fs None port r → PortSets rules cs ps fs (Some p) port r
    none_fed a = record {
      immediate_set = set_below refl (λ k h. sym (none_immediate k h)) a.immediate_set;
      inferred_set = set_below refl (λ k h. sym (none_inferred k)) a.inferred_set;
    }

  module _ {starts : List Bool} (long : length starts ≡ length inferred) (flags : Flags (length inferred) (λ a. member (pair number a) fed) starts) where
    starts_are : starts ≡ tabulate (is_immediate cs ps p port) (component_count cs)
    starts_are =
        let n = component_count cs in
        let test = is_immediate cs ps p port in
        ext_get_or false starts (tabulate test n) (long ∙ nodes ∙ sym (tabulated_length test n)) (λ a h.
        flags.at a (omega (arith, long)) ∙ immediate_at q a (omega (arith, long, nodes, nodes_small)) ∙ sym (tabulated_at test false n a (omega (arith, long, nodes))))

    pub immediate_set : {lent : List Bool} {words : List ℕ} → lent ≡ starts → SetOf (length inferred) lent words → SetWhere (component_count cs) (is_immediate cs ps p port) words
    immediate_set {lent} {words} e s =
        let all : Flags (length inferred) (is_immediate cs ps p port) lent = record {
          long = omega (arith, ap length e, long);
          at = λ a h. ap (λ (l : List Bool). marked l a) e ∙ flags.at a h ∙ immediate_at q a (omega (arith, nodes, nodes_small));
        } in
        set_same nodes (λ k. refl) (set_where (omega arith) s all)

    reached_are : reached (length inferred) (edges_of ends next) starts ≡ upstream cs ps p port
    unfolding upstream
    reached_are =
        let n = component_count cs in
        ap (λ (k : ℕ). reached k (edges_of ends next) starts) nodes
        ∙ ap (λ (g : Edges). reached n g starts) (edges_are w.turned.rows)
        ∙ ap (reached n (flip (signals cs ps))) starts_are

    pub inferred_set : {lent : List Bool} {stack words : List ℕ} → lent ≡ starts
        → UpstreamSet (length inferred) (edges_of ends next) lent inferred stack words → SetWhere (component_count cs) (is_inferred_for rules cs ps fs p port) words
    unfolding is_inferred_for
    inferred_set e u =
        let n = length inferred in
        set_same nodes (λ k.
        ap (λ (l : List Bool). marked (reached n (edges_of ends next) l) k && marked inferred k) e
        ∙ ap (λ (l : List Bool). marked l k && marked inferred k) reached_are
        ∙ ap (λ (l : List Bool). marked (upstream cs ps p port) k && marked l k) w.inferred_are) u.set

-- ---- the port asked for

pub row_place_lem : (rules : ℕ) (cs : List ℤ) (id port : ℕ) {found : Option ℕ} → place_of cs id ≡ found
    → row_place rules cs id port ≡ with_row rules cs port found
unfolding row_place
row_place_lem rules cs id port e = ap (with_row rules cs port) e

pub place_below_lem : (cs : List ℤ) (id : ℕ) {p : ℕ} → place_of cs id ≡ Some p → p < component_count cs
unfolding place_below
place_below_lem cs id {p} e = let f = found_at (λ k. eqb (component cs k).id id) 0 (component_count cs) p e in omega (arith, f.below)

pub place_id : (cs : List ℤ) (id : ℕ) {p : ℕ} → place_of cs id ≡ Some p → (component cs p).id ≡ id
unfolding place_below
place_id cs id {p} e = eqb-true (component cs p).id id (found_at (λ k. eqb (component cs k).id id) 0 (component_count cs) p e).passes

-- the component at p has the id, and the port is one of its own
pub record RowAt (cs : List ℤ) (id port p : ℕ) : Type 0 where
  pub below : p < component_count cs
  pub port_small : port < ports
  pub id_is : (component cs p).id ≡ id

pub row_found : (rules : ℕ) (cs : List ℤ) (id port : ℕ) {p : ℕ} → row_place rules cs id port ≡ Some p → RowAt cs id port p
unfolding row_place
row_found rules cs id port {p} e = go (place_of cs id) refl e
  where
    at : (q : ℕ) (t : Bool) → cond t (Some q) None ≡ Some p → (t ≡ true) × (q ≡ p)
    at q true f = (refl, cc)
    at q false f = let z : ◌≡◌ {A = ℕ} 0 1 = cc in absurd (omega arith)

    go : (found : Option ℕ) → place_of cs id ≡ found → with_row rules cs port found ≡ Some p → RowAt cs id port p
    go (Some q) f g =
        let c = component cs q in
        let is = at q (has_row rules c port) g in
        let small = ltb-true port (length (ports_of rules c)) (both (ltb port (length (ports_of rules c))) (is_required rules c port) is.0).0 in
        record {
          below = omega (arith, is.1, place_below_lem cs id f);
          port_small = omega (arith, small, ports_few rules c.kind c.facing c.support c.conducts);
          id_is = ap (λ (k : ℕ). (component cs k).id) (sym is.1) ∙ place_id cs id f;
        }
    go None f g = let z : ◌≡◌ {A = ℕ} 0 1 = cc in absurd (omega arith)

module _ {cs : List ℤ} (w : Components cs) where
  pub id_small : (p : ℕ) → p < component_count cs → (component cs p).id < 4294967296
  id_small p h = omega (arith, first_most w p h (omega arith) 4294967295 refl refl)

  pub row_id_small : {id port p : ℕ} → RowAt cs id port p → id < 4294967296
  row_id_small {p = p} row = omega (arith, row.id_is, id_small p row.below)

  pub row_member_small : {id port p : ℕ} → RowAt cs id port p → smaller_ids cs id < component_limit
  row_member_small {p = p} row = omega (arith, ap (smaller_ids cs) row.id_is, member_below cs p row.below, w.few)

-- the port asked for by its slot
pub row_slot : {cs ps : List ℤ} {fed : List ℕ} {id port p m : ℕ} → FedScene cs ps fed → RowAt cs id port p → m ≡ smaller_ids cs id → SlotOf cs ps p port fed (slot m port)
row_slot {cs} {port = port} f row e = record {
  fed_scene = f;
  place = row.below;
  port_small = row.port_small;
  slot_is = ap (λ (x : ℕ). slot x port) (e ∙ sym (ap (smaller_ids cs) row.id_is));
}

-- ---- the answer

module _ {rules : ℕ} {cs ps fs : List ℤ} {port : ℕ} {stack stack' : List ℕ} {r : Result InputSources Refusal} where
  -- by what was found, with 8 where nothing was
  pub inputs_found : (id : ℕ) {found : Option ℕ} → row_place rules cs id port ≡ found → InputsBy (refuse Fault.NoVerdictRow None (too_short (is_found found))) rules cs ps fs found port stack stack' r
      → InputsBy (refuse Fault.NoVerdictRow None (too_short (is_found (row_place rules cs id port)))) rules cs ps fs (row_place rules cs id port) port stack stack' r
  inputs_found id e a = subst (λ (f : Option ℕ). InputsBy (refuse Fault.NoVerdictRow None (too_short (is_found f))) rules cs ps fs f port stack stack' r) (sym e) a
