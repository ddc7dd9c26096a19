-- The ports of a scene, asked by the table of what is upstream of each region.
--     Sought, sought-..        the two sets by the keys of a slot passed so far
--     slot_sets                those of all its keys, as an answer
--     rows_as, ..              the table, by equal arrays
--     port_sets                they are the sets of the slot's port
-- Assumes nothing.
use Rattle.std.specs.Prelude.{Option, Some}
use mathlib.Core.Path.{◌≡◌, refl, sym, ap, subst, ◌∙◌}
use mathlib.Core.Bool.{Bool, true, false, ◌&&◌, ◌||◌, or-true}
use mathlib.Core.List.{List}
use mathlib.Core.Logic.{⊎_elim}
use Prim.Native.Nat.{ℕ, ◌+◌, ◌%◌, ◌≤◌, ◌<◌}
use native.Mathlib.Nat.{eq-or-lt_of_le}
use native.Mathlib.Omega.{arith}
use lib.Dec.{ltb}
use lib.ListN.{length, get_or}
use lib.IntN.{ℤ}
use borrow.Author.Tests.{ltb-true, lt-ltb}
use Rattle.tables.specs.Order.{member}
use Rattle.tables.specs.Laws.{same?}
use Rattle.tables.specs.Pairs.{pair, span}
use Rattle.sets.specs.declared.ComponentSet.{ComponentSet}
use Rattle.sets.specs.Members.{member_of, Inserted}
use Rattle.lists.specs.Limits.{component_limit}
use Rattle.lists.specs.Records.{component_count}
use Rattle.lists.specs.First.{tabulate}
use Rattle.lists.proofs.Search.{never, both}
use Rattle.regions.specs.Graph.{Edges, Reach, at, marked, flip}
use Rattle.regions.proofs.Theorems.{reach_laws}
use Rattle.regions.proofs.Laws.Walks.{Reach·flip}
use Rattle.signals.specs.Signals.{signals}
use Rattle.signals.specs.Regions.{labels, is_inferred}
use Rattle.signals.specs.Drive.{members_where}
use Rattle.signals.specs.Flags.{Indices}
use Rattle.assessment.specs.Upstream.{in_row, UpstreamRows}
use Rattle.signals.proofs.Tabulated.{tabulated_at}
use Rattle.lists.proofs.Some.{and_true}
use Rattle.signals.proofs.Tested.{same_truth}
use Rattle.signals.proofs.Within.{signals_within, labels_count, labels_under}
use Rattle.liveness.specs.Sets.{SetWhere}
use Rattle.inputs.specs.Query.{is_immediate, upstream, is_inferred_for, row_place, PortSets}
use Rattle.inputs.specs.Inputs.{SlotOf, SlotKeys, Ready, SlotSets}
use Rattle.inputs.specs.declared.InputSources.{InputSources}
use Rattle.liveness.proofs.Answers.{set_below}
use Rattle.inputs.proofs.Inputs.{immediate_at}

-- ---- the keys of a slot

-- each key passed is in the one set, and its row in the other; what is in the sets comes from keys of the slot
pub record Sought (keys cut : List ℕ) (number : ℕ) (labelled : List ℕ) (rows : List ComponentSet) (place : ℕ) (immediate inferred : List ℕ) : Type 0 where
  pub seen : (i : ℕ) → i < place → member_of immediate (get_or cut i 0 % span) ≡ true
  pub held : (a : ℕ) → member_of immediate a ≡ true → (a < length labelled) × (member (pair number a) keys ≡ true)
  pub rows_seen : (i k : ℕ) → i < place → in_row rows (at labelled (get_or cut i 0 % span)) k ≡ true → member_of inferred k ≡ true
  pub rows_held : (k : ℕ) → member_of inferred k ≡ true
      → (a : ℕ) × (a < length labelled) × (member (pair number a) keys ≡ true) × (in_row rows (at labelled a) k ≡ true)

module _ (keys cut : List ℕ) (number : ℕ) (labelled : List ℕ) (rows : List ComponentSet) where
  pub sought_none : {immediate inferred : List ℕ} → ((k : ℕ) → member_of immediate k ≡ false) → ((k : ℕ) → member_of inferred k ≡ false)
      → Sought keys cut number labelled rows 0 immediate inferred
  sought_none f g = record {
    seen = λ i l. absurd (omega arith);
    held = λ a e. never (sym (f a) ∙ e);
    rows_seen = λ i k l. absurd (omega arith);
    rows_held = λ k e. never (sym (g k) ∙ e);
  }

  -- one key more
  module _ {place : ℕ} {immediate inferred : List ℕ} (s : Sought keys cut number labelled rows place immediate inferred)
      (h : member (pair number (get_or cut place 0 % span)) keys ≡ true) (l : get_or cut place 0 % span < length labelled) where
    abbrev source : ℕ
    source = get_or cut place 0 % span

    module _ {immediate' : List ℕ} (inferred' : List ℕ) (put : Inserted immediate source immediate')
        (joined : (k : ℕ) → member_of inferred' k ≡ (member_of inferred k || in_row rows (at labelled source) k)) where
      stays : (a : ℕ) → member_of immediate a ≡ true → member_of immediate' a ≡ true
      stays a t = ⊎_elim (λ (q : a ≡ source). ap (member_of immediate') q ∙ put.there) (λ (n : a ≡ source → ⊥). put.others a n ∙ t) (same? a source)

      came : (a : ℕ) → member_of immediate' a ≡ true → (a < length labelled) × (member (pair number a) keys ≡ true)
      came a t =
          ⊎_elim
          (λ (q : a ≡ source). (omega (arith, q), ap (λ (x : ℕ). member (pair number x) keys) q ∙ h))
          (λ (n : a ≡ source → ⊥). s.held a (sym (put.others a n) ∙ t))
          (same? a source)

      rows_stay : (k : ℕ) → member_of inferred k ≡ true → member_of inferred' k ≡ true
      rows_stay k t = joined k ∙ rw t

      row_new : (k : ℕ) → in_row rows (at labelled source) k ≡ true → member_of inferred' k ≡ true
      row_new k t = joined k ∙ rw t (or-true (member_of inferred k))

      rows_came : (k : ℕ) → member_of inferred' k ≡ true
          → (a : ℕ) × (a < length labelled) × (member (pair number a) keys ≡ true) × (in_row rows (at labelled a) k ≡ true)
      rows_came k t = go (member_of inferred k) refl (sym (joined k) ∙ t)
        where
          go : (b : Bool) → member_of inferred k ≡ b → (b || in_row rows (at labelled source) k) ≡ true
              → (a : ℕ) × (a < length labelled) × (member (pair number a) keys ≡ true) × (in_row rows (at labelled a) k ≡ true)
          go true p q = s.rows_held k p
          go false p q = (source, l, h, q)

      pub sought_more : Sought keys cut number labelled rows (place + 1) immediate' inferred'
      sought_more = record {
        seen = λ i m. ⊎_elim
            (λ (q : i ≡ place). ap (λ (x : ℕ). member_of immediate' (get_or cut x 0 % span)) q ∙ put.there)
            (λ (less : i < place). stays (get_or cut i 0 % span) (s.seen i less))
            (eq-or-lt_of_le (let w : i ≤ place = omega arith in w));
        held = came;
        rows_seen = λ i k m t. ⊎_elim
            (λ (q : i ≡ place). row_new k (ap (λ (x : ℕ). in_row rows (at labelled (get_or cut x 0 % span)) k) (sym q) ∙ t))
            (λ (less : i < place). rows_stay k (s.rows_seen i k less t))
            (eq-or-lt_of_le (let w : i ≤ place = omega arith in w));
        rows_held = rows_came;
      }

-- past the last key of the slot
module _ {keys cut : List ℕ} {number : ℕ} {labelled : List ℕ} {rows : List ComponentSet} {immediate inferred : List ℕ} (slot : SlotKeys keys number cut)
    (few : length labelled ≤ component_limit) (s : Sought keys cut number labelled rows (length cut) immediate inferred) where
  -- a node that feeds the slot was passed
  passed : (a : ℕ) → a < length labelled → member (pair number a) keys ≡ true → (i : ℕ) × (i < length cut) × (get_or cut i 0 % span ≡ a)
  passed a h e = slot.all a (omega (arith, few)) e

  pub slot_sets : {r : InputSources} → r.immediate.words ≡ immediate → r.inferred.words ≡ inferred
      → SlotSets keys number labelled rows r
  slot_sets {r} p q = record {
    immediate = record {
      member = λ k. ap (λ (w : List ℕ). member_of w k) p
          ∙ same_truth (member_of immediate k) (ltb k (length labelled) && member (pair number k) keys)
          (λ t. let h = s.held k t in and_true (ltb k (length labelled)) (member (pair number k) keys) (lt-ltb k (length labelled) h.0) h.1)
          (λ t.
          let parts = both (ltb k (length labelled)) (member (pair number k) keys) t in
          let f = passed k (ltb-true k (length labelled) parts.0) parts.1 in
          ap (member_of immediate) (sym f.2) ∙ s.seen f.0 f.1);
    };
    from = λ k t. s.rows_held k (sym (ap (λ (w : List ℕ). member_of w k) q) ∙ t);
    all = λ a k h m t.
        let f = passed a h m in
        ap (λ (w : List ℕ). member_of w k) q ∙ s.rows_seen f.0 k f.1 (ap (λ (x : ℕ). in_row rows (at labelled x) k) f.2 ∙ t);
  }

-- ---- the table of a prepared scene

-- the same of equal arrays
pub rows_as : {n n' : ℕ} {edge edge' : Edges} {flags flags' : List Bool} {rows : List ComponentSet} → n ≡ n' → edge ≡ edge' → flags ≡ flags'
    → UpstreamRows n edge flags rows → UpstreamRows n' edge' flags' rows
rows_as a b c u = rw (← a, ← b, ← c) u

pub ready_as : {rules : ℕ} {cs ps fs : List ℤ} {fed labelled fed' labelled' : List ℕ} {rows : List ComponentSet} → fed' ≡ fed → labelled' ≡ labelled → Ready rules cs ps fs fed labelled rows → Ready rules cs ps fs fed' labelled' rows
ready_as a b r = rw (a, b) r

pub ready_nodes : {rules : ℕ} {cs ps fs : List ℤ} {fed labelled : List ℕ} {rows : List ComponentSet} → Ready rules cs ps fs fed labelled rows → length labelled ≡ component_count cs
ready_nodes {cs = cs} {ps = ps} r = ap length r.labels_are ∙ labels_count cs ps r.fed_scene.scene.ends

pub ready_labels : {rules : ℕ} {cs ps fs : List ℤ} {fed labelled : List ℕ} {rows : List ComponentSet} → Ready rules cs ps fs fed labelled rows → Indices (length labelled) component_limit labelled
ready_labels {cs = cs} {ps = ps} r =
    subst (λ (l : List ℕ). Indices (length l) component_limit l) (sym r.labels_are)
    (labels_under cs ps r.fed_scene.scene.ends component_limit r.fed_scene.scene.components.few)

-- ---- the port of the slot

module _ {rules : ℕ} {cs ps fs : List ℤ} {p port : ℕ} {fed labelled : List ℕ} {rows : List ComponentSet} {number : ℕ} {r : InputSources} (ready : Ready rules cs ps fs fed labelled rows)
    (q : SlotOf cs ps p port fed number) (s : SlotSets fed number labelled rows r) where
  abbrev n : ℕ
  n = component_count cs

  abbrev label : ℕ → ℕ
  label a = at (labels cs ps) a

  abbrev flags : List Bool
  flags = members_where cs (is_inferred rules cs ps fs)

  few : n ≤ component_limit
  few = q.fed_scene.scene.components.few

  count : length (labels cs ps) ≡ n
  count = labels_count cs ps q.fed_scene.scene.ends

  long : length labelled ≡ n
  long = ready_nodes ready

  immediate : SetWhere n (is_immediate cs ps p port) r.immediate.words
  immediate = set_below long (λ k h. immediate_at q k (omega (arith, few))) s.immediate

  starts_at : (a : ℕ) → a < n → marked (tabulate (is_immediate cs ps p port) n) a ≡ is_immediate cs ps p port a
  starts_at a h = tabulated_at (is_immediate cs ps p port) false n a h

  -- an immediate source is reached from k exactly if k is upstream
  above : (k : ℕ) (a : ℕ) → a < n → is_immediate cs ps p port a ≡ true → Reach (signals cs ps) k a → marked (upstream cs ps p port) k ≡ true
  unfolding upstream
  above k a h e path =
      let back = reach_laws n (flip (signals cs ps)) (λ x y t. let w = signals_within cs ps q.fed_scene.scene.ends y x t in (w.1, w.0)) (tabulate (is_immediate cs ps p port) n) in
      (back.exactly k).1 (a, h, starts_at a h ∙ e, Reach·flip {edge = flip (signals cs ps)} path)

  below : (k : ℕ) → marked (upstream cs ps p port) k ≡ true → (a : ℕ) × (a < n) × (is_immediate cs ps p port a ≡ true) × Reach (signals cs ps) k a
  unfolding upstream
  below k t =
      let back = reach_laws n (flip (signals cs ps)) (λ x y t. let w = signals_within cs ps q.fed_scene.scene.ends y x t in (w.1, w.0)) (tabulate (is_immediate cs ps p port) n) in
      let (a, h, e, path) = (back.exactly k).0 t in
      (a, h, sym (starts_at a h) ∙ e, Reach·flip path)

  row_at : (a k : ℕ) → in_row rows (at labelled a) k ≡ in_row rows (label a) k
  row_at a k = ap (λ (l : List ℕ). in_row rows (at l a) k) ready.labels_are

  there : (k : ℕ) → member_of r.inferred.words k ≡ true → (ltb k n && is_inferred_for rules cs ps fs p port k) ≡ true
  unfolding is_inferred_for
  there k t =
      let (a, h, m, row) = s.from k t in
      let node : a < n = omega (arith, h, long) in
      let (small, flag, path) = (ready.rows.exactly a k node).0 (sym (row_at a k) ∙ row) in
      let up = above k a node (sym (immediate_at q a (omega (arith, node, few))) ∙ m) path in
      and_true (ltb k n) (marked (upstream cs ps p port) k && marked flags k) (lt-ltb k n small) (and_true (marked (upstream cs ps p port) k) (marked flags k) up flag)

  back : (k : ℕ) → (ltb k n && is_inferred_for rules cs ps fs p port k) ≡ true → member_of r.inferred.words k ≡ true
  unfolding is_inferred_for
  back k t =
      let parts = both (ltb k n) (marked (upstream cs ps p port) k && marked flags k) t in
      let small = ltb-true k n parts.0 in
      let marks = both (marked (upstream cs ps p port) k) (marked flags k) parts.1 in
      let (a, h, e, path) = below k marks.0 in
      s.all a k (omega (arith, h, long)) (immediate_at q a (omega (arith, h, few)) ∙ e)
      (row_at a k ∙ (ready.rows.exactly a k h).1 (small, marks.1, path))

  inferred : SetWhere n (is_inferred_for rules cs ps fs p port) r.inferred.words
  inferred = record { member = λ k. same_truth (member_of r.inferred.words k) (ltb k n && is_inferred_for rules cs ps fs p port k) (there k) (back k) }

  pub port_sets : PortSets rules cs ps fs (Some p) port r
  port_sets = record { immediate_set = immediate; inferred_set = inferred }

-- by what was found
pub sets_at : {rules : ℕ} {cs ps fs : List ℤ} (id : ℕ) {port : ℕ} {found : Option ℕ} {r : InputSources} → row_place rules cs id port ≡ found → PortSets rules cs ps fs found port r
    → PortSets rules cs ps fs (row_place rules cs id port) port r
sets_at {rules} {cs} {ps} {fs} id {port} {r = r} e s = subst (λ (f : Option ℕ). PortSets rules cs ps fs f port r) (sym e) s
