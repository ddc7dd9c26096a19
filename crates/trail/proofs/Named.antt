-- The members of an accepted scene and their ids: the trails of a port by members are those by ids, renamed.
-- Assumes nothing.
use Rattle.std.specs.Prelude.{Option, Some, None}
use Prim.Native.Nat.{ℕ, ◌≤◌, ◌<◌}
use mathlib.Core.Path.{◌≡◌, refl, sym, ap, ◌∙◌, subst}
use mathlib.Core.Bool.{Bool, true, false, ◌&&◌, false≢true}
use mathlib.Core.List.{List, [], ◌∷◌}
use mathlib.Core.Logic.{⊎_elim}
use native.Mathlib.Omega.{arith}
use borrow.Author.Tests.{eqb-true, eq-eqb, ne_eqb, ltb-true, lt-ltb}
use lib.Dec.{eqb, ltb}
use lib.ListN.{length}
use lib.IntN.{ℤ}
use Rattle.tables.specs.Order.{All}
use Rattle.tables.specs.Laws.{order?}
use Rattle.lists.specs.Records.{component, port_connection, component_count, port_count}
use Rattle.lists.specs.First.{first_from, is_found, some, tabulate}
use Rattle.lists.specs.Ids.{place_below, place_of, has_component, IdTable, smaller_ids, member_of, first_repeated}
use Rattle.lists.proofs.Search.{first_is}
use Rattle.lists.proofs.Some.{some_at, some_found}
use Rattle.lists.proofs.Table.{table_long}
use Rattle.lists.proofs.Members.{count_mono, ids_distinct, member_inj, member_below, member_key, member_id_lem}
use Rattle.regions.specs.Graph.{marked}
use Rattle.signals.specs.Signals.{is_signal, source_member, sink_member, signals}
use Rattle.signals.specs.Sources.{is_drive}
use Rattle.signals.specs.Drive.{members_where}
use Rattle.signals.proofs.Ends.{members_small, found_place, found_below, ends_below}
use Rattle.signals.proofs.Within.{signal_at}
use Rattle.signals.proofs.Tabulated.{tabulated_length, tabulated_at}
use Rattle.assessment.specs.Verdicts.{feeds_port}
use Rattle.liveness.specs.Scene.{Scene}
use Rattle.inputs.specs.Query.{is_immediate}
use Rattle.inputs.proofs.Inputs.{place_below_lem, place_id}
use Rattle.trail.specs.Trail.{onward, trail}
use Rattle.inputs.specs.Port.{drive_sources, immediate_sources}
use Rattle.trail.specs.Port.{drive_at, is_drive_id, carries, feeds_next, feeds_into}
use Rattle.trail.specs.Scene.{id_of}
use Rattle.lists.proofs.Search.{both}
use Rattle.lists.proofs.Some.{and_true}
use Rattle.inputs.proofs.Status.{marked_below}
use Rattle.trail.proofs.Renamed.{Finds, Renaming}

-- ---- flags

-- a flag of a list of a function's values
pub tabulated_true : (f : ℕ → Bool) (n a : ℕ) → marked (tabulate f n) a ≡ true → (a < n) × (f a ≡ true)
tabulated_true f n a e =
    let lt : a < n = omega (arith, marked_below (tabulate f n) a e, tabulated_length f n) in
    (lt, sym (tabulated_at f false n a lt) ∙ e)

-- how many ids are below an id rises with it
smaller_mono : (cs : List ℤ) (a b : ℕ) → a ≤ b → smaller_ids cs a ≤ smaller_ids cs b
unfolding smaller_ids
smaller_mono cs a b h =
    count_mono (λ k. ltb (component cs k).id a) (λ k. ltb (component cs k).id b) (component_count cs)
    (λ i l e. lt-ltb (component cs i).id b (omega (arith, ltb-true (component cs i).id a e)))

module _ (cs ps fs : List ℤ) (scene : Scene cs ps) where
  -- ---- from ids to members

  place_is : (p : ℕ) → p < component_count cs → place_of cs (component cs p).id ≡ Some p
  unfolding place_below
  place_is p h =
      first_is (λ k. eqb (component cs k).id (component cs p).id) 0 (component_count cs) p (omega arith) (omega arith)
      (eq-eqb (component cs p).id (component cs p).id refl)
      (λ j a b. ne_eqb (component cs j).id (component cs p).id (λ e. let same = ids_distinct cs scene.distinct j p (omega arith) h e in omega arith))

  drive_found : (x : ℕ) → is_drive_id cs fs x ≡ true → (p : ℕ) × (place_of cs x ≡ Some p) × (is_drive cs fs p ≡ true)
  unfolding is_drive_id
  drive_found x e = go (place_of cs x) refl e
    where
      go : (found : Option ℕ) → place_of cs x ≡ found → drive_at cs fs found ≡ true → (p : ℕ) × (place_of cs x ≡ Some p) × (is_drive cs fs p ≡ true)
      go (Some p) q d = (p, q, d)
      go None q d = absurd (false≢true d)

  drive_has : (x : ℕ) → is_drive_id cs fs x ≡ true → has_component cs x ≡ true
  drive_has x e = ap is_found (drive_found x e).1

  drive_from : (x : ℕ) → is_drive_id cs fs x ≡ true → marked (drive_sources cs fs) (smaller_ids cs x) ≡ true
  unfolding members_where
  drive_from x e =
      let d = drive_found x e in
      let p = d.0 in
      let test : ℕ → ℕ → Bool = λ m p. is_drive cs fs p && eqb (member_of cs p) m in
      tabulated_at (λ m. some (test m) (component_count cs)) false (component_count cs) (smaller_ids cs x) (found_below cs x (drive_has x e))
      ∙ some_at (test (smaller_ids cs x)) (component_count cs) p (place_below_lem cs x d.1)
      (and_true _ _ d.2 (eq-eqb (member_of cs p) (smaller_ids cs x) (ap (smaller_ids cs) (place_id cs x d.1))))

  -- a connection that carries a signal from one id to another
  carried : (x y k : ℕ) → carries ps x y k ≡ true → (is_signal ps k ≡ true) × ((port_connection ps k).source ≡ x) × ((port_connection ps k).sink ≡ y)
  carried x y k e =
      let b = both _ _ e in
      let c = both _ _ b.1 in
      (b.0, eqb-true (port_connection ps k).source x c.0, eqb-true (port_connection ps k).sink y c.1)

  carrying : (x y k : ℕ) → is_signal ps k ≡ true → (port_connection ps k).source ≡ x → (port_connection ps k).sink ≡ y → carries ps x y k ≡ true
  carrying x y k s p q = and_true _ _ s (and_true _ _ (eq-eqb (port_connection ps k).source x p) (eq-eqb (port_connection ps k).sink y q))

  edge_has : (x y : ℕ) → feeds_next ps x y ≡ true → has_component cs y ≡ true
  unfolding feeds_next
  edge_has x y e =
      let s = some_found (carries ps x y) (port_count ps) e in
      let c = carried x y s.0 s.2 in
      ap (has_component cs) (sym c.2) ∙ (ends_below cs ps scene.ends s.0 s.1 c.0).sink_found

  edge_from : (x y : ℕ) → feeds_next ps x y ≡ true → signals cs ps (smaller_ids cs x) (smaller_ids cs y) ≡ true
  unfolding feeds_next signals
  edge_from x y e =
      let s = some_found (carries ps x y) (port_count ps) e in
      let k = s.0 in
      let c = carried x y k s.2 in
      some_at (λ j. is_signal ps j && (eqb (source_member cs ps j) (smaller_ids cs x) && eqb (sink_member cs ps j) (smaller_ids cs y))) (port_count ps) k s.1
      (and_true _ _ c.0 (and_true _ _
      (eq-eqb (source_member cs ps k) (smaller_ids cs x) (ap (smaller_ids cs) c.1))
      (eq-eqb (sink_member cs ps k) (smaller_ids cs y) (ap (smaller_ids cs) c.2))))

  -- the ids of a trail are those of components
  onward_present : (feeds : ℕ → Bool) (x : ℕ) (l : List ℕ) → onward (feeds_next ps) feeds x l ≡ true → All (λ y. has_component cs y ≡ true) l
  unfolding onward
  onward_present feeds x [] h = tt
  onward_present feeds x (y ∷ l) h = let w = both (feeds_next ps x y) _ h in (edge_has x y w.0, onward_present feeds y l w.1)

  pub trail_present : (feeds : ℕ → Bool) (l : List ℕ) → trail (is_drive_id cs fs) (feeds_next ps) feeds l ≡ true → All (λ y. has_component cs y ≡ true) l
  unfolding trail
  trail_present feeds [] h = tt
  trail_present feeds (x ∷ l) h = let w = both (is_drive_id cs fs x) _ h in (drive_has x w.0, onward_present feeds x l w.1)

  module _ (p port id : ℕ) (is : (component cs p).id ≡ id) where
    feeds_from : (x : ℕ) → feeds_into ps id port x ≡ true → marked (immediate_sources cs ps p port) (smaller_ids cs x) ≡ true
    unfolding feeds_into is_immediate
    feeds_from x e =
        let s = some_found (λ k. carries ps x id k && eqb (port_connection ps k).sink_port_of port) (port_count ps) e in
        let k = s.0 in
        let b = both _ _ s.2 in
        let c = carried x id k b.0 in
        let has : has_component cs x ≡ true = ap (has_component cs) (sym c.1) ∙ (ends_below cs ps scene.ends k s.1 c.0).source_found in
        tabulated_at (is_immediate cs ps p port) false (component_count cs) (smaller_ids cs x) (found_below cs x has)
        ∙ some_at (λ j. feeds_port cs ps p port j && eqb (source_member cs ps j) (smaller_ids cs x)) (port_count ps) k s.1
        (and_true _ _
        (and_true _ _ c.0 (and_true _ _ (eq-eqb (port_connection ps k).sink (component cs p).id (c.2 ∙ sym is)) b.1))
        (eq-eqb (source_member cs ps k) (smaller_ids cs x) (ap (smaller_ids cs) c.1)))

    pub finding : Finds (marked (drive_sources cs fs)) (signals cs ps) (marked (immediate_sources cs ps p port))
        (is_drive_id cs fs) (feeds_next ps) (feeds_into ps id port) (smaller_ids cs)
    finding = record { drive_from = drive_from; edge_from = edge_from; feeds_from = feeds_from }

-- a name for each member: its component's id
abbrev pub Names : List ℤ → (ℕ → ℕ) → Type 0
Names cs name = (p : ℕ) → p < component_count cs → name (member_of cs p) ≡ (component cs p).id

module _ (cs ps fs : List ℤ) (scene : Scene cs ps) (name : ℕ → ℕ) (names : Names cs name) where
  -- ---- from members to ids

  name_is : (p a : ℕ) → p < component_count cs → member_of cs p ≡ a → name a ≡ (component cs p).id
  name_is p a h e = subst (λ (m : ℕ). name m ≡ (component cs p).id) e (names p h)

  -- an id that a component has is that of its member
  name_back : (x : ℕ) → has_component cs x ≡ true → name (smaller_ids cs x) ≡ x
  name_back x h = let f = found_place cs x h in name_is f.0 (smaller_ids cs x) f.1 (ap (smaller_ids cs) f.2) ∙ f.2

  drive_to : (a : ℕ) → marked (drive_sources cs fs) a ≡ true → is_drive_id cs fs (name a) ≡ true
  unfolding members_where is_drive_id
  drive_to a e =
      let w = tabulated_true (λ m. some (λ p. is_drive cs fs p && eqb (member_of cs p) m) (component_count cs)) (component_count cs) a e in
      let s = some_found (λ p. is_drive cs fs p && eqb (member_of cs p) a) (component_count cs) w.1 in
      let b = both _ _ s.2 in
      let is = name_is s.0 a s.1 (eqb-true (member_of cs s.0) a b.1) in
      ap (λ (x : ℕ). drive_at cs fs (place_of cs x)) is ∙ ap (drive_at cs fs) (place_is cs ps fs scene s.0 s.1) ∙ b.0

  module _ (k : ℕ) (h : k < port_count ps) (signal : is_signal ps k ≡ true) where
    source_id : (a : ℕ) → source_member cs ps k ≡ a → (port_connection ps k).source ≡ name a
    source_id a e = sym (ap name (sym e) ∙ name_back (port_connection ps k).source (ends_below cs ps scene.ends k h signal).source_found)

    sink_id : (a : ℕ) → sink_member cs ps k ≡ a → (port_connection ps k).sink ≡ name a
    sink_id a e = sym (ap name (sym e) ∙ name_back (port_connection ps k).sink (ends_below cs ps scene.ends k h signal).sink_found)

  edge_to : (a b : ℕ) → signals cs ps a b ≡ true → feeds_next ps (name a) (name b) ≡ true
  unfolding feeds_next
  edge_to a b e =
      let (k, h, signal, p, q) = signal_at cs ps a b e in
      some_at (carries ps (name a) (name b)) (port_count ps) k h
      (carrying cs ps fs scene (name a) (name b) k signal (source_id k h signal a p) (sink_id k h signal b q))

  module _ (p port id : ℕ) (is : (component cs p).id ≡ id) where
    feeds_to : (a : ℕ) → marked (immediate_sources cs ps p port) a ≡ true → feeds_into ps id port (name a) ≡ true
    unfolding feeds_into is_immediate
    feeds_to a e =
        let w = tabulated_true (is_immediate cs ps p port) (component_count cs) a e in
        let s = some_found (λ k. feeds_port cs ps p port k && eqb (source_member cs ps k) a) (port_count ps) w.1 in
        let k = s.0 in
        let b = both _ _ s.2 in
        let c = both _ _ b.0 in
        let d = both _ _ c.1 in
        some_at (λ k. carries ps (name a) id k && eqb (port_connection ps k).sink_port_of port) (port_count ps) k s.1
        (and_true _ _
        (carrying cs ps fs scene (name a) id k c.0 (source_id k s.1 c.0 a (eqb-true (source_member cs ps k) a b.1))
        (eqb-true (port_connection ps k).sink (component cs p).id d.0 ∙ is))
        d.1)

    pub naming : Renaming (marked (drive_sources cs fs)) (signals cs ps) (marked (immediate_sources cs ps p port))
        (is_drive_id cs fs) (feeds_next ps) (feeds_into ps id port) name (smaller_ids cs)
    naming = record {
      drive_to = drive_to;
      edge_to = edge_to;
      feeds_to = feeds_to;
      drive_from = λ x e. (drive_from cs ps fs scene x e, name_back x (drive_has cs ps fs scene x e));
      edge_from = λ x y e. (edge_from cs ps fs scene x y e, name_back y (edge_has cs ps fs scene x y e));
      feeds_from = feeds_from cs ps fs scene p port id is;
    }

-- ---- the names by the table of ids

module _ {cs : List ℤ} {keys : List ℕ} (t : IdTable cs keys) (once : first_repeated cs ≡ None) where
  pub table_names : Names cs (id_of keys)
  table_names p h = member_id_lem (member_key t (member_of cs p) (omega (arith, table_long t, member_below cs p h))) once p h refl

  -- a smaller member has a smaller id
  pub table_rises : (a y : ℕ) → a < smaller_ids cs y → id_of keys a < y
  table_rises a y h =
      let low : a < length keys = omega (arith, table_long t, members_small cs y) in
      let m = member_key t a low in
      let is : smaller_ids cs (id_of keys a) ≡ a = ap (smaller_ids cs) m.id ∙ m.stands.member once in
      ⊎_elim (λ le. absurd (let s = smaller_mono cs y (id_of keys a) le in omega (arith, s, is, h))) (λ lt. lt) (order? y (id_of keys a))

-- ---- the names without it: the id of the first component that the member stands for

abbrev pub id_at_place : List ℤ → Option ℕ → ℕ
id_at_place cs (Some p) = (component cs p).id
id_at_place cs None = 0

abbrev pub first_name : List ℤ → ℕ → ℕ
first_name cs a = id_at_place cs (first_from (λ p. eqb (member_of cs p) a) 0 (component_count cs))

pub first_names : (cs : List ℤ) → first_repeated cs ≡ None → Names cs (first_name cs)
first_names cs once p h =
    ap (id_at_place cs)
    (first_is (λ q. eqb (member_of cs q) (member_of cs p)) 0 (component_count cs) p (omega arith) (omega arith) (eq-eqb (member_of cs p) (member_of cs p) refl)
    (λ j a b. ne_eqb (member_of cs j) (member_of cs p) (λ e. let same = member_inj cs once j p (omega arith) h e in omega arith)))
