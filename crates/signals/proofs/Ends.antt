-- The ends of signal connections are members.
--     members_small            no member is above the number of components
--     Ended, ends_below        the ends of a signal connection of an accepted scene
--     EndsWithin, ends_within  the same of all of them
--     member_is                a used id has the member of a component exactly where it is its id
--     source_is, sink_is       so an end is a component exactly where it has its member
-- Assumes nothing.
use Rattle.std.specs.Prelude.{Option, Some, None}
use mathlib.Core.Path.{◌≡◌, refl, sym, ap, ◌∙◌}
use mathlib.Core.Bool.{Bool, true, false, not, ◌&&◌}
use mathlib.Core.Logic.{⊎_elim}
use mathlib.Core.List.{List}
use Prim.Native.Nat.{ℕ, ◌≤◌, ◌<◌}
use native.Mathlib.Omega.{arith}
use lib.Dec.{eqb, ltb}
use lib.IntN.{ℤ}
use borrow.Author.Tests.{eqb-true, eq-eqb, ne_eqb, not-false}
use Rattle.sets.proofs.Counts.{count_le}
use Rattle.tables.specs.Laws.{same?, order?}
use Rattle.lists.specs.Records.{component, port_connection, component_count, port_count}
use Rattle.lists.specs.First.{is_found}
use Rattle.lists.specs.Ids.{place_below, place_of, has_component, end_missing, first_end_missing, smaller_ids, member_of}
use Rattle.lists.proofs.Search.{never, both, found_at, none_found}
use Rattle.lists.proofs.Members.{smaller_less, member_below}
use Rattle.signals.specs.Signals.{is_signal, source_member, sink_member}

pub members_small : (cs : List ℤ) (id : ℕ) → smaller_ids cs id ≤ component_count cs
unfolding smaller_ids
members_small cs id = count_le (λ k. ltb (component cs k).id id) (component_count cs)

-- ---- a used id

-- it is that of a component
pub found_place : (cs : List ℤ) (id : ℕ) → has_component cs id ≡ true → (p : ℕ) × (p < component_count cs) × ((component cs p).id ≡ id)
unfolding place_below
found_place cs id e = go (place_of cs id) refl e
  where
    go : (x : Option ℕ) → place_of cs id ≡ x → is_found x ≡ true → (p : ℕ) × (p < component_count cs) × ((component cs p).id ≡ id)
    go (Some p) q t =
        let f = found_at (λ k. eqb (component cs k).id id) 0 (component_count cs) p q in
        (p, omega (arith, f.below), eqb-true (component cs p).id id f.passes)
    go None q t = never t

pub found_below : (cs : List ℤ) (id : ℕ) → has_component cs id ≡ true → smaller_ids cs id < component_count cs
found_below cs id e =
    let f = found_place cs id e in
    let b = member_below cs f.0 f.1 in
    rw f.2 at b

pub member_is : (cs : List ℤ) (id p : ℕ) → has_component cs id ≡ true → p < component_count cs
    → eqb (smaller_ids cs id) (member_of cs p) ≡ eqb id (component cs p).id
member_is cs id p e h =
    let f = found_place cs id e in
    let less : id < (component cs p).id → smaller_ids cs id < member_of cs p = rw f.2 at (smaller_less cs f.0 (component cs p).id f.1) in
    ⊎_elim
    (λ (same : id ≡ (component cs p).id).
    eq-eqb (smaller_ids cs id) (member_of cs p) (ap (smaller_ids cs) same) ∙ sym (eq-eqb id (component cs p).id same))
    (λ differ. ne_eqb (smaller_ids cs id) (member_of cs p) (λ q.
    ⊎_elim
    (λ (le : id ≤ (component cs p).id). let lt : id < (component cs p).id = omega arith in omega (arith, less lt))
    (λ (more : (component cs p).id < id). omega (arith, smaller_less cs p id h more))
    (order? id (component cs p).id))
    ∙ sym (ne_eqb id (component cs p).id differ))
    (same? id (component cs p).id)

-- ---- the ends of a signal connection

pub record Ended (cs ps : List ℤ) (k : ℕ) : Type 0 where
  pub source_found : has_component cs (port_connection ps k).source ≡ true
  pub sink_found : has_component cs (port_connection ps k).sink ≡ true
  pub source_below : source_member cs ps k < component_count cs
  pub sink_below : sink_member cs ps k < component_count cs

abbrev pub EndsWithin : List ℤ → List ℤ → Type 0
EndsWithin cs ps = (k : ℕ) → k < port_count ps → is_signal ps k ≡ true → (source_member cs ps k < component_count cs) × (sink_member cs ps k < component_count cs)

not_missing : (s e : Bool) → (s && not e) ≡ false → s ≡ true → e ≡ true
not_missing true e q t = not-false e q
not_missing false e q t = never t

module _ (cs ps : List ℤ) (ends : first_end_missing cs ps ≡ None) where
  pub ends_below : (k : ℕ) → k < port_count ps → is_signal ps k ≡ true → Ended cs ps k
  unfolding first_end_missing
  ends_below k h signal =
      let source = (port_connection ps k).source in
      let sink = (port_connection ps k).sink in
      let there = none_found (end_missing cs ps) 0 (port_count ps) ends k (omega arith) (omega arith) in
      let found = both (has_component cs source) (has_component cs sink) (not_missing (is_signal ps k) (has_component cs source && has_component cs sink) there signal) in
      record {
        source_found = found.0;
        sink_found = found.1;
        source_below = found_below cs source found.0;
        sink_below = found_below cs sink found.1;
      }

  pub ends_within : EndsWithin cs ps
  ends_within k h signal = let e = ends_below k h signal in (e.source_below, e.sink_below)

  module _ (k : ℕ) (h : k < port_count ps) (signal : is_signal ps k ≡ true) (p : ℕ) (l : p < component_count cs) where
    pub source_is : eqb (source_member cs ps k) (member_of cs p) ≡ eqb (port_connection ps k).source (component cs p).id
    source_is = member_is cs (port_connection ps k).source p (ends_below k h signal).source_found l

    pub sink_is : eqb (sink_member cs ps k) (member_of cs p) ≡ eqb (port_connection ps k).sink (component cs p).id
    sink_is = member_is cs (port_connection ps k).sink p (ends_below k h signal).sink_found l
