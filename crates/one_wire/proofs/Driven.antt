-- Driven and reachable components, as tests and in chains; what one port connection more does to them.
--     meanings                      the tests say what chains there are
--     scene_before                  the scene without the connection is accepted too
--     reaches, stays, few, ..       the effects of the connection
-- Assumes nothing.
use Rattle.std.specs.Prelude.{None}
use mathlib.Core.Path.{◌≡◌, refl, sym, ap, subst, ◌∙◌}
use mathlib.Core.Bool.{Bool, true, false, not, ◌&&◌}
use mathlib.Core.List.{List}
use mathlib.Core.Logic.{⊎_elim, ◌↔◌}
use Prim.Native.Nat.{ℕ, suc, ◌+◌, ◌*◌, ◌≤◌, ◌<◌}
use native.Mathlib.Omega.{arith}
use lib.Dec.{eqb}
use lib.IntN.{ℤ}
use borrow.Author.Tests.{eqb-true, eq-eqb}
use Rattle.sets.specs.Members.{count_below}
use Rattle.lists.specs.Limits.{port_width}
use Rattle.lists.specs.Signed.{at, in_range}
use Rattle.lists.specs.Ranges.{port_low, port_high}
use Rattle.lists.specs.Records.{PortConnection, component, port_connection, component_count, port_count}
use Rattle.lists.specs.First.{tabulate}
use Rattle.lists.specs.Ids.{support_transfer, has_component, end_missing, first_end_missing, member_of}
use Rattle.tables.specs.Laws.{order?}
use Rattle.lists.proofs.Search.{never, both, none_found, first_nothing}
use Rattle.lists.proofs.Members.{member_below, count_mono}
use Rattle.regions.specs.Theorems.{ReachLaws}
use Rattle.regions.proofs.Theorems.{reach_laws}
use Rattle.signals.specs.Signals.{is_signal, signals}
use Rattle.signals.specs.Sources.{is_drive}
use Rattle.signals.specs.Drive.{drive}
use Rattle.signals.proofs.Tabulated.{tabulated_at}
use Rattle.signals.proofs.Tested.{same_truth}
use Rattle.signals.proofs.Ends.{found_place, ends_below}
use Rattle.liveness.specs.Demand.{Chain}
use Rattle.liveness.specs.Meaning.{FedFrom}
use Rattle.liveness.specs.Scene.{Scene}
use Rattle.liveness.proofs.Demands.{signals_within, chain_reach, reach_chain}
use Rattle.liveness.proofs.Meanings.{fed_walk}
use Rattle.one_wire.specs.Added.{Added}
use Rattle.one_wire.specs.Ports.{is_driven, is_reachable, newly, Meanings}
use Rattle.one_wire.proofs.Shifted.{longer, at_before, at_after, port_in, port_there}
use Rattle.one_wire.proofs.Chains.{chain_more, chain_parts, chains_same}

-- ---- in chains

module _ (cs ps : List ℤ) (scene : Scene cs ps) where
  abbrev n : ℕ
  n = component_count cs

  driven_is : (fs : List ℤ) → FedFrom cs ps (is_drive cs fs) (is_driven cs ps fs)
  unfolding drive
  driven_is fs = fed_walk cs ps scene (is_drive cs fs)

  module _ (q p : ℕ) (l : q < n) (h : p < n) where
    laws : ReachLaws n (signals cs ps) (tabulate (eqb (member_of cs q)) n)
    laws = reach_laws n (signals cs ps) (signals_within cs ps scene) (tabulate (eqb (member_of cs q)) n)

    reachable_is : (is_reachable cs ps (component cs q).id p ≡ true) ↔ Chain ps (component cs q).id (component cs p).id
    unfolding is_reachable
    reachable_is = (
      λ t.
          let (m, k, e, path) = (laws.exactly (member_of cs p)).0 t in
          reach_chain cs ps scene path q p l h (eqb-true (member_of cs q) m (sym (tabulated_at (eqb (member_of cs q)) false n m k) ∙ e)) refl,
      λ c.
          let m = member_of cs q in
          (laws.exactly (member_of cs p)).1
          (m, member_below cs q l, tabulated_at (eqb m) false n m (member_below cs q l) ∙ eq-eqb m m refl, chain_reach cs ps c),
    )

  pub meanings : (fs : List ℤ) → Meanings cs ps fs (is_driven cs ps fs)
  meanings fs = record { driven_is = driven_is fs; reachable_is = reachable_is }

-- ---- one connection more

false_not : (t : Bool) → (t ≡ true → ⊥) → t ≡ false
false_not true h = absurd (h refl)
false_not false h = refl

-- the scene without it is accepted too
module _ {cs ps : List ℤ} {i : ℕ} {ps' : List ℤ} (added : Added port_width ps i ps') (new : Scene cs ps') where
  fields : (k f : ℕ) → k < port_count ps → f < 5 → in_range (at port_low f) (at port_high f) (at ps (k * 5 + f)) ≡ true
  fields k f h l =
      ⊎_elim
      (λ (le : i ≤ k). ap (in_range (at port_low f) (at port_high f)) (sym (at_after added (k * 5 + f) (omega arith)) ∙ ap (at ps') (moved k)) ∙ new.connections.field (suc k) f (omega (arith, longer added)) l)
      (λ (lt : k < i). ap (in_range (at port_low f) (at port_high f)) (sym (at_before added (k * 5 + f) (omega arith))) ∙ new.connections.field k f (omega (arith, longer added)) l)
      (order? i k)
    where
      moved : (k : ℕ) → k * 5 + f + 5 ≡ suc k * 5 + f
      moved k = omega arith

  not_missing : (k : ℕ) → k < port_count ps → end_missing cs ps k ≡ false
  unfolding first_end_missing
  not_missing k h =
      let (j, l, e) = port_there added k h in
      ap missing (sym e) ∙ none_found (end_missing cs ps') 0 (port_count ps') new.ends j (omega arith) (omega arith)
    where
      missing : PortConnection → Bool
      missing c = not (eqb c.transfer support_transfer) && not (has_component cs c.source && has_component cs c.sink)

  none_missing : first_end_missing cs ps ≡ None
  unfolding first_end_missing
  none_missing = first_nothing (end_missing cs ps) 0 (port_count ps) (λ k a b. not_missing k (omega arith))

  pub scene_before : Scene cs ps
  scene_before = record {
    components = new.components;
    connections = record { few = omega (arith, longer added, new.connections.few); field = fields };
    ends = none_missing;
    ascending = new.ascending;
    distinct = new.distinct;
  }

module _ (cs ps ps' fs : List ℤ) (i : ℕ) (added : Added port_width ps i ps') (signal : is_signal ps' i ≡ true) (new : Scene cs ps') where
  old : Scene cs ps
  old = scene_before added new

  abbrev source : ℕ
  source = (port_connection ps' i).source

  abbrev sink : ℕ
  sink = (port_connection ps' i).sink

  -- newly driven
  abbrev new_at : ℕ → Bool
  new_at = newly (is_driven cs ps fs) (is_driven cs ps' fs)

  -- the component of its sink
  at_sink : (q : ℕ) × (q < component_count cs) × ((component cs q).id ≡ sink)
  at_sink = found_place cs sink (ends_below cs ps' new.ends i (port_in added) signal).sink_found

  -- a component newly driven: a drive source leads to the new connection's source, and its sink leads on
  record Newly (p : ℕ) : Type 0 where
    from : ℕ
    below : from < component_count cs
    drives : is_drive cs fs from ≡ true
    up_to : Chain ps (component cs from).id source
    on : Chain ps sink (component cs p).id

  newly_is : (p : ℕ) → p < component_count cs → new_at p ≡ true → Newly p
  newly_is p h t =
      let parts = both (is_driven cs ps' fs p) (not (is_driven cs ps fs p)) t in
      let (q, l, d, c) = ((meanings cs ps' new fs).driven_is.exactly p h).0 parts.0 in
      ⊎_elim
      (λ (same : Chain ps (component cs q).id (component cs p).id).
      never (sym (ap not (((meanings cs ps old fs).driven_is.exactly p h).1 (q, l, d, same))) ∙ parts.1))
      (λ (two : Chain ps (component cs q).id source × Chain ps sink (component cs p).id).
      record { from = q; below = l; drives = d; up_to = two.0; on = two.1 })
      (chain_parts added c)

  pub reaches : (p : ℕ) → p < component_count cs → new_at p ≡ true → Chain ps sink (component cs p).id
  reaches p h t = (newly_is p h t).on

  pub stays : (p : ℕ) → p < component_count cs → is_driven cs ps fs p ≡ true → is_driven cs ps' fs p ≡ true
  stays p h t =
      let (q, l, d, c) = ((meanings cs ps old fs).driven_is.exactly p h).0 t in
      ((meanings cs ps' new fs).driven_is.exactly p h).1 (q, l, d, chain_more added c)

  reachable : (qs : List ℤ) → Scene cs qs → (p : ℕ) → p < component_count cs → (is_reachable cs qs sink p ≡ true) ↔ Chain qs sink (component cs p).id
  reachable qs scene p h =
      let (q, l, e) = at_sink in
      subst (λ (id : ℕ). (is_reachable cs qs id p ≡ true) ↔ Chain qs id (component cs p).id) e ((meanings cs qs scene fs).reachable_is q p l h)

  pub few : count_below new_at (component_count cs) ≤ count_below (is_reachable cs ps sink) (component_count cs)
  few = count_mono new_at (is_reachable cs ps sink) (component_count cs) (λ p h t. (reachable ps old p h).1 (reaches p h t))

  pub same_reach : (p : ℕ) → p < component_count cs → is_reachable cs ps sink p ≡ is_reachable cs ps' sink p
  same_reach p h =
      let same = chains_same added (component cs p).id in
      same_truth (is_reachable cs ps sink p) (is_reachable cs ps' sink p)
      (λ t. (reachable ps' new p h).1 (same.0 ((reachable ps old p h).0 t)))
      (λ t. (reachable ps old p h).1 (same.1 ((reachable ps' new p h).0 t)))

  pub idle : (q : ℕ) → q < component_count cs → (component cs q).id ≡ source → is_driven cs ps fs q ≡ false
      → (p : ℕ) → p < component_count cs → new_at p ≡ false
  idle q l e none p h = false_not (new_at p) (λ t.
      let w = newly_is p h t in
      let up = subst (Chain ps (component cs w.from).id) (sym e) w.up_to in
      never (sym none ∙ ((meanings cs ps old fs).driven_is.exactly q l).1 (w.from, w.below, w.drives, up)))
