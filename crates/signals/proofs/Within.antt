-- The signals of an accepted scene lead from member to member, so the laws of the regions hold of them.
--     signal_at, at_signal                an edge is a signal connection
--     edge_tests                          an edge passes a test where a connection does
--     signals_inside, labels_inside       of any lists whose signals have members at their ends
--     signals_within                      the ends of a signal are members
--     scene_regions                       the laws of its regions
--     labels_count, label_under           a label for each member, below their number
--     labels_under                        all of them
--     places_under                        the regions of the components, by list place
-- Assumes nothing.
use Rattle.std.specs.Prelude.{None}
use mathlib.Core.Path.{◌≡◌, refl, ap, ◌∙◌}
use mathlib.Core.Bool.{Bool, true, ◌&&◌}
use mathlib.Core.List.{List}
use mathlib.Core.Logic.{◌↔◌}
use Prim.Native.Nat.{ℕ, ◌≤◌, ◌<◌}
use native.Mathlib.Omega.{arith}
use lib.Dec.{eqb}
use lib.ListN.{length}
use lib.IntN.{ℤ}
use borrow.Author.Tests.{eqb-true, eq-eqb}
use Rattle.lists.specs.Records.{component_count, port_count}
use Rattle.lists.specs.First.{some}
use Rattle.lists.specs.Ids.{first_end_missing}
use Rattle.lists.proofs.Search.{both}
use Rattle.lists.proofs.Members.{member_below}
use Rattle.regions.specs.Graph.{Within, at}
use Rattle.regions.specs.Theorems.{RegionLaws}
use Rattle.regions.proofs.Theorems.{region_laws}
use Rattle.signals.specs.Signals.{is_signal, source_member, sink_member, signals}
use Rattle.signals.specs.Regions.{labels, region_of_place}
use Rattle.signals.specs.Flags.{Numbers, Indices}
use Rattle.signals.proofs.Ends.{EndsWithin, ends_within}
use Rattle.lists.proofs.Some.{some_at, some_found, and_true}

-- ---- an edge is a signal connection

module _ (cs ps : List ℤ) where
  pub signal_at : (a b : ℕ) → signals cs ps a b ≡ true
      → (k : ℕ) × (k < port_count ps) × (is_signal ps k ≡ true) × (source_member cs ps k ≡ a) × (sink_member cs ps k ≡ b)
  unfolding signals
  signal_at a b found =
      let (k, h, t) = some_found (λ j. is_signal ps j && (eqb (source_member cs ps j) a && eqb (sink_member cs ps j) b)) (port_count ps) found in
      let e = both (is_signal ps k) (eqb (source_member cs ps k) a && eqb (sink_member cs ps k) b) t in
      let g = both (eqb (source_member cs ps k) a) (eqb (sink_member cs ps k) b) e.1 in
      (k, h, e.0, eqb-true (source_member cs ps k) a g.0, eqb-true (sink_member cs ps k) b g.1)

  pub at_signal : {a b : ℕ} (k : ℕ) → k < port_count ps → is_signal ps k ≡ true → source_member cs ps k ≡ a → sink_member cs ps k ≡ b → signals cs ps a b ≡ true
  unfolding signals
  at_signal {a} {b} k h s p q =
      some_at (λ j. is_signal ps j && (eqb (source_member cs ps j) a && eqb (sink_member cs ps j) b)) (port_count ps) k h
      (and_true (is_signal ps k) _ s (and_true (eqb (source_member cs ps k) a) _ (eq-eqb (source_member cs ps k) a p) (eq-eqb (sink_member cs ps k) b q)))

  -- an edge passes a test exactly if a signal connection does
  pub edge_tests : (test : ℕ → ℕ → Bool)
      → ((a b : ℕ) × (signals cs ps a b ≡ true) × (test a b ≡ true)) ↔ (some (λ k. is_signal ps k && test (source_member cs ps k) (sink_member cs ps k)) (port_count ps) ≡ true)
  edge_tests test =
      let tested : ℕ → Bool = λ k. is_signal ps k && test (source_member cs ps k) (sink_member cs ps k) in (
        λ (a, b, e, t).
            let (k, h, s, p, q) = signal_at a b e in
            some_at tested (port_count ps) k h (and_true (is_signal ps k) _ s (ap (λ (i : ℕ). test i (sink_member cs ps k)) p ∙ ap (test a) q ∙ t)),
        λ e.
            let (k, h, w) = some_found tested (port_count ps) e in
            let (s, t) = both (is_signal ps k) (test (source_member cs ps k) (sink_member cs ps k)) w in
            (source_member cs ps k, sink_member cs ps k, at_signal k h s refl refl, t),
      )

module _ (cs ps : List ℤ) (ends : EndsWithin cs ps) where
  pub signals_inside : Within (component_count cs) (signals cs ps)
  signals_inside a b e =
      let (k, h, signal, p, q) = signal_at cs ps a b e in
      let w = ends k h signal in
      (omega (arith, w.0), omega (arith, w.1))

  pub labels_inside : length (labels cs ps) ≡ component_count cs
  labels_inside = (region_laws (component_count cs) (signals cs ps) signals_inside).long

module _ (cs ps : List ℤ) (ends : first_end_missing cs ps ≡ None) where
  pub signals_within : Within (component_count cs) (signals cs ps)
  signals_within = signals_inside cs ps (ends_within cs ps ends)

  pub scene_regions : RegionLaws (component_count cs) (signals cs ps)
  scene_regions = region_laws (component_count cs) (signals cs ps) signals_within

  pub labels_count : length (labels cs ps) ≡ component_count cs
  labels_count = scene_regions.long

  pub label_under : (m : ℕ) → m < component_count cs → at (labels cs ps) m < component_count cs
  label_under m h = omega (arith, scene_regions.below m h, scene_regions.few)

  pub labels_under : (m : ℕ) → component_count cs ≤ m → Indices (length (labels cs ps)) m (labels cs ps)
  labels_under m few = record { long = omega arith; below = λ p h. omega (arith, labels_count, label_under p (omega (arith, labels_count))) }

  pub places_under : {numbers : List ℕ} (m : ℕ) → component_count cs ≤ m → Numbers (component_count cs) (region_of_place cs ps) numbers → Indices (component_count cs) m numbers
  places_under m few f = record {
    long = f.long;
    below = λ p h. omega (arith, f.at p h, label_under _ (member_below cs p h));
  }
