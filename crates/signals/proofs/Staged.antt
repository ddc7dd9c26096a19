-- What the stages leave in their arrays is what the definitions say.
--     sink_ends                        the settled sinks of signal connections are nodes
--     cyclic_is                        the cyclic regions
--     members_below, labels_placed     members and labels by list place
--     marks_are                        the gathered marks
-- Assumes nothing.
use mathlib.Core.Path.{◌≡◌, refl, sym, ap, ◌∙◌}
use mathlib.Core.Bool.{Bool, false, ◌&&◌, ◌||◌}
use mathlib.Core.List.{List}
use Prim.Native.Nat.{ℕ, ◌≤◌}
use native.Mathlib.Omega.{arith}
use lib.Dec.{eqb, leb}
use lib.ListN.{length, get_or}
use lib.Seq.{ext_get_or}
use lib.IntN.{ℤ}
use borrow.Author.Tests.{eqb-true, eq-eqb}
use Rattle.sets.specs.Members.{count_below}
use Rattle.lists.specs.Limits.{component_limit}
use Rattle.lists.specs.Records.{component_count, port_count}
use Rattle.lists.specs.First.{is_found, some, tabulate}
use Rattle.lists.specs.Ids.{member_of}
use Rattle.lists.specs.Ends.{Settled}
use Rattle.lists.proofs.Search.{both}
use Rattle.lists.proofs.Some.{some_at, some_found, and_true}
use Rattle.lists.proofs.Members.{member_below}
use Rattle.regions.specs.Graph.{at}
use Rattle.signals.specs.Signals.{is_signal, source_member, sink_member, signals}
use Rattle.signals.specs.Regions.{labels, region_of_place, is_cyclic}
use Rattle.signals.specs.Drive.{members_where}
use Rattle.signals.specs.Flags.{Flags, Numbers, Gathered, Indices}
use Rattle.signals.specs.Seen.{SignalEnds}
use Rattle.signals.specs.Stages.{cyclic_at}
use Rattle.signals.proofs.Tabulated.{first_cong, tabulated_length, tabulated_at}
use Rattle.signals.proofs.Ends.{EndsWithin}
use Rattle.signals.proofs.Graph.{sink_at}
use Rattle.signals.proofs.Tested.{same_truth}
use Rattle.signals.proofs.Within.{edge_tests, signals_inside, labels_inside}

-- ---- the sinks of signal connections

module _ {cs ps : List ℤ} {sources sinks : List ℕ} (few : component_count cs ≤ component_limit) (s : Settled cs ps 0 sources) (t : Settled cs ps 2 sinks)
    (ends : EndsWithin cs ps) where
  pub sink_ends : port_count ps ≤ length sinks → SignalEnds (component_count cs) ps sinks
  sink_ends long = record { long = long; below = λ k h e. rw (sink_at few s t k h) (ends k h e).1 }

-- ---- cyclic regions

module _ (cs ps : List ℤ) (ends : EndsWithin cs ps) where
  -- an edge from a member of region r to itself is a connection from its member to itself
  selves : (r : ℕ) → some (λ a. signals cs ps a a && eqb (at (labels cs ps) a) r) (component_count cs)
      ≡ some (λ k. is_signal ps k && (eqb (source_member cs ps k) (sink_member cs ps k) && eqb (at (labels cs ps) (sink_member cs ps k)) r)) (port_count ps)
  selves r =
      let l = labels cs ps in
      let itself : ℕ → ℕ → Bool = λ a b. eqb a b && eqb (at l b) r in
      let edge : ℕ → Bool = λ a. signals cs ps a a && eqb (at l a) r in
      let joined : ℕ → Bool = λ k. is_signal ps k && itself (source_member cs ps k) (sink_member cs ps k) in
      same_truth (some edge (component_count cs)) (some joined (port_count ps))
      (λ e.
      let (a, h, t) = some_found edge (component_count cs) e in
      let (s, i) = both (signals cs ps a a) (eqb (at l a) r) t in
      (edge_tests cs ps itself).0 (a, a, s, and_true (eqb a a) (eqb (at l a) r) (eq-eqb a a refl) i))
      (λ e.
      let (a, b, s, t) = (edge_tests cs ps itself).1 e in
      let (same, i) = both (eqb a b) (eqb (at l b) r) t in
      let w = signals_inside cs ps ends a b s in
      some_at edge (component_count cs) b w.1
      (and_true (signals cs ps b b) (eqb (at l b) r) (ap (λ (k : ℕ). signals cs ps k b) (sym (eqb-true a b same)) ∙ s) i))

  pub cyclic_is : (r : ℕ) → cyclic_at (signals cs ps) (labels cs ps) r ≡ is_cyclic cs ps r
  unfolding is_cyclic
  cyclic_is r =
      let l = labels cs ps in
      ap (λ (n : ℕ). leb 2 (count_below (λ m. eqb (at l m) r) n) || some (λ a. signals cs ps a a && eqb (at l a) r) n) (labels_inside cs ps ends)
      ∙ ap (λ (b : Bool). leb 2 (count_below (λ m. eqb (at l m) r) (component_count cs)) || b) (selves r)

-- ---- by list place

module _ (cs : List ℤ) {members : List ℕ} (numbers : Numbers (component_count cs) (member_of cs) members) where
  pub members_below : Indices (component_count cs) (component_count cs) members
  members_below = record { long = numbers.long; below = λ p h. rw (numbers.at p h) (member_below cs p h) }

  pub labels_placed : (ps : List ℤ) {out : List ℕ} → Numbers (component_count cs) (λ p. get_or (labels cs ps) (get_or members p 0) 0) out
      → Numbers (component_count cs) (region_of_place cs ps) out
  labels_placed ps o = record { long = o.long; at = λ p h. o.at p h ∙ ap (at (labels cs ps)) (numbers.at p h) }

  pub marks_are : {P : ℕ → Bool} {flags marks : List Bool} → Flags (component_count cs) P flags → length marks ≡ component_count cs
      → Gathered (component_count cs) members flags marks → marks ≡ members_where cs P
  unfolding members_where
  marks_are {P} {flags} {marks} f long g =
      let n = component_count cs in
      let test : ℕ → ℕ → Bool = λ m p. P p && eqb (member_of cs p) m in
      ext_get_or false marks (tabulate (λ m. some (test m) n) n) (long ∙ sym (tabulated_length (λ m. some (test m) n) n)) (λ j h.
      g.at j h
      ∙ ap is_found (first_cong _ (test j) 0 n (λ p a b. rw (f.at p (omega arith), numbers.at p (omega arith))))
      ∙ sym (tabulated_at (λ m. some (test m) n) false n j (omega arith)))
