-- The regions fed from outside.
--     some_only              a test that one place alone can pass is the test there
--     passive_at             the mark of a used id's member is that of its component's kind
--     fed_is                 the flags of the regions that are fed, in the words of the document
-- Assumes nothing.
use Rattle.std.specs.Prelude.{Option, Some, None}
use mathlib.Core.Path.{◌≡◌, refl, sym, ap, ◌∙◌}
use mathlib.Core.Bool.{Bool, true, false, not, ◌&&◌}
use mathlib.Core.List.{List}
use Prim.Native.Nat.{ℕ, ◌<◌}
use native.Mathlib.Omega.{arith}
use lib.Dec.{eqb}
use lib.ListN.{length, get_or}
use lib.IntN.{ℤ}
use borrow.Author.Tests.{eqb-true, eq-eqb}
use Rattle.lists.specs.Limits.{component_limit}
use Rattle.lists.specs.Records.{component, port_connection, component_count, port_count}
use Rattle.lists.specs.First.{first_from, is_found, some}
use Rattle.lists.specs.Ids.{place_below, place_of, has_component, smaller_ids, member_of, first_repeated}
use Rattle.lists.proofs.Search.{never, both, found_at, none_found, first_nothing}
use Rattle.lists.proofs.Some.{and_true}
use Rattle.lists.proofs.Members.{member_below, member_inj}
use Rattle.regions.specs.Graph.{marked, at}
use Rattle.signals.specs.Signals.{is_signal, source_member, sink_member, signals}
use Rattle.signals.specs.Regions.{labels, is_passive, kind_at, fed_from_outside}
use Rattle.signals.specs.Flags.{Flags, Numbers, Gathered}
use Rattle.signals.specs.Seen.{Led}
use Rattle.liveness.specs.Scene.{Scene}
use Rattle.signals.proofs.Tabulated.{first_cong}
use Rattle.signals.proofs.Ends.{ends_below}
use Rattle.signals.proofs.Tested.{same_truth}
use Rattle.signals.proofs.Within.{edge_tests}

-- ---- tests

pub some_found : (test : ℕ → Bool) (n p : ℕ) → p < n → test p ≡ true → some test n ≡ true
some_found test n p h e = go (first_from test 0 n) refl
  where
    go : (x : Option ℕ) → first_from test 0 n ≡ x → is_found x ≡ true
    go (Some q) f = refl
    go None f = never (sym (none_found test 0 n f p (omega arith) (omega arith)) ∙ e)

module _ (P same : ℕ → Bool) (n p : ℕ) (h : p < n) (here : same p ≡ true) (only : (q : ℕ) → q < n → same q ≡ true → q ≡ p) where
  pub some_only : some (λ q. P q && same q) n ≡ P p
  some_only = go (P p) refl
    where
      other : P p ≡ false → (q : ℕ) → q < n → (t : Bool) → same q ≡ t → (P q && t) ≡ false
      other e q l true s = rw (only q l s, e)
      other e q l false s = none (P q)
        where
          none : (b : Bool) → (b && false) ≡ false
          none true = refl
          none false = refl

      go : (t : Bool) → P p ≡ t → some (λ q. P q && same q) n ≡ t
      go true e = some_found (λ q. P q && same q) n p h (rw (e, here))
      go false e = ap is_found (first_nothing (λ q. P q && same q) 0 n (λ q a b. other e q (omega arith) (same q) refl))

-- ---- passive sources

module _ (rules : ℕ) (cs : List ℤ) (once : first_repeated cs ≡ None) {members : List ℕ} (numbers : Numbers (component_count cs) (member_of cs) members)
    {flags marks : List Bool} (f : Flags (component_count cs) (λ p. is_passive rules (component cs p).kind) flags) (long : length marks ≡ component_count cs)
    (g : Gathered (component_count cs) members flags marks) where
  mark_at : (p : ℕ) → p < component_count cs → marked marks (member_of cs p) ≡ is_passive rules (component cs p).kind
  mark_at p h =
      let n = component_count cs in
      let m = member_of cs p in
      g.at m (omega (arith, member_below cs p h))
      ∙ ap is_found (first_cong _ (λ q. is_passive rules (component cs q).kind && eqb (member_of cs q) m) 0 n (λ q a b.
      rw (f.at q (omega arith), numbers.at q (omega arith))))
      ∙ some_only (λ q. is_passive rules (component cs q).kind) (λ q. eqb (member_of cs q) m) n p h (eq-eqb m m refl)
      (λ q l e. member_inj cs once q p l h (eqb-true (member_of cs q) m e))

  pub passive_at : (id : ℕ) → has_component cs id ≡ true → marked marks (smaller_ids cs id) ≡ is_passive rules (kind_at cs (place_of cs id))
  unfolding place_below
  passive_at id e = go (place_of cs id) refl e
    where
      go : (x : Option ℕ) → place_of cs id ≡ x → is_found x ≡ true → marked marks (smaller_ids cs id) ≡ is_passive rules (kind_at cs x)
      go (Some p) q t =
          let found = found_at (λ k. eqb (component cs k).id id) 0 (component_count cs) p q in
          ap (λ (i : ℕ). marked marks (smaller_ids cs i)) (sym (eqb-true (component cs p).id id found.passes)) ∙ mark_at p (omega (arith, found.below))
      go None q t = never t

-- ---- fed from outside

-- the tests of a connection in another order, equal where it is a signal
tests_same : (s x y y' z : Bool) → (s ≡ true → y ≡ y') → (s && ((not y && x) && z)) ≡ (s && (x && (z && not y')))
tests_same false x y y' z e = refl
tests_same true x y y' z e = turned x y z ∙ rw (e refl) refl
  where
    turned : (a b c : Bool) → ((not b && a) && c) ≡ (a && (c && not b))
    turned true true true = refl
    turned true true false = refl
    turned true false true = refl
    turned true false false = refl
    turned false true c = refl
    turned false false c = refl

-- an edge from another region's node that is not passive
abbrev pub from_outside : List ℕ → List Bool → ℕ → ℕ → Bool
from_outside labelled marks a b = not (marked marks a) && not (eqb (get_or labelled a 0) (get_or labelled b 0))

module _ {cs ps : List ℤ} (scene : Scene cs ps) {labelled members : List ℕ} (is : labelled ≡ labels cs ps)
    (numbers : Numbers (component_count cs) (member_of cs) members) where
  pub fed_is : (rules : ℕ) {flags marks fed : List Bool} → Flags (component_count cs) (λ p. is_passive rules (component cs p).kind) flags
      → length marks ≡ component_count cs → Gathered (component_count cs) members flags marks
      → length fed ≡ component_limit → Led (signals cs ps) (from_outside labelled marks) labelled fed
      → Flags component_limit (fed_from_outside rules cs ps) fed
  unfolding fed_from_outside
  fed_is rules {flags} {marks} {fed} f long g room o = record {
    long = omega arith;
    at = λ r h.
        same_truth (marked fed r) (some (λ k. is_signal ps k && test r (source_member cs ps k) (sink_member cs ps k)) (port_count ps))
        (λ e.
        let (a, b, s, t, i) = (o.exactly r (omega arith)).0 e in
        (edge_tests cs ps (test r)).0 (a, b, s, and_true (from_outside labelled marks a b) (eqb (get_or labelled b 0) r) t (eq-eqb (get_or labelled b 0) r i)))
        (λ e.
        let (a, b, s, w) = (edge_tests cs ps (test r)).1 e in
        let (t, i) = both (from_outside labelled marks a b) (eqb (get_or labelled b 0) r) w in
        (o.exactly r (omega arith)).1 (a, b, s, t, eqb-true (get_or labelled b 0) r i))
        ∙ ap is_found (first_cong _ _ 0 (port_count ps) (λ k a b. tested r k (omega arith)));
  }
    where
      test : ℕ → ℕ → ℕ → Bool
      test r a b = from_outside labelled marks a b && eqb (get_or labelled b 0) r

      passive : (k : ℕ) → k < port_count ps → is_signal ps k ≡ true → marked marks (source_member cs ps k) ≡ is_passive rules (kind_at cs (place_of cs (port_connection ps k).source))
      passive k h signal =
          let there = ends_below cs ps scene.ends k h signal in
          passive_at rules cs scene.distinct numbers f long g (port_connection ps k).source there.source_found

      tested : (r k : ℕ) → k < port_count ps → (is_signal ps k && test r (source_member cs ps k) (sink_member cs ps k))
          ≡ (is_signal ps k && (not (eqb (at (labels cs ps) (source_member cs ps k)) (at (labels cs ps) (sink_member cs ps k)))
          && (eqb (at (labels cs ps) (sink_member cs ps k)) r && not (is_passive rules (kind_at cs (place_of cs (port_connection ps k).source))))))
      tested r k h =
          tests_same (is_signal ps k) (not (eqb (get_or labelled (source_member cs ps k) 0) (get_or labelled (sink_member cs ps k) 0)))
          (marked marks (source_member cs ps k)) _ (eqb (get_or labelled (sink_member cs ps k) 0) r) (passive k h)
          ∙ rw is refl
