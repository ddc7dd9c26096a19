-- The immediate sources of one port and the drive sources, as the arrays hold them.
--     by_set, by_pass      `GatheredBy`: one test more, with a branch on it
--     source_low           a connection that feeds the port leads from a member
--     immediate_are        the members that feed the port
--     drives_too           the drive sources
-- Assumes nothing.
use mathlib.Core.Path.{◌≡◌, sym, ap, subst, ◌∙◌}
use mathlib.Core.Bool.{Bool, true, false, ◌&&◌, ◌||◌}
use mathlib.Core.List.{List}
use Prim.Native.Nat.{ℕ, ◌+◌, ◌<◌}
use native.Mathlib.Nat.{add-zero}
use native.Mathlib.Omega.{arith}
use lib.Dec.{eqb}
use lib.ListN.{length, get_or, set}
use lib.Seq.{ext_get_or}
use lib.IntN.{ℤ}
use Rattle.lists.specs.Records.{component, port_connection, component_count, port_count}
use Rattle.lists.specs.First.{is_found, some, tabulate}
use Rattle.lists.proofs.Search.{both, or_true, or_false, some_more}
use Rattle.regions.specs.Graph.{marked}
use Rattle.signals.specs.Signals.{is_signal, source_member}
use Rattle.signals.specs.Sources.{source_kind, is_on_frontier, is_drive}
use Rattle.signals.specs.Flags.{Flags, GatheredBy}
use Rattle.signals.proofs.Ends.{ends_within}
use Rattle.signals.proofs.Marks.{by_more}
use Rattle.signals.proofs.Tabulated.{first_cong, tabulated_length, tabulated_at}
use Rattle.liveness.specs.Scene.{Accepted}
use Rattle.inputs.specs.Query.{is_immediate}
use Rattle.inputs.specs.Port.{immediate_sources}
use Rattle.inputs.specs.Port.{feeds_id}

-- ---- one test more

module _ (index : ℕ → ℕ) (test : ℕ → Bool) (k : ℕ) {out : List Bool} (g : GatheredBy k index test out) where
  pub by_set : (i : ℕ) → i ≡ index k → test k ≡ true → i < length out → GatheredBy (k + 1) index test (set out i true)
  by_set i is e l =
      subst (λ (b : Bool). GatheredBy (k + 1) index test (set out i b)) (sym (or_true (marked out i))) (by_more index test k g i true is (sym e) l)

  pub by_pass : test k ≡ false → GatheredBy (k + 1) index test out
  by_pass e = record {
    at = λ j h.
        let f : ℕ → Bool = λ i. test i && eqb (index i) j in
        g.at j h ∙ or_false (some f k) ∙ ap (λ (t : Bool). some f k || (t && eqb (index k) j)) (sym e) ∙ sym (some_more f k);
  }

-- ---- the sources of the port

module _ {cs ps : List ℤ} {keys sources sinks : List ℕ} (s : Accepted cs ps keys sources sinks) where
  source_is : (k : ℕ) → k < port_count ps → get_or sources k 0 ≡ source_member cs ps k
  source_is k h = rw add-zero at (s.ends.source_members.at k h)

  pub source_low : (id port k : ℕ) → k < port_count ps → feeds_id ps id port k ≡ true → get_or sources k 0 < component_count cs
  source_low id port k h e =
      let signal = (both (is_signal ps k) (eqb (port_connection ps k).sink id && eqb (port_connection ps k).sink_port_of port) e).0 in
      omega (arith, source_is k h, (ends_within cs ps s.scene.ends k h signal).0)

  module _ (id port p : ℕ) (is : (component cs p).id ≡ id) {starts : List Bool} (long : length starts ≡ component_count cs)
      (g : GatheredBy (port_count ps) (λ k. get_or sources k 0) (feeds_id ps id port) starts) where
    immediate_at : (a : ℕ) → a < length starts → marked starts a ≡ is_immediate cs ps p port a
    unfolding is_immediate
    immediate_at a h =
        g.at a h ∙ ap is_found (first_cong _ _ 0 (port_count ps) (λ k x y. rw (source_is k (omega arith), is)))

    pub immediate_are : starts ≡ immediate_sources cs ps p port
    immediate_are =
        let n = component_count cs in
        let test = is_immediate cs ps p port in
        ext_get_or false starts (tabulate test n) (long ∙ sym (tabulated_length test n)) (λ a h.
        immediate_at a h ∙ sym (tabulated_at test false n a (omega (arith, long))))

-- ---- the drive sources

-- a component on a frontier is a drive source
pub drives_too : (cs fs : List ℤ) {frontier driven : List Bool} → Flags (component_count cs) (is_on_frontier cs fs) frontier
    → Flags (component_count cs) (λ p. is_found (source_kind (component cs p).kind) || marked frontier p) driven → Flags (component_count cs) (is_drive cs fs) driven
drives_too cs fs f d = record { long = d.long; at = λ p h. d.at p h ∙ ap (λ (t : Bool). is_found (source_kind (component cs p).kind) || t) (f.at p h) }
