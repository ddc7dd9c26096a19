-- The inferred inputs of a port, in chains of an accepted scene's port connections.
--     flag_at            the flag of a component's member, by the component
--     upstream_of        the second set of a port
--     answered           the same of the answer of a query
-- Assumes nothing.
use Rattle.lists.specs.declared.Fault.{Fault}
use Rattle.std.specs.Prelude.{⊤, Option, Some, None, Result, Ok, Err, IfOk}
use Rattle.lists.specs.declared.Refusal.{Refusal}
use mathlib.Core.Path.{◌≡◌, refl, sym, ap, subst, ◌∙◌}
use mathlib.Core.Bool.{Bool, true, false, ◌&&◌}
use mathlib.Core.List.{List}
use Prim.Native.Nat.{ℕ, ◌<◌}
use lib.Dec.{eqb}
use lib.ListN.{length}
use lib.IntN.{ℤ}
use borrow.Author.Tests.{eqb-true, eq-eqb}
use Rattle.lists.specs.Records.{component, port_connection, component_count, port_count}
use Rattle.lists.specs.First.{is_found, some}
use Rattle.lists.specs.Ids.{smaller_ids, member_of, first_repeated}
use Rattle.lists.proofs.Search.{both}
use Rattle.lists.proofs.Some.{some_at, some_found, and_true}
use Rattle.lists.proofs.Members.{member_below, member_inj}
use Rattle.checks.specs.Refusals.{refuse, too_short, ◌or_else◌, query_refusal}
use Rattle.checks.proofs.Accepted.{liveness_accept}
use Rattle.regions.specs.Graph.{Reach, Within, flip, marked}
use Rattle.regions.proofs.Laws.Walks.{Reach·flip}
use Rattle.signals.specs.Signals.{is_signal, source_member, signals}
use Rattle.signals.specs.Regions.{is_inferred}
use Rattle.signals.specs.Drive.{members_where}
use Rattle.signals.proofs.Tabulated.{tabulated_at}
use Rattle.signals.proofs.Tested.{same_truth}
use Rattle.signals.proofs.Ends.{found_place, ends_below, ends_within}
use Rattle.assessment.specs.Verdicts.{feeds_port}
use Rattle.liveness.specs.Demand.{Chain}
use Rattle.liveness.specs.Scene.{Scene}
use Rattle.liveness.proofs.Demands.{signals_within, chain_reach, reach_chain}
use Rattle.liveness.proofs.Meanings.{walked_from, asked_below}
use Rattle.liveness.proofs.Answers.{scene_of_lem}
use Rattle.inputs.specs.declared.InputSources.{InputSources}
use Rattle.inputs.specs.Query.{is_immediate, upstream, is_inferred_for, row_place, PortSets, UpstreamOf, InputsBy, Answered}

pub flag_at : (cs : List ℤ) → first_repeated cs ≡ None → (P : ℕ → Bool) (q : ℕ) → q < component_count cs
    → marked (members_where cs P) (member_of cs q) ≡ P q
unfolding members_where
flag_at cs once P q h =
    let n = component_count cs in
    let test : ℕ → ℕ → Bool = λ m p. P p && eqb (member_of cs p) m in
    let m = member_of cs q in
    tabulated_at (λ j. some (test j) n) false n m (member_below cs q h)
    ∙ same_truth (some (test m) n) (P q)
    (λ e.
    let (p, l, t) = some_found (test m) n e in
    let (holds, is) = both (P p) (eqb (member_of cs p) m) t in
    ap P (sym (member_inj cs once p q l h (eqb-true (member_of cs p) m is))) ∙ holds)
    (λ e. some_at (test m) n q h (and_true (P q) (eqb m m) e (eq-eqb m m refl)))

module _ {cs ps : List ℤ} (scene : Scene cs ps) where
  backward_within : Within (component_count cs) (flip (signals cs ps))
  backward_within a b e = let w = signals_within cs ps scene b a e in (w.1, w.0)

  -- the edges from the member of a component to the source of a signal connection
  source_chain : (k : ℕ) → k < port_count ps → is_signal ps k ≡ true → (q : ℕ) → q < component_count cs
      → Reach (signals cs ps) (member_of cs q) (source_member cs ps k) → Chain ps (component cs q).id (port_connection ps k).source
  source_chain k l signal q h path =
      let (w, m, is) = found_place cs (port_connection ps k).source (ends_below cs ps scene.ends k l signal).source_found in
      subst (Chain ps (component cs q).id) is (reach_chain cs ps scene path q w h m refl (ap (smaller_ids cs) is))

  module _ {rules : ℕ} {fs : List ℤ} {p port : ℕ} {s : InputSources} (sets : PortSets rules cs ps fs (Some p) port s) where
    signal_of : (k : ℕ) → feeds_port cs ps p port k ≡ true → is_signal ps k ≡ true
    signal_of k t =
        (both (is_signal ps k) (eqb (port_connection ps k).sink (component cs p).id && eqb (port_connection ps k).sink_port_of port) t).0

    pub upstream_of : UpstreamOf rules cs ps fs p port s
    unfolding is_inferred_for upstream is_immediate
    upstream_of = record {
      exactly = λ q h.
          let m = member_of cs q in
          let asked = asked_below sets.inferred_set m (member_below cs q h) in
          let flag = flag_at cs scene.distinct (is_inferred rules cs ps fs) q h in
          let walked = walked_from (component_count cs) (flip (signals cs ps)) backward_within (port_count ps) (feeds_port cs ps p port)
          (source_member cs ps) (λ k l t. (ends_within cs ps scene.ends k l (signal_of k t)).0) m in (
            λ e.
                let (up, flagged) = both _ _ (sym asked ∙ e) in
                let (k, l, feeds, path) = walked.0 up in
                (sym flag ∙ flagged, (k, l, feeds, source_chain k l (signal_of k feeds) q h (Reach·flip path))),
            λ (inferred, (k, l, feeds, chain)).
                asked ∙ and_true _ _ (walked.1 (k, l, feeds, Reach·flip {edge = flip (signals cs ps)} (chain_reach cs ps chain))) (flag ∙ inferred),
          );
    }

-- ---- the answer of a query that the checks of the lists accept

-- 8, the last of the checks
abbrev row_checked : ℕ → List ℤ → ℕ → ℕ → Result ⊤ Refusal
row_checked rules cs id port = refuse Fault.NoVerdictRow None (too_short (is_found (row_place rules cs id port)))

module _ {rules : ℕ} {cs ps fs : List ℤ} (id : ℕ) {port : ℕ} {stack stack' : List ℕ} where
  answer_upstream : (r : Result InputSources Refusal) → Scene cs ps → InputsBy (row_checked rules cs id port) rules cs ps fs (row_place rules cs id port) port stack stack' r
      → IfOk r (λ s. (p : ℕ) → row_place rules cs id port ≡ Some p → UpstreamOf rules cs ps fs p port s)
  answer_upstream (Ok s) scene a = λ p e. upstream_of scene (subst (λ (f : Option ℕ). PortSets rules cs ps fs f port s) e a.sets)
  answer_upstream (Err refused) scene a = tt

  pub answered : {r : Result InputSources Refusal} → query_refusal rules cs ps fs (length stack) ≡ Ok tt
      → InputsBy (row_checked rules cs id port) rules cs ps fs (row_place rules cs id port) port stack stack' r → Answered rules cs ps fs id port stack stack' r
  answered {r} e a = record {
    by = subst (λ (c : Result ⊤ Refusal). InputsBy (c or_else row_checked rules cs id port) rules cs ps fs (row_place rules cs id port) port stack stack' r) (sym e) a;
    upstream = answer_upstream r (scene_of_lem (liveness_accept _ _ _ _ _ e)) a;
  }
