-- The search upstream of a port on an accepted scene (specs/Status.antt): yes exactly if the status is 0.
-- Assumes nothing.
use mathlib.Core.Path.{◌≡◌, refl, sym, ap, subst, ◌∙◌}
use mathlib.Core.Bool.{Bool, true, false, ◌&&◌}
use mathlib.Core.List.{List}
use mathlib.Core.Logic.{⊎_elim}
use Prim.Native.Nat.{ℕ, ◌≤◌, ◌<◌}
use native.Mathlib.Omega.{arith}
use lib.ListN.{length, get_or-eq_default}
use lib.IntN.{ℤ}
use borrow.Author.Tests.{lt-ltb, le-ltb}
use Rattle.tables.specs.Laws.{order?}
use Rattle.lists.specs.Records.{component_count, port_count}
use Rattle.lists.specs.First.{is_found}
use Rattle.std.specs.Prelude.{Option, Some, None, Ok}
use Rattle.lists.specs.declared.Fault.{Fault}
use Rattle.checks.specs.Refusals.{refuse, too_short, room_for, query_refusal}
use Rattle.checks.proofs.Chain.{both_accept, refused_not}
use Rattle.checks.proofs.Accepted.{liveness_accept}
use Rattle.sets.specs.Members.{member_of}
use Rattle.lists.proofs.Some.{some_at}
use Rattle.regions.specs.Graph.{Within, marked, flip}
use Rattle.regions.specs.Kosaraju.{reached}
use Rattle.regions.proofs.Laws.Walks.{Reach·flip}
use Rattle.regions.proofs.Theorems.{reach_laws}
use Rattle.signals.specs.Signals.{signals, source_member}
use Rattle.signals.specs.Sources.{is_drive}
use Rattle.signals.specs.Drive.{drive}
use Rattle.signals.proofs.Tabulated.{tabulated_at}
use Rattle.signals.proofs.Within.{signals_within}
use Rattle.assessment.specs.Verdicts.{feeds_port, fed_by, input_rows}
use Rattle.liveness.specs.Scene.{Scene}
use Rattle.liveness.specs.Sets.{SetWhere}
use Rattle.liveness.proofs.Answers.{scene_of_lem}
use Rattle.inputs.specs.Query.{is_immediate, upstream, row_place, input_refusal}
use Rattle.inputs.proofs.Inputs.{flags_long}
use Rattle.driven.specs.Theorems.{SoughtLaws}
use Rattle.inputs.specs.Port.{drive_sources, immediate_sources, HasRow}
use Rattle.inputs.proofs.Status.{marked_below, source_found, source_at, fed_found, fed_zero, zero_fed}
use Rattle.driven.specs.Driven.{upstream_from, PortDriven, Asked}
use Rattle.driven.specs.Status.{DrivenLaws, AnswerLaws}
use Rattle.driven.specs.declared.DrivenInput.{DrivenInput}
use Rattle.driven.proofs.Sought.{sought_laws}
use Rattle.inputs.proofs.Reported.{row_there, row_status}

module _ (cs ps fs : List ℤ) (scene : Scene cs ps) (p port : ℕ) where
  abbrev n : ℕ
  n = component_count cs

  within : Within n (signals cs ps)
  within = signals_within cs ps scene.ends

  turned : Within n (flip (signals cs ps))
  turned a b e = let w = within b a e in (w.1, w.0)

  laws : SoughtLaws n (flip (signals cs ps)) (drive_sources cs fs) (immediate_sources cs ps p port)
  laws = sought_laws n (flip (signals cs ps)) turned (drive_sources cs fs) (immediate_sources cs ps p port)

  -- a drive source is upstream of the port
  abbrev Driving : Type 0
  Driving = (g : ℕ) × (marked (drive_sources cs fs) g ≡ true) × (marked (reached n (flip (signals cs ps)) (immediate_sources cs ps p port)) g ≡ true)

  -- ---- a drive source upstream, and an immediate source that is driven

  driving_fed : Driving → fed_by cs ps p port (drive cs ps fs) ≡ true
  unfolding fed_by drive
  driving_fed (g, goal, up) =
      let from = ((reach_laws n (flip (signals cs ps)) turned (immediate_sources cs ps p port)).exactly g).0 up in
      let s = from.0 in
      let source = source_found cs ps fs p port s (sym (tabulated_at (is_immediate cs ps p port) false n s from.1) ∙ from.2) in
      let low : g < n = omega (arith, marked_below (drive_sources cs fs) g goal, flags_long cs (is_drive cs fs)) in
      let driven : marked (reached n (signals cs ps) (drive_sources cs fs)) s ≡ true =
      ((reach_laws n (signals cs ps) within (drive_sources cs fs)).exactly s).1 (g, low, goal, Reach·flip from.3) in
      some_at (λ k. feeds_port cs ps p port k && marked (reached n (signals cs ps) (drive_sources cs fs)) (source_member cs ps k)) (port_count ps) source.0 source.1
      (ap (λ (t : Bool). t && marked (reached n (signals cs ps) (drive_sources cs fs)) (source_member cs ps source.0)) source.2
      ∙ ap (marked (reached n (signals cs ps) (drive_sources cs fs))) source.3 ∙ driven)

  fed_driving : fed_by cs ps p port (drive cs ps fs) ≡ true → Driving
  unfolding drive
  fed_driving e =
      let f = fed_found cs ps fs p port e in
      let s = source_member cs ps f.0 in
      let r = reach_laws n (signals cs ps) within (drive_sources cs fs) in
      let low : s < n = omega (arith, marked_below (reached n (signals cs ps) (drive_sources cs fs)) s f.3, r.long) in
      let from = (r.exactly s).0 f.3 in (
        from.0,
        from.2,
        ((reach_laws n (flip (signals cs ps)) turned (immediate_sources cs ps p port)).exactly from.0).1 (
          s,
          low,
          tabulated_at (is_immediate cs ps p port) false n s low ∙ source_at cs ps fs p port f.0 f.1 f.2,
          Reach·flip {edge = flip (signals cs ps)} from.3,
        ),
      )

  pub driven_laws : DrivenLaws cs ps fs p port
  unfolding upstream_from upstream
  driven_laws = record {
    status = λ rules. (
      λ e. fed_zero cs ps fs p port rules (driving_fed (laws.stops.0 e)),
      λ e. laws.stops.1 (fed_driving (zero_fed cs ps fs p port rules e)),
    );
    met_upstream = laws.met_reached;
    one_drive = laws.one_goal;
    all_met = laws.all_met;
    no_drive = laws.no_goal;
    long = laws.long;
  }

-- ---- the answer

-- the members of the set of a list of flags
in-set : {n : ℕ} (l : List Bool) {words : List ℕ} → length l ≡ n → SetWhere n (marked l) words → (k : ℕ) → member_of words k ≡ marked l k
in-set {n} l long s k =
    s.member k
    ∙ ⊎_elim
    (λ (past : n ≤ k). rw (le-ltb k n past) (sym (get_or-eq_default l false (omega (arith, long)))))
    (λ (here : k < n). rw (lt-ltb k n here))
    (order? n k)

module _ {rules : ℕ} {cs ps fs : List ℤ} {id port : ℕ} {stack stack' : List ℕ} {r : DrivenInput} (a : Asked rules cs ps fs id port stack stack' (Ok r)) where
  checks : input_refusal rules cs ps fs id port (length stack) ≡ Ok tt
  checks = sym a.by.answer

  parts : (query_refusal rules cs ps fs (length stack) ≡ Ok tt) × (refuse Fault.NoVerdictRow None (too_short (is_found (row_place rules cs id port))) ≡ Ok tt)
  parts = both_accept (query_refusal rules cs ps fs (length stack)) (refuse Fault.NoVerdictRow None (too_short (is_found (row_place rules cs id port)))) checks

  scene : Scene cs ps
  scene = scene_of_lem (liveness_accept rules cs ps fs (room_for (component_count cs) 2 (length stack)) parts.0)

  answered : (p : ℕ) → row_place rules cs id port ≡ Some p → AnswerLaws rules cs ps fs id port r
  answered p e =
      let at : PortDriven cs ps fs (Some p) port r = subst (λ (f : Option ℕ). PortDriven cs ps fs f port r) e a.by.found in
      let laws = driven_laws cs ps fs scene p port in
      let yes : r.driven ≡ (upstream_from cs ps fs p port).stopped = at.driven_is in
      let met : (k : ℕ) → member_of r.met.words k ≡ marked (upstream_from cs ps fs p port).met k = in-set (upstream_from cs ps fs p port).met laws.long at.met_set in
      record {
        place = p;
        row = e;
        status = λ by. (λ h. (laws.status by).0 (sym yes ∙ h), λ h. yes ∙ (laws.status by).1 h);
        reported = λ by there. (
          λ h. subst (λ (s : ℕ). HasRow id port s (input_rows by cs ps fs)) ((laws.status by).0 (sym yes ∙ h)) (row_there by cs ps fs id port p there),
          λ h. yes ∙ (laws.status by).1 (row_status by cs ps fs id port p there scene.distinct 0 h),
        );
        met_upstream = λ k h. laws.met_upstream k (sym (met k) ∙ h);
        one_drive = λ h. let o = laws.one_drive (sym yes ∙ h) in (o.0, met o.0 ∙ o.1, o.2, λ k m d. o.3 k (sym (met k) ∙ m) d);
        all_met = λ h k. met k ∙ ap (λ (l : List Bool). marked l k) (laws.all_met (sym yes ∙ h));
        no_drive = λ h k m. laws.no_drive (sym yes ∙ h) k (sym (met k) ∙ m);
      }

  pub answer_laws : AnswerLaws rules cs ps fs id port r
  answer_laws = go (row_place rules cs id port) refl parts.1
    where
      go : (f : Option ℕ) → row_place rules cs id port ≡ f → refuse Fault.NoVerdictRow None (too_short (is_found f)) ≡ Ok tt → AnswerLaws rules cs ps fs id port r
      go (Some p) e h = answered p e
      go None e h = absurd (refused_not h)
