-- A port of an accepted scene has a trail exactly if its status is 0.
-- Assumes nothing.
use Prim.Native.Nat.{ℕ, ◌<◌}
use mathlib.Core.Path.{◌≡◌, ap, ◌∙◌}
use mathlib.Core.Bool.{Bool, true, false, ◌&&◌, false≢true}
use mathlib.Core.List.{List, [], ◌∷◌}
use mathlib.Core.Logic.{◌↔◌}
use native.Mathlib.Omega.{arith}
use lib.IntN.{ℤ}
use Rattle.lists.specs.Records.{component_count, port_count}
use Rattle.lists.proofs.Search.{both}
use Rattle.lists.proofs.Some.{some_at, and_true}
use Rattle.regions.specs.Graph.{Edges, Reach, marked}
use Rattle.regions.specs.Graph.Reach.{here, step}
use Rattle.regions.specs.Kosaraju.{reached}
use Rattle.regions.specs.Theorems.{ReachLaws}
use Rattle.regions.proofs.Theorems.{reach_laws}
use Rattle.signals.specs.Signals.{signals, source_member}
use Rattle.signals.specs.Sources.{is_drive}
use Rattle.signals.specs.Drive.{drive}
use Rattle.signals.proofs.Within.{signals_within}
use Rattle.signals.proofs.Tabulated.{tabulated_at}
use Rattle.assessment.specs.Verdicts.{feeds_port, fed_by, status_of}
use Rattle.liveness.specs.Scene.{Scene}
use Rattle.inputs.specs.Query.{is_immediate}
use Rattle.inputs.specs.Port.{drive_sources, immediate_sources}
use Rattle.inputs.proofs.Inputs.{flags_long}
use Rattle.inputs.proofs.Status.{marked_below, source_found, source_at, fed_found, fed_zero, zero_fed}
use Rattle.trail.specs.Trail.{onward, trail}
use Rattle.trail.proofs.Named.{tabulated_true}

-- ---- a way is a chain of edges to a node that feeds the port

onward_reach : {edge : Edges} {feeds : ℕ → Bool} (x : ℕ) (l : List ℕ) → onward edge feeds x l ≡ true → (z : ℕ) × Reach edge x z × (feeds z ≡ true)
unfolding onward
onward_reach x [] h = (x, here, h)
onward_reach x (y ∷ l) h = let w = both _ _ h in let r = onward_reach y l w.1 in (r.0, step w.0 r.1, r.2)

reach_onward : {edge : Edges} (feeds : ℕ → Bool) {x z : ℕ} → Reach edge x z → feeds z ≡ true → (l : List ℕ) × (onward edge feeds x l ≡ true)
unfolding onward
reach_onward feeds here h = ([], h)
reach_onward feeds (step {b = y} e r) h = let w = reach_onward feeds r h in (y ∷ w.0, and_true _ _ e w.1)

module _ (cs ps fs : List ℤ) (scene : Scene cs ps) (p port : ℕ) where
  abbrev n : ℕ
  n = component_count cs

  -- a list of members is a trail of the port
  abbrev MemberTrail : List ℕ → Type 0
  MemberTrail l = trail (marked (drive_sources cs fs)) (signals cs ps) (marked (immediate_sources cs ps p port)) l ≡ true

  laws : ReachLaws n (signals cs ps) (drive_sources cs fs)
  laws = reach_laws n (signals cs ps) (signals_within cs ps scene.ends) (drive_sources cs fs)

  trail_fed : (l : List ℕ) → MemberTrail l → fed_by cs ps p port (drive cs ps fs) ≡ true
  unfolding trail fed_by drive
  trail_fed [] h = absurd (false≢true h)
  trail_fed (s ∷ l) h =
      let w = both (marked (drive_sources cs fs) s) _ h in
      let r = onward_reach s l w.1 in
      let f = source_found cs ps fs p port r.0 (tabulated_true (is_immediate cs ps p port) n r.0 r.2).1 in
      let low : s < n = omega (arith, marked_below (drive_sources cs fs) s w.0, flags_long cs (is_drive cs fs)) in
      let driven : marked (reached n (signals cs ps) (drive_sources cs fs)) r.0 ≡ true = (laws.exactly r.0).1 (s, low, w.0, r.1) in
      some_at (λ k. feeds_port cs ps p port k && marked (reached n (signals cs ps) (drive_sources cs fs)) (source_member cs ps k)) (port_count ps) f.0 f.1
      (and_true _ _ f.2 (ap (marked (reached n (signals cs ps) (drive_sources cs fs))) f.3 ∙ driven))

  fed_trail : fed_by cs ps p port (drive cs ps fs) ≡ true → (l : List ℕ) × MemberTrail l
  unfolding trail drive
  fed_trail e =
      let f = fed_found cs ps fs p port e in
      let z = source_member cs ps f.0 in
      let low : z < n = omega (arith, marked_below (reached n (signals cs ps) (drive_sources cs fs)) z f.3, laws.long) in
      let from = (laws.exactly z).0 f.3 in
      let last = tabulated_at (is_immediate cs ps p port) false n z low ∙ source_at cs ps fs p port f.0 f.1 f.2 in
      let way = reach_onward (marked (immediate_sources cs ps p port)) from.3 last in
      (from.0 ∷ way.0, and_true _ _ from.2 way.1)

  pub status_trail : (rules : ℕ) → (status_of rules cs ps fs p port ≡ 0) ↔ ((l : List ℕ) × MemberTrail l)
  status_trail rules = (λ e. fed_trail (zero_fed cs ps fs p port rules e), λ t. fed_zero cs ps fs p port rules (trail_fed t.0 t.1))
