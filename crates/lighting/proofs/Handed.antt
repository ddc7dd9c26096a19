-- The marks that the program hands on along the edges are those of the pass.
--     regions_fit                          the numbers of regions that marks are carried by
--     carried_by                           marks carried along the edges of a prepared scene
--     handed_lit                           the marks carried from the regions that hold a drive source
--     regions_are, driven_at               the regions written, and the members' marks
--     lit_accepted                         the entry's answer, where the checks accept
-- Assumes nothing.
use Rattle.std.specs.Prelude.{Ok}
use mathlib.Core.Path.{◌≡◌, sym, ap, ◌∙◌}
use mathlib.Core.Bool.{Bool, false}
use mathlib.Core.List.{List}
use Prim.Native.Nat.{ℕ, ◌≤◌, ◌<◌}
use native.Mathlib.Omega.{arith}
use lib.ListN.{length, get_or, drop}
use lib.IntN.{ℤ}
use Rattle.sets.specs.Members.{member_of}
use Rattle.lists.specs.Limits.{component_limit}
use Rattle.lists.specs.Records.{component_count}
use Rattle.lists.specs.First.{tabulate}
use Rattle.lists.specs.Ids as Ids
use Rattle.lists.proofs.Members.{member_below}
use Rattle.regions.specs.Graph.{at, marked}
use Rattle.graph.specs.Rows.{edges_of}
use Rattle.graph.specs.Carried.{Carried}
use Rattle.signals.specs.Signals.{signals}
use Rattle.signals.specs.Sources.{is_drive}
use Rattle.signals.specs.Regions.{labels, region_count, region_of_place, regions_of, holds_drive}
use Rattle.signals.specs.Drive.{drive}
use Rattle.signals.specs.Flags.{Flags}
use Rattle.signals.proofs.Tabulated.{tabulated_length, tabulated_at}
use Rattle.signals.proofs.Within.{scene_regions}
use Rattle.assessment.proofs.Reached.{Exactly, drive_is}
use Rattle.liveness.specs.Scene.{Scene, Prepared}
use Rattle.liveness.proofs.Inferring.{graph}
use Rattle.liveness.proofs.Answers.{tabulated_same}
use Rattle.liveness.proofs.Demands.{demand_3, region_laid}
use Rattle.liveness.proofs.Meanings.{asked_below, fed_from}
use Rattle.lighting.specs.Pass.{lit}
use Rattle.lighting.specs.Entry.{light_refusal, LitBy, Lighted}
use Rattle.lighting.specs.declared.Lit.{Lit}
use Rattle.lighting.proofs.Lights.{lit_drive, light_laws}

-- ---- the regions of a scene

pub regions_fit : {cs ps : List ℤ} → Scene cs ps → region_count cs ps ≤ component_limit
regions_fit {cs} {ps} scene = omega (arith, (scene_regions cs ps scene.ends).few, scene.components.few)

module _ {cs ps : List ℤ} (scene : Scene cs ps) {ends next back_ends back labelled members region_at : List ℕ}
    (p : Prepared cs ps ends next back_ends back labelled members region_at) where
  -- what is written
  pub regions_are : tabulate (λ q. get_or region_at q 0) (length region_at) ≡ regions_of cs ps
  regions_are =
      tabulated_same (λ q. get_or region_at q 0) (region_of_place cs ps) (length region_at) (λ q h. p.regions_are.at q (omega (arith, p.regions_long)))
      ∙ ap (tabulate (region_of_place cs ps)) p.regions_long

  -- ---- the marks

  pub carried_by : {before after : List Bool} → Carried (length ends) (edges_of ends next) before after
      → Exactly (component_count cs) (signals cs ps) (marked before) (marked after)
  carried_by c = let e = rw (p.forward.rows.nodes, graph scene p) at c in record { exactly = e.exactly }

module _ (cs ps fs : List ℤ) (scene : Scene cs ps) {marks : List Bool} (marks' : List Bool) (flags : Flags component_limit (holds_drive cs ps fs) marks)
    (carried : Exactly (component_count cs) (signals cs ps) (marked marks) (marked marks')) where
  -- the mark of a member's region
  spreads : ℕ → Bool
  spreads m = marked marks' (at (labels cs ps) m)

  carried_drive : tabulate spreads (component_count cs) ≡ drive cs ps fs
  unfolding spreads
  carried_drive =
      let out = tabulate spreads (component_count cs) in
      let long : length out ≡ component_count cs = tabulated_length spreads (component_count cs) in
      drive_is cs ps scene.components.few scene.ends fs carried long
      record { long = omega (arith, long); at = λ m h. tabulated_at spreads false (component_count cs) m h } flags

  carried_lit : (r : ℕ) → r < region_count cs ps → marked marks' r ≡ lit cs ps fs r
  unfolding spreads
  carried_lit r h =
      let (m, l, e) = (scene_regions cs ps scene.ends).onto r h in
      ap (marked marks') (sym e)
      ∙ sym (tabulated_at spreads false (component_count cs) m l)
      ∙ ap (λ (f : List Bool). marked f m) carried_drive
      ∙ lit_drive cs ps fs scene m l
      ∙ ap (lit cs ps fs) e

  pub handed_lit : region_count cs ps ≤ length marks' → Flags (region_count cs ps) (lit cs ps fs) marks'
  handed_lit long = record { long = long; at = carried_lit }

-- the mark of a member, spread from its region's
pub driven_at : (cs ps fs : List ℤ) (scene : Scene cs ps) {labelled : List ℕ} {marks : List Bool} → labelled ≡ labels cs ps
    → Flags (region_count cs ps) (lit cs ps fs) marks → (m : ℕ) → m < component_count cs
    → marked marks (get_or labelled m 0) ≡ marked (drive cs ps fs) m
driven_at cs ps fs scene {marks = marks} e flags m h =
    ap (λ (l : List ℕ). marked marks (get_or l m 0)) e
    ∙ flags.at _ ((scene_regions cs ps scene.ends).below m h)
    ∙ sym (lit_drive cs ps fs scene m h)

-- ---- the answer

pub lit_accepted : {rules : ℕ} {cs ps fs : List ℤ} {regions regions' stack stack' : List ℕ} {a : Lit}
    → light_refusal rules cs ps fs (length regions) (length stack) ≡ Ok tt → Scene cs ps
    → LitBy (Ok tt) cs ps fs regions regions' stack stack' (Ok a) → Lighted rules cs ps fs regions regions' stack stack' (Ok a)
unfolding drive
lit_accepted {cs} {ps} {fs} {regions} {regions'} {a = a} e scene by =
    let laws = light_laws cs ps fs scene in
    let rest : List ℕ = drop (length (regions_of cs ps)) regions in record {
      by = rw e by;
      demand = rw (by.regions_left, by.found.count_is) (demand_3 cs ps scene rest);
      driven = fed_from cs ps scene (is_drive cs fs) by.found.driven_set;
      whole = λ p h.
          asked_below by.found.driven_set (Ids.member_of cs p) (member_below cs p h)
          ∙ laws.driven p h
          ∙ sym (asked_below by.found.lit_set (region_of_place cs ps p) ((scene_regions cs ps scene.ends).below (Ids.member_of cs p) (member_below cs p h)))
          ∙ ap (member_of a.lit.words) (sym (region_laid cs ps rest p h) ∙ ap (λ (l : List ℕ). get_or l p 0) (sym by.regions_left));
      laws = laws;
    }
