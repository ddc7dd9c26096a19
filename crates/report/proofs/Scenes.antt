-- An accepted sheet: its lists, and its kept connections as a scene of the analysis.
--     sheet_scene            what the checks have shown
--     kept_scene             the liveness entry takes the kept connections
--     analyzed               what the analysis leaves
--     sloped_front, kept_cut     what port selection leaves
--     nets_long, fragments_long, regions_long, regions_few, slopes_few     how long the lists are that were left
-- Assumes nothing.
use Rattle.std.specs.Prelude.{Ok}
use mathlib.Core.Path.{◌≡◌, ap, ◌∙◌}
use mathlib.Core.Bool.{true}
use mathlib.Core.List.{List, map}
use Prim.Native.Nat.{ℕ, ◌*◌, ◌≤◌}
use native.Mathlib.Omega.{arith}
use lib.IntN.{ℤ, pos}
use lib.ListN.{length, take, length-map}
use Rattle.lists.specs.Limits.{connection_limit, kept_width}
use Rattle.lists.specs.Records.{component_count, connection_count}
use Rattle.checks.specs.Refusals.{sheet_refusal}
use Rattle.checks.proofs.Accepted.{GroupingScene, grouping_accept}
use Rattle.circuit.specs.Topology.{net_kinds, fragment_kinds, forest_of, nets_of, fragments_of}
use Rattle.circuit.proofs.Roots.{length_groups}
use Rattle.scene.specs.Kept.{sloped_rows}
use Rattle.scene.specs.Answer.{AllKept}
use Rattle.scene.proofs.KeptEnds.{kept_no_missing}
use Rattle.scene.proofs.Slopes.{sloped_count, sloped_small, cut_sloped}
use Rattle.scene.proofs.KeptWithin.{kept_within}
use Rattle.signals.specs.Regions.{region_of_place, regions_of}
use Rattle.assessment.specs.Verdicts.{source_rows, input_rows}
use Rattle.signals.proofs.Tabulated.{tab_length}
use Rattle.signals.proofs.Within.{scene_regions}
use Rattle.liveness.specs.Scene.{Scene}
use Rattle.liveness.specs.Entry.{AnalyzedBy}
use Rattle.liveness.specs.declared.Analysis.{Analysis}
use Rattle.report.specs.Report.{kept_list}
use Rattle.report.specs.Printing.{SlopedFront, Cut, Gathered, Analyzed}
use Rattle.sheet.proofs.Fronts.{front_long, front_is}
use Rattle.report.proofs.CutRows.{five_long}

module _ (rules : ℕ) (cs ps fs : List ℤ) (e : sheet_refusal rules cs ps fs ≡ Ok tt) where
  pub sheet_scene : GroupingScene rules cs ps fs true
  sheet_scene = grouping_accept rules cs ps fs true e

  pub kept_scene : Scene cs (kept_list rules cs ps)
  kept_scene = record {
    components = sheet_scene.components;
    connections = kept_within rules cs ps sheet_scene.components sheet_scene.connections.few;
    ends = kept_no_missing rules cs ps;
    ascending = sheet_scene.scene.ascending;
    distinct = sheet_scene.scene.once;
  }

-- ---- what the analysis leaves

pub analyzed : {rules : ℕ} {cs ps fs : List ℤ} {regions regions' sources sources' inputs inputs' stack stack' : List ℕ} {r : Analysis}
    → AnalyzedBy (Ok tt) rules cs ps fs regions regions' sources sources' inputs inputs' stack stack' (Ok r)
    → Analyzed rules cs ps fs regions' (take (r.sources * 2) sources') (take (r.inputs * 3) inputs') r
analyzed {rules} {cs} {ps} {fs} {regions = regions} {sources = sources} {inputs = inputs} {r = r} a = record {
  regions_old = regions;
  regions_are = a.regions_left;
  sources_are = front_is (source_rows rules cs ps fs) sources a.sources_left (r.sources * 2) a.analysis.source_count;
  inputs_are = front_is (input_rows rules cs ps fs) inputs a.inputs_left (r.inputs * 3) a.analysis.input_count;
  region_count_lem = a.analysis.region_count_lem;
  drive_set = a.analysis.drive_set;
  potential_set = a.analysis.potential_set;
  cyclic_set = a.analysis.cyclic_set;
  has_drive_set = a.analysis.has_drive_set;
}

-- ---- how long they are

module _ {rules : ℕ} {cs ps kept : List ℤ} {nets fragments slopes : List ℕ} (g : Gathered rules cs ps kept nets fragments slopes) where
  pub nets_long : component_count cs ≤ length nets
  nets_long = omega (arith, length_groups (forest_of cs ps net_kinds) (component_count cs), front_long (nets_of cs ps) g.nets_old g.nets_are)

  pub fragments_long : component_count cs ≤ length fragments
  fragments_long =
      omega (arith, length_groups (forest_of cs ps fragment_kinds) (component_count cs), front_long (fragments_of cs ps) g.fragments_old g.fragments_are)

  -- a slope for each kept connection
  pub slopes_few : Scene cs kept → length slopes ≤ connection_limit
  slopes_few s = omega (arith, s.connections.few, five_long g.sloped)

-- ---- rows of six at the front of a slice, and cut

pub sloped_front : {rules : ℕ} {cs ps out out' : List ℤ} {n : ℕ} → AllKept rules cs ps out out' n → SlopedFront (sloped_rows rules cs ps) n out'
sloped_front {rules} {cs} {ps} {out} {out'} {n} k =
    let long : length (sloped_rows rules cs ps) ≡ n * kept_width = omega (arith, sloped_count rules cs ps, k.count) in
    record {
      long = long;
      is = front_is (map pos (sloped_rows rules cs ps)) out k.rows (n * kept_width) (omega (arith, long, length-map (sloped_rows rules cs ps) pos));
      small = λ j h. omega (arith, sloped_small rules cs ps (connection_count ps) j);
    }

pub kept_cut : (rules : ℕ) (cs ps : List ℤ) {five : List ℤ} {slopes : List ℕ} → Cut (sloped_rows rules cs ps) five slopes → five ≡ kept_list rules cs ps
kept_cut rules cs ps cut = cut.five_are ∙ ap (map pos) (cut_sloped rules cs ps)

module _ {rules : ℕ} {cs ps fs : List ℤ} {regions sources inputs : List ℕ} {r : Analysis} (a : Analyzed rules cs ps fs regions sources inputs r) where
  pub regions_long : component_count cs ≤ length regions
  regions_long = omega (arith, tab_length (region_of_place cs ps) (component_count cs), front_long (regions_of cs ps) a.regions_old a.regions_are)

  pub regions_few : Scene cs ps → r.regions ≤ component_count cs
  regions_few s = omega (arith, a.region_count_lem, (scene_regions cs ps s.ends).few)
