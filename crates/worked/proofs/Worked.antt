-- W1 to W12, as antt computes them: each plot, and then the single list.
-- Assumes nothing.
use Prim.Native.Nat.{ℕ}
use mathlib.Core.Path.{◌≡◌, refl, ap, ap₂}
use mathlib.Core.List.{List, [], ◌∷◌}
use lib.ListN.{get_or}
use Rattle.sets.specs.Members.{count_below}
use Rattle.lists.specs.First.{first_from, all_from, tabulate}
use Rattle.lists.specs.Ranges.{record_in_range, first_out_of_range}
use Rattle.lists.specs.Order.{record_before, first_not_ascending}
use Rattle.lists.specs.Ids.{place_below, first_repeated, first_end_missing, smaller_ids}
use Rattle.checks.specs.Refusals.{not_whole, scene_lists, grouping_lists, liveness_lists}
use Rattle.lines.specs.Decimal.{digits_then}
use Rattle.circuit.specs.Forest as forest
use Rattle.circuit.specs.Groups.{roots_below, groups_of}
use Rattle.circuit.specs.Topology.{net_kinds, joins, joins_of, nets_of, net_count}
use Rattle.faces.specs.Ports.{opposite, face_or, neither, repeater_ports, ports_by_facing, ports_for}
use Rattle.faces.specs.Select.{serves, select_port, transfer_of}
use Rattle.faces.specs.Step.{facing_between, slope_between}
use Rattle.scene.specs.Kept.{ports_between, rows_below, sloped_below}
use Rattle.regions.specs.Graph as graph
use Rattle.regions.specs.Kosaraju as walk
use Rattle.signals.specs.Signals.{signals}
use Rattle.signals.specs.Sources.{source_kind, first_at, is_on_frontier}
use Rattle.signals.specs.Regions.{is_cyclic, holds_drive, fed_from_outside, neighbours, is_inferred}
use Rattle.signals.specs.Drive.{members_where, drive, potential}
use Rattle.assessment.specs.Verdicts.{fed_by, status_of, port_rows, verdict_rows, sources_at, source_rows_below}
use Rattle.blocks.specs.Lines.{field_lines}
use Rattle.report.specs.Report.{all_rows, verdict_lines, report_of}
use Rattle.worked.specs.Plots.{dust, Answers, grouping_checks, ids_of, three, expected, Worked, w1, w2, w3, w4, w5, w6, w7, w8, w9, w10, w11, w12}
use Rattle.worked.proofs.Forests.{single_places_lem}

abbrev Is : Answers → ℕ → Type 0
Is answers k = answers ≡ get_or expected k []

w1_is : Is w1 0
unfolding first_from first_out_of_range first_not_ascending first_repeated first_end_missing not_whole scene_lists grouping_lists liveness_lists digits_then field_lines roots_below rows_below sloped_below graph.range graph.each walk.order walk.labels verdict_rows source_rows_below all_rows verdict_lines report_of
w1_is = refl

-- the forest of W2 has a place for each component that a scene may have: its numbers are computed once
w2_numbers : nets_of three (dust 2 0) ≡ 1 ∷ 0 ∷ 1 ∷ []
unfolding first_from place_below forest.range forest.redirect forest.link forest.unite_roots forest.unite forest.unite_all roots_below groups_of joins graph.range
w2_numbers = ap (λ (f : forest.Forest). groups_of (forest.unite_all f (joins_of three (dust 2 0) net_kinds)) 3) single_places_lem

w2_count : net_count three (dust 2 0) ≡ 2
unfolding first_from place_below forest.redirect forest.link forest.unite_roots forest.unite forest.unite_all roots_below joins graph.range
w2_count = ap (λ (f : forest.Forest). roots_below (forest.unite_all f (joins_of three (dust 2 0) net_kinds)) 3) single_places_lem

w2_is : Is w2 1
unfolding first_from all_from tabulate record_in_range first_out_of_range record_before first_not_ascending place_below first_repeated not_whole scene_lists grouping_lists graph.range graph.filter
w2_is = ap₂ (λ (numbers : List ℕ) (n : ℕ). grouping_checks three (dust 2 0) ∷ tabulate (ids_of three numbers) n) w2_numbers w2_count

w3_is : Is w3 2
unfolding facing_between slope_between
w3_is = refl

w4_is : Is w4 3
unfolding first_from all_from record_in_range first_out_of_range record_before first_not_ascending place_below first_repeated not_whole scene_lists grouping_lists opposite face_or neither repeater_ports ports_by_facing ports_for serves select_port transfer_of facing_between slope_between ports_between sloped_below
w4_is = refl

w5_is : Is w5 4
unfolding opposite face_or neither repeater_ports ports_by_facing ports_for
w5_is = refl

w6_is : Is w6 5
unfolding count_below first_from all_from tabulate record_in_range first_out_of_range record_before first_not_ascending place_below first_repeated first_end_missing smaller_ids not_whole scene_lists liveness_lists graph.range graph.filter graph.each graph.next walk.visit walk.order walk.paint walk.label walk.labels signals source_kind first_at is_on_frontier is_cyclic holds_drive fed_from_outside neighbours is_inferred sources_at source_rows_below
w6_is = refl

w7_is : Is w7 6
unfolding count_below first_from all_from tabulate record_in_range first_out_of_range record_before first_not_ascending place_below first_repeated first_end_missing smaller_ids not_whole scene_lists liveness_lists graph.range graph.filter graph.each graph.next walk.visit walk.order walk.paint walk.label walk.labels signals source_kind first_at is_on_frontier is_cyclic holds_drive fed_from_outside neighbours is_inferred sources_at source_rows_below
w7_is = refl

w8_is : Is w8 7
unfolding count_below first_from all_from tabulate record_in_range first_out_of_range record_before first_not_ascending place_below first_repeated first_end_missing smaller_ids not_whole scene_lists liveness_lists opposite face_or neither repeater_ports ports_by_facing ports_for graph.range graph.filter graph.each graph.next walk.visit walk.order walk.paint walk.label walk.labels walk.reached signals source_kind first_at is_on_frontier holds_drive fed_from_outside neighbours is_inferred members_where drive potential fed_by status_of port_rows verdict_rows
w8_is = refl

w9_is : Is w9 8
unfolding count_below first_from all_from record_in_range first_out_of_range record_before first_not_ascending place_below first_repeated first_end_missing smaller_ids not_whole scene_lists liveness_lists graph.range graph.filter graph.each graph.next walk.visit walk.order walk.paint walk.label walk.labels signals source_kind first_at is_on_frontier holds_drive fed_from_outside neighbours is_inferred sources_at source_rows_below
w9_is = refl

w10_is : Is w10 9
unfolding count_below first_from all_from tabulate record_in_range first_out_of_range record_before first_not_ascending place_below first_repeated first_end_missing smaller_ids not_whole scene_lists liveness_lists graph.range graph.filter graph.each graph.next walk.visit walk.order walk.paint walk.label walk.labels signals
w10_is = refl

w11_is : Is w11 10
unfolding count_below first_from all_from record_in_range first_out_of_range record_before first_not_ascending place_below first_repeated first_end_missing smaller_ids not_whole scene_lists liveness_lists graph.range graph.filter graph.each graph.next walk.visit walk.order walk.paint walk.label walk.labels signals source_kind first_at is_on_frontier holds_drive fed_from_outside neighbours is_inferred sources_at source_rows_below
w11_is = refl

w12_is : Is w12 11
unfolding count_below first_from all_from tabulate record_in_range first_out_of_range record_before first_not_ascending place_below first_repeated first_end_missing smaller_ids not_whole scene_lists liveness_lists opposite face_or neither repeater_ports ports_by_facing ports_for graph.range graph.filter graph.each graph.next walk.visit walk.order walk.paint walk.label walk.labels walk.reached signals source_kind first_at is_on_frontier holds_drive fed_from_outside neighbours is_inferred members_where drive potential fed_by status_of port_rows verdict_rows
w12_is = refl

pub worked : Worked
worked =
    ap₂ ◌∷◌ w1_is (ap₂ ◌∷◌ w2_is (ap₂ ◌∷◌ w3_is (ap₂ ◌∷◌ w4_is (ap₂ ◌∷◌ w5_is (ap₂ ◌∷◌ w6_is (
    ap₂ ◌∷◌ w7_is (ap₂ ◌∷◌ w8_is (ap₂ ◌∷◌ w9_is (ap₂ ◌∷◌ w10_is (ap₂ ◌∷◌ w11_is (ap₂ ◌∷◌ w12_is refl)))))))))))
