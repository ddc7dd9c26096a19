-- Plots under each rules number, as antt computes them.
-- Assumes nothing.
use Rattle.std.specs.Prelude.{⊤, Result, Ok}
use Rattle.lists.specs.declared.Refusal.{Refusal}
use Prim.Native.Nat.{ℕ}
use mathlib.Core.Path.{◌≡◌, refl, ap, ap₂}
use mathlib.Core.List.{List, [], ◌∷◌}
use Rattle.sets.specs.Members.{count_below}
use Rattle.lists.specs.First.{first_from, all_from, tabulate}
use Rattle.lists.specs.Ranges.{record_in_range, first_out_of_range}
use Rattle.lists.specs.Order.{record_before, first_not_ascending}
use Rattle.lists.specs.Ids.{place_below, first_repeated, first_end_missing, smaller_ids}
use Rattle.checks.specs.Refusals.{not_whole, scene_lists, grouping_lists, liveness_lists, sheet_refusal, ◌or_else◌}
use Rattle.lines.specs.Decimal.{digits_then}
use Rattle.lines.specs.Line.{read_digits, read_end, read_magnitude, read_number, has_key, read_line}
use Rattle.forms.specs.declared.Style.TheVariants.{Old}
use Rattle.forms.specs.Numbers.{digits_until, zero_until, magnitude_until, number_until}
use Rattle.forms.specs.Form.{times, has_prefix, read_field, read_fields, lines_of}
use Rattle.forms.specs.Sheet.{Sheet, read_head, read_list, parse_lists, parse}
use Rattle.circuit.specs.Forest as forest
use Rattle.circuit.specs.Groups.{roots_below, groups_of}
use Rattle.circuit.specs.Topology.{net_kinds, fragment_kinds, joins, joins_of, nets_of, fragments_of}
use Rattle.faces.specs.Ports.{opposite, face_or, neither, repeater_ports, ports_by_facing, ports_for}
use Rattle.faces.specs.Select.{serves, select_port, transfer_of}
use Rattle.faces.specs.Step.{facing_between, slope_between}
use Rattle.scene.specs.Kept.{ports_between, rows_below, sloped_below}
use Rattle.regions.specs.Graph as graph
use Rattle.regions.specs.Kosaraju as walk
use Rattle.signals.specs.Signals.{signals}
use Rattle.signals.specs.Sources.{source_kind, first_at, is_on_frontier}
use Rattle.signals.specs.Regions.{is_cyclic, holds_drive, fed_from_outside, neighbours, is_inferred}
use Rattle.signals.specs.Drive.{members_where, drive, potential}
use Rattle.assessment.specs.Verdicts.{fed_by, status_of, port_rows, verdict_rows, sources_at, source_rows_below}
use Rattle.blocks.specs.Lines.{field_lines}
use Rattle.report.specs.Report.{all_rows, port_lines, verdict_lines, report_of}
use Rattle.sheet.specs.Written.{fits}
use Rattle.report.specs.Entry.{report_checked}
use Rattle.worked.specs.Example.{from_lever, program_parse}
use Rattle.worked.specs.LaterRules.{UnderEach, blank_sheet, lever_and_blank, blank_report, BlankSheet}
use Rattle.worked.proofs.Forests.{single_places_lem}

pub under_each : UnderEach
unfolding count_below first_from all_from tabulate record_in_range first_out_of_range record_before first_not_ascending place_below first_repeated first_end_missing smaller_ids not_whole scene_lists liveness_lists opposite face_or neither repeater_ports ports_by_facing ports_for digits_then field_lines graph.range graph.filter graph.each graph.next walk.visit walk.order walk.paint walk.label walk.labels walk.reached signals source_kind first_at is_on_frontier holds_drive fed_from_outside neighbours is_inferred members_where drive potential fed_by status_of port_rows verdict_rows sources_at source_rows_below all_rows rows_below sloped_below roots_below verdict_lines report_of
under_each = record {
  first = refl;
  second = refl;
  third = refl;
  zeroth = refl;
  fourth = refl;
  lamp_feeds = refl;
  lamp_passes = refl;
  lamp_still_passes = refl;
  solid_1 = refl;
  solid_2 = refl;
  solid_3 = refl;
  north_1 = refl;
  north_2 = refl;
  support_alone = refl;
  comparator_too = refl;
  up = refl;
  four_inputs = refl;
  row_1 = refl;
  row_2 = refl;
  no_row = refl;
  listed = refl;
  printed = refl;
  no_block_1 = refl;
  no_block_2 = refl;
  none_unread = refl;
}

-- ---- the sheet

blank_reads : program_parse blank_sheet ≡ Sheet Old 3 lever_and_blank from_lever []
unfolding parse read_head parse_lists read_list times lines_of has_prefix read_field read_fields read_line has_key read_number read_magnitude read_digits read_end digits_until zero_until magnitude_until number_until
blank_reads = refl

-- the forests apart, since a report reads its groups' numbers at each component
blank_nets : nets_of lever_and_blank from_lever ≡ 0 ∷ 1 ∷ []
unfolding first_from place_below forest.range forest.redirect forest.link forest.unite_roots forest.unite forest.unite_all roots_below groups_of joins graph.range
blank_nets = ap (λ (f : forest.Forest). groups_of (forest.unite_all f (joins_of lever_and_blank from_lever net_kinds)) 2) single_places_lem

blank_fragments : fragments_of lever_and_blank from_lever ≡ 0 ∷ 0 ∷ []
unfolding first_from place_below forest.range forest.redirect forest.link forest.unite_roots forest.unite forest.unite_all roots_below groups_of joins graph.range
blank_fragments = ap (λ (f : forest.Forest). groups_of (forest.unite_all f (joins_of lever_and_blank from_lever fragment_kinds)) 2) single_places_lem

blank_prints : report_of 3 lever_and_blank from_lever [] ≡ blank_report
unfolding count_below first_from tabulate place_below smaller_ids digits_then field_lines opposite face_or neither repeater_ports ports_by_facing ports_for serves select_port transfer_of facing_between slope_between ports_between rows_below sloped_below graph.range graph.filter graph.each graph.next walk.visit walk.order walk.paint walk.label walk.labels walk.reached signals source_kind first_at is_on_frontier is_cyclic holds_drive fed_from_outside neighbours is_inferred members_where drive potential fed_by status_of port_rows verdict_rows sources_at source_rows_below all_rows port_lines verdict_lines report_of
blank_prints = simp (blank_nets, blank_fragments)

blank_lists : sheet_refusal 3 lever_and_blank from_lever [] ≡ Ok tt
unfolding first_from all_from record_in_range first_out_of_range record_before first_not_ascending place_below first_repeated not_whole scene_lists grouping_lists
blank_lists = refl

blank_accepts : report_checked (Sheet Old 3 lever_and_blank from_lever []) 2048 3072 768 65536 ≡ Ok tt
blank_accepts = ap₂ (λ (lists : Result ⊤ Refusal) (text : List ℕ). lists or_else fits text 65536) blank_lists blank_prints

pub blank : BlankSheet
blank = record { reads = blank_reads; accepts = blank_accepts; prints = blank_prints }
