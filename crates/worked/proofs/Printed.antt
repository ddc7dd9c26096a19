-- The worked sheet of document 01, as antt computes it, and what the sheet entry leaves when it is handed that sheet.
-- Assumes nothing.
use Rattle.std.specs.Prelude.{⊤, Result, Ok}
use Rattle.lists.specs.declared.Refusal.{Refusal}
use Prim.Native.Nat.{ℕ}
use mathlib.Core.Path.{◌≡◌, refl, ap, ap₂, ◌∙◌}
use mathlib.Core.List.{List, [], ◌∷◌}
use lib.ListN.{length}
use lib.IntN.{ℤ}
use Rattle.sets.specs.Members.{count_below}
use Rattle.lists.specs.First.{first_from, all_from, tabulate}
use Rattle.lists.specs.Ranges.{record_in_range, first_out_of_range}
use Rattle.lists.specs.Order.{record_before, first_not_ascending}
use Rattle.lists.specs.Ids.{place_below, first_repeated, smaller_ids}
use Rattle.checks.specs.Refusals.{not_whole, scene_lists, grouping_lists, sheet_refusal, ◌or_else◌}
use Rattle.lists.specs.Slices.{laid, left_of}
use Rattle.lines.specs.Decimal.{digits_then}
use Rattle.lines.specs.Line.{read_digits, read_end, read_magnitude, read_number, has_key, read_line}
use Rattle.forms.specs.declared.Style.TheVariants.{Old, Short}
use Rattle.forms.specs.Numbers.{digits_until, zero_until, magnitude_until, number_until}
use Rattle.forms.specs.Form.{times, has_prefix, read_field, read_fields, lines_of}
use Rattle.forms.specs.Sheet.{Parsed, Sheet, read_head, read_list, parse_lists, parse}
use Rattle.sheet.specs.Entry.{rules_of, components_of, connections_of, frontiers_of}
use Rattle.circuit.specs.Forest as forest
use Rattle.circuit.specs.Groups.{roots_below, groups_of}
use Rattle.circuit.specs.Topology.{net_kinds, fragment_kinds, joins, joins_of, nets_of, fragments_of}
use Rattle.faces.specs.Ports.{opposite, face_or, neither, repeater_ports, ports_by_facing, ports_for}
use Rattle.faces.specs.Select.{serves, select_port, transfer_of}
use Rattle.faces.specs.Step.{facing_between, slope_between}
use Rattle.scene.specs.Kept.{ports_between, rows_below, sloped_below}
use Rattle.regions.specs.Graph as graph
use Rattle.regions.specs.Kosaraju as walk
use Rattle.signals.specs.Signals.{signals}
use Rattle.signals.specs.Sources.{source_kind, first_at, is_on_frontier}
use Rattle.signals.specs.Regions.{is_cyclic, holds_drive, fed_from_outside, neighbours, is_inferred}
use Rattle.signals.specs.Drive.{members_where, drive, potential}
use Rattle.assessment.specs.Verdicts.{fed_by, status_of, port_rows, verdict_rows, sources_at, source_rows_below}
use Rattle.inputs.specs.Query.{is_immediate, upstream, is_inferred_for}
use Rattle.blocks.specs.Lines.{field_lines, spaced}
use Rattle.report.specs.Report.{all_rows, member_id, ids_below, port_lines, verdict_lines, report_of}
use Rattle.sheet.specs.Written.{fits, answer_by}
use Rattle.report.specs.Entry.{report_checked, Reported}
use Rattle.worked.specs.Example.{sheet_text, short_text, lever_and_repeater, from_lever, and_support, report_text, program_parse, Example}
use Rattle.worked.proofs.Forests.{single_places_lem}
use Rattle.worked.proofs.Dropped.{dropped_uncounted}

example_reads : program_parse sheet_text ≡ Sheet Old 1 lever_and_repeater from_lever []
unfolding parse read_head parse_lists read_list times lines_of has_prefix read_field read_fields read_line has_key read_number read_magnitude read_digits read_end digits_until zero_until magnitude_until number_until
example_reads = refl

short_reads : program_parse short_text ≡ Sheet Short 1 lever_and_repeater from_lever []
unfolding parse read_head parse_lists read_list times lines_of has_prefix read_field read_fields read_line has_key read_number read_magnitude read_digits read_end digits_until zero_until magnitude_until number_until
short_reads = refl

-- the forests apart, since a report reads its groups' numbers at each component
example_nets : nets_of lever_and_repeater from_lever ≡ 0 ∷ 1 ∷ []
unfolding first_from place_below forest.range forest.redirect forest.link forest.unite_roots forest.unite forest.unite_all roots_below groups_of joins graph.range
example_nets = ap (λ (f : forest.Forest). groups_of (forest.unite_all f (joins_of lever_and_repeater from_lever net_kinds)) 2) single_places_lem

example_fragments : fragments_of lever_and_repeater from_lever ≡ 0 ∷ 0 ∷ []
unfolding first_from place_below forest.range forest.redirect forest.link forest.unite_roots forest.unite forest.unite_all roots_below groups_of joins graph.range
example_fragments = ap (λ (f : forest.Forest). groups_of (forest.unite_all f (joins_of lever_and_repeater from_lever fragment_kinds)) 2) single_places_lem

example_prints : report_of 1 lever_and_repeater from_lever [] ≡ report_text
unfolding count_below first_from tabulate place_below smaller_ids digits_then field_lines opposite face_or neither repeater_ports ports_by_facing ports_for serves select_port transfer_of facing_between slope_between ports_between rows_below sloped_below graph.range graph.filter graph.each graph.next walk.visit walk.order walk.paint walk.label walk.labels walk.reached signals source_kind first_at is_on_frontier is_cyclic holds_drive fed_from_outside neighbours is_inferred members_where drive potential fed_by status_of port_rows verdict_rows sources_at source_rows_below is_immediate upstream is_inferred_for all_rows spaced member_id ids_below port_lines verdict_lines report_of
example_prints = simp (example_nets, example_fragments)

-- `connections=` counts those kept
example_drops : report_of 1 lever_and_repeater and_support [] ≡ report_text
example_drops = dropped_uncounted ∙ example_prints

lists_accepted : sheet_refusal 1 lever_and_repeater from_lever [] ≡ Ok tt
unfolding first_from all_from record_in_range first_out_of_range record_before first_not_ascending place_below first_repeated not_whole scene_lists grouping_lists
lists_accepted = refl

example_accepts : report_checked (Sheet Old 1 lever_and_repeater from_lever []) 2048 3072 768 65536 ≡ Ok tt
example_accepts = ap₂ (λ (lists : Result ⊤ Refusal) (text : List ℕ). lists or_else fits text 65536) lists_accepted example_prints

short_accepts : report_checked (Sheet Short 1 lever_and_repeater from_lever []) 2048 3072 768 65536 ≡ Ok tt
short_accepts = ap₂ (λ (lists : Result ⊤ Refusal) (text : List ℕ). lists or_else fits text 65536) lists_accepted example_prints

pub example : Example
example = record { reads = example_reads; short_reads = short_reads; accepts = example_accepts; short_accepts = short_accepts; prints = example_prints; drops = example_drops }

-- lent what the program lends, the sheet entry writes exactly these bytes, at the front of the buffer
pub example_printed : (components components' connections connections' frontiers frontiers' : List ℤ) (out out' : List ℕ) (r : Result ℕ Refusal)
    → length components ≡ 2048 → length connections ≡ 3072 → length frontiers ≡ 768 → length out ≡ 65536
    → Reported (program_parse sheet_text) components components' connections connections' frontiers frontiers' out out' r
    → (r ≡ Ok (length report_text)) × (out' ≡ laid report_text out)
example_printed components components' connections connections' frontiers frontiers' out out' r a b c d left =
    (left.printed.answer ∙ ap₂ answer_by accepted text, left.printed.left ∙ ap₂ (λ (checks : Result ⊤ Refusal) (t : List ℕ). left_of checks t out) accepted text)
  where
    text : report_of (rules_of (program_parse sheet_text)) (components_of (program_parse sheet_text)) (connections_of (program_parse sheet_text)) (frontiers_of (program_parse sheet_text)) ≡ report_text
    text = ap (λ (p : Parsed). report_of (rules_of p) (components_of p) (connections_of p) (frontiers_of p)) example_reads ∙ example_prints

    accepted : report_checked (program_parse sheet_text) (length components) (length connections) (length frontiers) (length out) ≡ Ok tt
    accepted = rw (example_reads, a, b, c, d, example_accepts)
