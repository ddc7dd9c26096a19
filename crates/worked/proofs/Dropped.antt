-- The worked sheet's plot with a Support connection more, which is dropped: its report is the same. A report is made of what the connections
-- join and which are kept: these alone are computed, and no forest, which has as many places as a scene may have components.
-- Assumes nothing.
use Prim.Native.Nat.{ℕ}
use mathlib.Core.Path.{◌≡◌, refl}
use mathlib.Core.List.{[]}
use Rattle.lists.specs.First.{first_from}
use Rattle.lists.specs.Ids.{place_below}
use Rattle.circuit.specs.Topology.{net_kinds, fragment_kinds, joins, joins_of}
use Rattle.faces.specs.Ports.{opposite, face_or, neither, repeater_ports, ports_by_facing, ports_for}
use Rattle.faces.specs.Select.{serves, select_port, transfer_of}
use Rattle.faces.specs.Step.{shift_between, facing_between, slope_between}
use Rattle.scene.specs.Kept.{ports_between, rows_below, kept_rows, sloped_below, sloped_rows}
use Rattle.report.specs.Report.{component_row, component_rows, region_row, region_rows, report_of}
use Rattle.report.proofs.RowText.{rows_same}
use Rattle.worked.specs.Example.{lever_and_repeater, from_lever, and_support}

same_nets : joins_of lever_and_repeater and_support net_kinds ≡ joins_of lever_and_repeater from_lever net_kinds
unfolding first_from place_below joins
same_nets = refl

same_fragments : joins_of lever_and_repeater and_support fragment_kinds ≡ joins_of lever_and_repeater from_lever fragment_kinds
unfolding first_from place_below joins
same_fragments = refl

same_kept : kept_rows 1 lever_and_repeater and_support ≡ kept_rows 1 lever_and_repeater from_lever
unfolding first_from place_below opposite face_or neither repeater_ports ports_by_facing ports_for serves select_port transfer_of shift_between facing_between ports_between rows_below
same_kept = refl

same_sloped : sloped_rows 1 lever_and_repeater and_support ≡ sloped_rows 1 lever_and_repeater from_lever
unfolding first_from place_below opposite face_or neither repeater_ports ports_by_facing ports_for serves select_port transfer_of shift_between facing_between slope_between ports_between sloped_below
same_sloped = refl

same_components : (n : ℕ) → component_rows 1 lever_and_repeater and_support [] n ≡ component_rows 1 lever_and_repeater from_lever [] n
same_components n =
    rows_same (component_row 1 lever_and_repeater and_support []) (component_row 1 lever_and_repeater from_lever []) n
    (λ p l. rw (same_nets, same_fragments, same_kept))

same_regions : (n : ℕ) → region_rows 1 lever_and_repeater and_support [] n ≡ region_rows 1 lever_and_repeater from_lever [] n
same_regions n = rows_same (region_row 1 lever_and_repeater and_support []) (region_row 1 lever_and_repeater from_lever []) n (λ r l. rw same_kept)

pub dropped_uncounted : report_of 1 lever_and_repeater and_support [] ≡ report_of 1 lever_and_repeater from_lever []
unfolding report_of
dropped_uncounted = simp (same_components, same_regions, same_kept, same_sloped)
