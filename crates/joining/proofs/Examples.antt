-- Two tables as antt computes them: a lever and a wire on the one, the same wire and a lamp on the other.
-- Assumes nothing.
use mathlib.Core.Path.{◌≡◌, refl}
use mathlib.Core.List.{List, [], ◌∷◌, ◌++◌}
use lib.IntN.{ℤ, pos}
use Rattle.std.specs.Prelude.{Some, Ok, Err}
use Rattle.lists.specs.declared.Fault.{Fault}
use Rattle.lists.specs.declared.Section.{Section}
use Rattle.lists.specs.First.{first_from, all_from}
use Rattle.lists.specs.Ranges.{record_in_range, first_out_of_range}
use Rattle.lists.specs.Order.{record_before, first_not_ascending}
use Rattle.lists.specs.Ids.{place_below, first_repeated}
use Rattle.checks.specs.Refusals.{not_whole, scene_lists, grouping_lists}
use Rattle.circuit.specs.Forest.{range, singletons, redirect, link, unite_roots, unite, unite_all}
use Rattle.circuit.specs.Groups.{roots_below, groups_of}
use Rattle.circuit.specs.Topology.{joins, nets_of}
use Rattle.joining.specs.Split.{records, flat}
use Rattle.joining.specs.Merge.{comes_before, weave, merge_by, merged}
use Rattle.joining.specs.Conflict.{same_record, first_conflict}
use Rattle.joining.specs.Plot.{Plot, plot_of, joined, join_refusal}

-- id, x, y, z, kind, facing, support, conducts
abbrev lever : List ℤ
lever = pos 1 ∷ pos 0 ∷ pos 0 ∷ pos 0 ∷ pos 4 ∷ pos 0 ∷ pos 0 ∷ pos 0 ∷ []

abbrev wire : List ℤ
wire = pos 2 ∷ pos 1 ∷ pos 0 ∷ pos 0 ∷ pos 0 ∷ pos 0 ∷ pos 0 ∷ pos 0 ∷ []

abbrev lamp : List ℤ
lamp = pos 3 ∷ pos 2 ∷ pos 0 ∷ pos 0 ∷ pos 11 ∷ pos 0 ∷ pos 0 ∷ pos 0 ∷ []

abbrev edge : List ℤ
edge = pos 1 ∷ pos 0 ∷ pos 0 ∷ []

-- source, sink, kind
abbrev link12 : List ℤ
link12 = pos 1 ∷ pos 2 ∷ pos 0 ∷ []

abbrev link23 : List ℤ
link23 = pos 2 ∷ pos 3 ∷ pos 0 ∷ []

abbrev left : Plot
left = plot_of (lever ++ wire) link12 edge

abbrev right : Plot
right = plot_of (wire ++ lamp) (link12 ++ link23) edge

whole : joined left right ≡ plot_of (lever ++ (wire ++ lamp)) (link12 ++ link23) (edge ++ edge)
unfolding merged merge_by weave comes_before records flat
whole = refl

-- the second half comes first: the same components and connections
swapped : joined right left ≡ plot_of (lever ++ (wire ++ lamp)) (link12 ++ link23) (edge ++ edge)
unfolding merged merge_by weave comes_before records flat
swapped = refl

accepted : join_refusal 1 left right ≡ Ok tt
unfolding first_conflict same_record place_below first_from all_from merged merge_by weave comes_before records flat grouping_lists scene_lists not_whole first_out_of_range record_in_range first_not_ascending record_before first_repeated
accepted = refl

-- in the halves the lamp is not with the lever; in the whole they share a net
nets : nets_of (lever ++ (wire ++ lamp)) (link12 ++ link23) ≡ 0 ∷ 0 ∷ 0 ∷ []
unfolding groups_of unite_all unite unite_roots link redirect singletons range roots_below joins place_below first_from
nets = refl

-- ---- 14

-- the wire of the second table faces north
abbrev turned : List ℤ
turned = pos 2 ∷ pos 1 ∷ pos 0 ∷ pos 0 ∷ pos 0 ∷ pos 1 ∷ pos 0 ∷ pos 0 ∷ []

-- at the second sheet's first component, under list 0
opposed : join_refusal 1 left (plot_of (turned ++ lamp) link23 []) ≡ Err (record { fault = Fault.UnequalFields; list = Some Section.Components; item = 0 })
unfolding first_conflict same_record place_below first_from all_from
opposed = refl

-- another id at the place of the wire is no conflict, and comes after it
abbrev other : List ℤ
other = pos 7 ∷ pos 1 ∷ pos 0 ∷ pos 0 ∷ pos 0 ∷ pos 0 ∷ pos 0 ∷ pos 0 ∷ []

beside : joined left (plot_of (other ++ lamp) [] []) ≡ plot_of (lever ++ (wire ++ (other ++ lamp))) link12 edge
unfolding merged merge_by weave comes_before records flat
beside = refl

-- ---- an end that was missing in its half (A-118)

-- on the first table alone the lever's connection leads nowhere
alone : nets_of lever (pos 1 ∷ pos 3 ∷ pos 0 ∷ []) ≡ 0 ∷ []
unfolding groups_of unite_all unite unite_roots link redirect singletons range roots_below joins place_below first_from
alone = refl

-- with the second it finds the lamp, and the two share a net
together : nets_of (lever ++ lamp) (pos 1 ∷ pos 3 ∷ pos 0 ∷ []) ≡ 0 ∷ 0 ∷ []
unfolding groups_of unite_all unite unite_roots link redirect singletons range roots_below joins place_below first_from
together = refl
