-- The straight wire 0, 1, 2 with a connection from a cleared block 9 into its first component, as antt computes it: the liveness entry
-- refuses it with 7 at item 2, the tool drops that item, and the cleared scene has three regions, none of them cyclic. Then a row of each kind.
-- Assumes nothing.
use Rattle.std.specs.Prelude.{Some, None, Ok}
use Prim.Native.Nat.{ℕ}
use mathlib.Core.Path.{◌≡◌, refl}
use mathlib.Core.Bool.{true, false}
use mathlib.Core.List.{List, [], ◌∷◌, ◌++◌}
use lib.IntN.{ℤ, pos}
use Rattle.sets.specs.Members.{count_below}
use Rattle.lists.specs.declared.Fault.{Fault}
use Rattle.lists.specs.declared.Section.{Section}
use Rattle.lists.specs.First.{first_from, all_from, tabulate}
use Rattle.lists.specs.Ranges.{record_in_range, first_out_of_range}
use Rattle.lists.specs.Order.{record_before, first_not_ascending}
use Rattle.lists.specs.Ids.{place_below, first_repeated, first_end_missing, smaller_ids}
use Rattle.checks.specs.Refusals.{refuse, not_whole, scene_lists, liveness_lists}
use Rattle.regions.specs.Graph as graph
use Rattle.regions.specs.Kosaraju as walk
use Rattle.signals.specs.Signals.{signals}
use Rattle.signals.specs.Regions.{region_count, is_cyclic}
use Rattle.clearing.specs.Parts.{kept_rows, dropped_rows}
use Rattle.clearing.specs.Entry.{clear_refusal}

-- a RedstoneWire at x
abbrev wire : ℕ → List ℤ
wire x = pos x ∷ pos x ∷ pos 0 ∷ pos 0 ∷ pos 0 ∷ pos 0 ∷ pos 0 ∷ pos 0 ∷ []

-- a port connection between ports 0, of a transfer
abbrev feed : ℕ → ℕ → ℕ → List ℤ
feed source sink transfer = pos source ∷ pos 0 ∷ pos sink ∷ pos 0 ∷ pos transfer ∷ []

abbrev plot : List ℤ
plot = wire 0 ++ wire 1 ++ wire 2

abbrev saved : List ℤ
saved = feed 0 1 0 ++ feed 1 2 0 ++ feed 9 0 0

abbrev straight : List ℤ
straight = feed 0 1 0 ++ feed 1 2 0

saved_refused : liveness_lists 1 plot saved [] true ≡ refuse Fault.MissingEnd (Some Section.Connections) (Some 2)
unfolding first_from all_from record_in_range first_out_of_range record_before first_not_ascending place_below first_repeated first_end_missing not_whole scene_lists liveness_lists
saved_refused = refl

-- fifteen and six numbers are lent
saved_taken : clear_refusal 1 plot saved [] 15 6 ≡ Ok tt
unfolding first_from all_from record_in_range first_out_of_range record_before first_not_ascending place_below first_repeated first_end_missing not_whole scene_lists liveness_lists
saved_taken = refl

saved_kept : kept_rows plot saved ≡ straight
unfolding first_from place_below
saved_kept = refl

-- item 2, its source missing
saved_dropped : dropped_rows plot saved ≡ 2 ∷ 0 ∷ []
unfolding first_from place_below
saved_dropped = refl

straight_accepted : liveness_lists 1 plot straight [] true ≡ Ok tt
unfolding first_from all_from record_in_range first_out_of_range record_before first_not_ascending place_below first_repeated first_end_missing not_whole scene_lists liveness_lists
straight_accepted = refl

three_regions : region_count plot straight ≡ 3
unfolding count_below first_from place_below smaller_ids graph.range graph.filter graph.each graph.next walk.visit walk.order walk.paint walk.label walk.labels signals
three_regions = refl

none_cyclic : tabulate (is_cyclic plot straight) 3 ≡ false ∷ false ∷ false ∷ []
unfolding count_below first_from tabulate place_below smaller_ids graph.range graph.filter graph.each graph.next walk.visit walk.order walk.paint walk.label walk.labels signals is_cyclic
none_cyclic = refl

-- one place short of either list: number 2, before all that is asked of the records
short_kept : clear_refusal 1 plot saved [] 14 6 ≡ refuse Fault.ShortSlice None (Some 0)
unfolding not_whole scene_lists liveness_lists
short_kept = refl

short_dropped : clear_refusal 1 plot saved [] 15 5 ≡ refuse Fault.ShortSlice None (Some 0)
unfolding not_whole scene_lists liveness_lists
short_dropped = refl

-- and rules that there are not: number 11, before that
strange_rules_first : clear_refusal 0 plot saved [] 14 5 ≡ refuse Fault.UnknownRules None (Some 0)
unfolding scene_lists liveness_lists
strange_rules_first = refl

-- a row of each kind: a sink, both ends and both ends of one id are missing; a support connection with missing ends stays
abbrev mixed : List ℤ
mixed = feed 0 7 0 ++ feed 8 9 6 ++ feed 8 9 0 ++ feed 1 2 3 ++ feed 9 9 0

mixed_kept : kept_rows plot mixed ≡ feed 8 9 6 ++ feed 1 2 3
unfolding first_from place_below
mixed_kept = refl

mixed_dropped : dropped_rows plot mixed ≡ 0 ∷ 1 ∷ 2 ∷ 2 ∷ 4 ∷ 2 ∷ []
unfolding first_from place_below
mixed_dropped = refl
