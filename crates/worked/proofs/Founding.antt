-- The founding case, as antt computes it.
-- Assumes nothing.
use mathlib.Core.Path.{refl}
use Rattle.sets.specs.Members.{count_below}
use Rattle.lists.specs.First.{first_from, all_from, tabulate}
use Rattle.lists.specs.Ranges.{record_in_range, first_out_of_range}
use Rattle.lists.specs.Order.{record_before, first_not_ascending}
use Rattle.lists.specs.Ids.{place_below, first_repeated, first_end_missing, smaller_ids}
use Rattle.checks.specs.Refusals.{not_whole, scene_lists, liveness_lists}
use Rattle.regions.specs.Graph as graph
use Rattle.regions.specs.Kosaraju as walk
use Rattle.signals.specs.Signals.{signals}
use Rattle.signals.specs.Regions.{is_cyclic}
use Rattle.worked.specs.Founding.{StraightRow, ClearedBlock}

pub straight_row : StraightRow
unfolding count_below first_from all_from tabulate record_in_range first_out_of_range record_before first_not_ascending place_below first_repeated first_end_missing smaller_ids not_whole scene_lists liveness_lists graph.range graph.filter graph.each graph.next walk.visit walk.order walk.paint walk.label walk.labels signals is_cyclic
straight_row = record { accepted = refl; each_alone = refl; none_cyclic = refl }

pub cleared_block : ClearedBlock
unfolding first_from all_from record_in_range first_out_of_range record_before first_not_ascending place_below first_repeated first_end_missing smaller_ids not_whole scene_lists liveness_lists
cleared_block = record { source = refl; source_inside = refl; sink = refl }
