-- A plot with a lamp, by rules 1 and 2, as antt computes it.
--     rules_differ        its rows
-- Assumes nothing.
use mathlib.Core.Path.{refl}
use Rattle.sets.specs.Members.{count_below}
use Rattle.lists.specs.First.{first_from, tabulate}
use Rattle.lists.specs.Ids.{place_below, smaller_ids}
use Rattle.faces.specs.Ports.{opposite, face_or, neither, repeater_ports, ports_by_facing, ports_for}
use Rattle.regions.specs.Graph as graph
use Rattle.regions.specs.Kosaraju as walk
use Rattle.signals.specs.Signals.{signals}
use Rattle.signals.specs.Sources.{source_kind, first_at, is_on_frontier}
use Rattle.signals.specs.Regions.{holds_drive, fed_from_outside, neighbours, is_inferred}
use Rattle.signals.specs.Drive.{members_where, drive, potential}
use Rattle.assessment.specs.Verdicts.{fed_by, status_of, port_rows, verdict_rows, sources_at, source_rows_below}
use Rattle.assessment.specs.RulesLaws.{RulesDiffer}

pub rules_differ : RulesDiffer
unfolding count_below first_from tabulate place_below smaller_ids opposite face_or neither repeater_ports ports_by_facing ports_for graph.range graph.filter graph.each graph.next walk.visit walk.order walk.paint walk.label walk.labels walk.reached signals source_kind first_at is_on_frontier holds_drive fed_from_outside neighbours is_inferred members_where drive potential fed_by status_of port_rows verdict_rows sources_at source_rows_below
rules_differ = record {
  sources_1 = refl;
  inputs_1 = refl;
  sources_2 = refl;
  inputs_2 = refl;
}
