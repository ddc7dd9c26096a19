-- The one pass over the regions at the worked plots, as antt computes it.
-- Assumes nothing.
use mathlib.Core.Path.{refl}
use Rattle.sets.specs.Members.{count_below}
use Rattle.lists.specs.First.{first_from, tabulate}
use Rattle.lists.specs.Ids.{smaller_ids}
use Rattle.regions.specs.Graph as graph
use Rattle.regions.specs.Kosaraju as walk
use Rattle.signals.specs.Signals.{signals}
use Rattle.signals.specs.Sources.{source_kind, first_at, is_on_frontier}
use Rattle.signals.specs.Regions.{holds_drive}
use Rattle.lighting.specs.Pass.{feeds, lit_below}
use Rattle.worked.specs.Lighting.{LitPlots}

pub lit_plots : LitPlots
unfolding count_below first_from tabulate smaller_ids graph.range graph.filter graph.each graph.next walk.visit walk.order walk.paint walk.label walk.labels signals source_kind first_at is_on_frontier holds_drive feeds lit_below
lit_plots = record {
  w1 = refl;
  w6 = refl;
  w7 = refl;
  w8 = refl;
  w9_lamp = refl;
  w9_solid = refl;
  w10 = refl;
  w11 = refl;
  w12 = refl;
  lamp_last = refl;
  lamp_lit = refl;
  lamp_dark = refl;
  one_lever = refl;
}
