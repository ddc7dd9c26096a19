-- Steps that climb, and wires that lead up a step, on, and down again.
-- Assumes nothing.
use mathlib.Core.Path.{refl}
use Rattle.lists.specs.First.{first_from}
use Rattle.lists.specs.Ids.{place_below}
use Rattle.faces.specs.Ports.{opposite, face_or, ports_by_facing, ports_for}
use Rattle.faces.specs.Select.{serves, select_port, transfer_of}
use Rattle.faces.specs.Step.{facing_between, slope_between}
use Rattle.scene.specs.Kept.{ports_between, rows_below, sloped_below}
use Rattle.worked.specs.Staircase.{Climbs}

pub climbs : Climbs
unfolding first_from place_below opposite face_or ports_by_facing ports_for serves select_port transfer_of facing_between slope_between ports_between rows_below sloped_below
climbs = record {
  up = refl;
  down = refl;
  two_up = refl;
  north = refl;
  north_up = refl;
  north_down = refl;
  out_of_range = refl;
  out_of_range_level = refl;
  rows = refl;
  kept = refl;
}
