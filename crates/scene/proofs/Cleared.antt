-- The founding case by reasons and the plot that has each number, as antt computes them.
-- Assumes nothing.
use mathlib.Core.Path.{refl}
use Rattle.lists.specs.First.{first_from, tabulate}
use Rattle.lists.specs.Ids.{place_below}
use Rattle.faces.specs.Ports.{opposite, face_or, neither, repeater_ports, ports_by_facing, ports_for}
use Rattle.faces.specs.Step.{shift_between, facing_between}
use Rattle.faces.specs.Select.{serves, select_port, transfer_of}
use Rattle.scene.specs.Kept.{ports_between, rows_below}
use Rattle.scene.specs.Reasons.{reason_between}
use Rattle.scene.specs.Cleared.{ClearedRow, EachNumber}

pub cleared_row : ClearedRow
unfolding first_from tabulate place_below opposite face_or neither repeater_ports ports_by_facing ports_for shift_between facing_between serves select_port transfer_of ports_between rows_below reason_between
cleared_row = record { reasons = refl; kept = refl }

pub each_number : EachNumber
unfolding first_from tabulate place_below opposite face_or neither repeater_ports ports_by_facing ports_for shift_between facing_between serves select_port reason_between
each_number = record { reasons = refl }
