-- `trail::plot::write_ids` meets its contract. The loop's invariant: the ids of the members passed stand at the front of the list.
-- Assumes nothing.
use mathlib.Core.Path.{◌≡◌}
use mathlib.Core.List.{map}
use lib.ListN.{take}
use Rattle.lists.specs.Slices.{laid}
use Rattle.trail.specs.Scene.{id_of}
use Rattle.trail.proofs.plot.write_ids.Given as goal

abbrev pub invariant-loop-i : goal.invariant-loop-i
invariant-loop-i l = l.trail ≡ laid (map (id_of l.keys) (take l.i l.way)) l.fn.trail
