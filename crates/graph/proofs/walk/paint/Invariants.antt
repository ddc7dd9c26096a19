-- `graph::walk::paint` meets its contract. The loop's invariant: the members before the place are painted. Assumes nothing.
use mathlib.Core.Path.{◌≡◌}
use lib.ListN.{take}
use Rattle.regions.specs.Kosaraju as Kosaraju
use Rattle.graph.proofs.walk.paint.Given as goal

abbrev pub invariant-loop-member : goal.invariant-loop-member
invariant-loop-member l = l.labels ≡ Kosaraju.paint l.r (take l.member-index l.members) l.initial.labels
