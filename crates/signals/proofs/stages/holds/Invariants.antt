-- `signals::stages::holds` meets its contract: the neighbours passed are looked at.
-- Assumes nothing.
use Rattle.std.proofs.Common.{◌≡◌, take}
use Rattle.tables.specs.Order.{member}
use Rattle.signals.proofs.stages.holds.Given as goal

abbrev pub invariant-loop-neighbour : goal.invariant-loop-neighbour
invariant-loop-neighbour l = l.found ≡ member l.x (take l.neighbour-index l.row)
