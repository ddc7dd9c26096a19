-- `rings::count::flag_enough` meets its contract: the flags passed are those of their numbers.
-- Assumes nothing.
use Rattle.std.proofs.Common.{◌≡◌, ℕ, ◌<◌, get_or}
use lib.Dec.{leb}
use Rattle.regions.specs.Graph.{marked}
use Rattle.rings.proofs.count.flag_enough.Given as goal

abbrev pub invariant-loop-r : goal.invariant-loop-r
invariant-loop-r l = (j : ℕ) → j < l.r → marked l.flags j ≡ leb (get_or l.sizes j 0) (get_or l.joins j 0)
