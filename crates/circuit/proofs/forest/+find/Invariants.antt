-- The measure of the cycle of calls: the gap from the place's rank to the largest, twice, since each step up is two calls. Assumes nothing.
use Prim.Native.Nat.{◌+◌, ◌-◌, ◌*◌}
use lib.ListN.{get_or}
use Rattle.lists.specs.Limits.{rank_limit}
use Rattle.circuit.proofs.forest.+find.Given as goal

abbrev pub decreases-find : goal.decreases-find
decreases-find l = 2 * (rank_limit - get_or l.ranks.now l.v 0) + 1

abbrev pub decreases-find_above : goal.decreases-find_above
decreases-find_above l = 2 * (rank_limit - get_or l.ranks.now l.v 0)
