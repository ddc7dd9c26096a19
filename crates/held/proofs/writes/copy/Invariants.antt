-- `held::writes::copy` meets its contract: the places passed are copied.
-- Assumes nothing.
use Rattle.std.proofs.Common.{◌≡◌, ℕ, ◌<◌, get_or}
use lib.IntN.{pos}
use Rattle.held.proofs.writes.copy.Given as goal

abbrev pub invariant-loop-k : goal.invariant-loop-k
invariant-loop-k l = (j : ℕ) → j < l.k → get_or l.to j (pos 0) ≡ get_or l.from j (pos 0)
