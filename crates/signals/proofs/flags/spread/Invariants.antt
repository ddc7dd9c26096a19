-- `signals::flags::spread` meets its contract: each value passed is that of its index.
-- Assumes nothing.
use Rattle.std.proofs.Common.{◌≡◌, ℕ, ◌<◌, get_or}
use Rattle.signals.proofs.flags.spread.Given as goal

abbrev pub invariant-loop-p : goal.invariant-loop-p
invariant-loop-p g l = (k : ℕ) (d : _) → k < l.p → get_or l.out k d ≡ get_or l.values (get_or l.index k 0) d
