-- `signals::stages::flag_large` meets its contract: the flags passed are set where their region is large, the others are as they were.
-- Assumes nothing.
use Rattle.std.proofs.Common.{◌≡◌, ◌||◌, ℕ, ◌≤◌, get_or}
use lib.Dec.{leb}
use Rattle.regions.specs.Graph.{marked}
use Rattle.signals.specs.Flags.{Flags}
use Rattle.signals.proofs.stages.flag_large.Given as goal

abbrev pub invariant-loop-r : goal.invariant-loop-r
invariant-loop-r l = record {
  large : Flags l.r (λ j. leb 2 (get_or l.sizes j 0) || marked l.fn.flags j) l.flags;
  left : (j : ℕ) → l.r ≤ j → marked l.flags j ≡ marked l.fn.flags j;
}
