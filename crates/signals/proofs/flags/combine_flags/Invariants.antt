-- `signals::flags::combine_flags` meets its contract: the flags passed are joined, and the others are as they were.
-- Assumes nothing.
use Rattle.std.proofs.Common.{◌≡◌, ℕ, ◌≤◌}
use Rattle.regions.specs.Graph.{marked}
use Rattle.signals.specs.Flags.{Flags}
use Rattle.signals.proofs.flags.combine_flags.Given as goal

abbrev pub invariant-loop-p : goal.invariant-loop-p
invariant-loop-p g l = record {
  joined : Flags l.p (λ k. g.joined (marked l.fn.flags k) (marked l.others k)) l.flags;
  left : (k : ℕ) → l.p ≤ k → marked l.flags k ≡ marked l.fn.flags k;
}
