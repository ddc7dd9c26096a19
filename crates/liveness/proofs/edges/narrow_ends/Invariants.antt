-- `liveness::edges::narrow_ends` meets its contract: the ends of the connections before k are written. Assumes nothing.
use Rattle.std.proofs.Common.{◌≡◌, ℕ, ◌<◌, cond, get_or}
use Rattle.lists.specs.Limits.{component_limit}
use Rattle.lists.proofs.EndLaws.{none}
use Rattle.signals.specs.Signals.{is_signal}
use Rattle.liveness.proofs.edges.narrow_ends.Given as goal

abbrev pub invariant-loop-k : goal.invariant-loop-k
invariant-loop-k l = record {
  froms : (j : ℕ) → j < l.k → get_or l.sources j 0 ≡ (get_or l.ends j none).source;
  tos : (j : ℕ) → j < l.k → get_or l.sinks j 0 ≡ cond (is_signal l.ports.numbers.now j) (get_or l.ends j none).sink component_limit;
}
