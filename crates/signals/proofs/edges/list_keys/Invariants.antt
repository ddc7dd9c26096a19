-- `signals::edges::list_keys` meets its contract. The loop's invariant: the keys before `k` are those of their port connections.
-- Assumes nothing.
use Rattle.std.proofs.Common.{◌≡◌, ℕ, ◌<◌, get_or}
use Rattle.lists.proofs.EndLaws.{none}
use Rattle.signals.specs.Signals.{is_signal}
use Rattle.signals.specs.Keys.{signal_key}
use Rattle.signals.proofs.edges.list_keys.Given as goal

abbrev pub invariant-loop-k : goal.invariant-loop-k
invariant-loop-k l = (j : ℕ) → j < l.k → get_or l.keys j 0 ≡ signal_key (is_signal l.ports.numbers.now j) (get_or l.ends j none).source (get_or l.ends j none).sink l.nowhere
