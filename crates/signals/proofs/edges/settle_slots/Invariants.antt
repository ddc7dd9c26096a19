-- `signals::edges::settle_slots` meets its contract: each slot up to the present one is settled.
-- Assumes nothing.
use Rattle.std.proofs.Common.{◌≡◌, ℕ, ◌<◌, get_or, length}
use Rattle.lists.proofs.EndLaws.{none}
use Rattle.lists.specs.Records.{port_connection}
use Rattle.signals.specs.Keys.{slot}
use Rattle.signals.proofs.edges.settle_slots.Given as goal

abbrev pub invariant-loop-k : goal.invariant-loop-k
invariant-loop-k l =
    (length l.fed ≡ length l.initial.fed)
    × ((j : ℕ) → j < l.k →
    ((get_or l.fed j none).source ≡ slot (get_or l.ends j none).sink (port_connection l.ports.numbers.now j).sink_port_of)
    × ((get_or l.fed j none).sink ≡ (get_or l.ends j none).source))
