-- `signals::stages::build_fed` meets its contract: the ports that the settled ends feed can be sorted as pairs.
-- Assumes nothing.
use mathlib.Core.Path.{◌≡◌, ◌∙◌}
use mathlib.Core.List.{List}
use Prim.Native.Nat.{ℕ, ◌<◌}
use native.Mathlib.Omega.{arith}
use lib.ListN.{get_or}
use lib.IntN.{ℤ}
use Rattle.lists.specs.Records.{port_count}
use Rattle.lists.specs.Ends.{sources_of, sinks_of}
use Rattle.lists.proofs.EndLaws.{sources_length, sinks_length}
use Rattle.signals.specs.Signals.{is_signal}
use Rattle.signals.specs.Keys.{signal_key, signal_keys}
use Rattle.signals.proofs.Graph.{settled_small, sortable_slots}
use Rattle.signals.proofs.Tabulated.{tab_length, tab_at, listed_keys}
use Rattle.signals.proofs.stages.build_fed.Goals as goal

-- keys are of the first numbers of the two lists alone
same_keys : (ps : List ℤ) (firsts seconds others : List ℕ) (nowhere : ℕ) → ((k : ℕ) → k < port_count ps → get_or seconds k 0 ≡ get_or others k 0)
    → signal_keys ps firsts seconds nowhere ≡ signal_keys ps firsts others nowhere
same_keys ps firsts seconds others nowhere same =
    let key : ℕ → ℕ = λ k. signal_key (is_signal ps k) (get_or firsts k 0) (get_or seconds k 0) nowhere in
    listed_keys ps firsts others nowhere (tab_length key (port_count ps)) (λ k h. tab_at key (port_count ps) k h ∙ rw (same k h))

pub settle_slots-requires-clause-by_index : goal.settle_slots-requires-clause-by_index
settle_slots-requires-clause-by_index c = let ends = c.requires.settled.1 in settled_small ends.0 ends.1.1

pub signal_keys-requires-clause-sortable : goal.signal_keys-requires-clause-sortable
signal_keys-requires-clause-sortable c =
    let ends = c.requires.settled.1 in
    let few = c.args.ports.within.few in
    let fed = c.settle_slots.new.fed in
    let s =
    sortable_slots ends.0 c.args.ports.within ends.1.0 ends.1.1 c.settle_slots.ensures.slots
    (omega (arith, few, c.settle_slots.auto.fed, sources_length fed)) (omega (arith, c.requires.ports_in_bounds.0, sources_length c.args.ends.now)) in
    record {
      firsts_long = s.firsts_long;
      seconds_long = omega (arith, few, c.settle_slots.auto.fed, sinks_length fed);
      first = s.first;
      second = λ k h. rw (c.settle_slots.ensures.sources k h) (s.second k h);
      nowhere_small = s.nowhere_small;
    }

pub returns : goal.returns
returns c =
    let fed = c.settle_slots.new.fed in
    record {
      slots = sources_of fed;
      slots_are = c.settle_slots.ensures.slots;
      fed_keys = record { sorted = rw (same_keys c.args.ports.numbers.now (sources_of fed) (sinks_of fed) (sources_of c.args.ends.now) _ c.settle_slots.ensures.sources) at c.signal_keys.ensures.sorted };
    }
