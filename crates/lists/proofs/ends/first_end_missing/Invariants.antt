-- `lists::ends::first_end_missing` meets its contract: what is left to search has the answer.
-- Assumes nothing.
use mathlib.Core.Path.{◌≡◌}
use mathlib.Core.List.{List}
use Prim.Native.Nat.{◌-◌}
use lib.IntN.{ℤ}
use Rattle.lists.specs.First.{first_from}
use Rattle.lists.specs.Ids.{end_missing, first_end_missing, IdTable}
use Rattle.lists.specs.Ends.{SettledEnds, sources_of, sinks_of}
use Rattle.lists.proofs.ends.first_end_missing.Given as goal

abbrev pub invariant-loop-k : goal.invariant-loop-k
invariant-loop-k l = (cs : List ℤ) → IdTable cs l.keys → SettledEnds cs l.ports.numbers.now (sources_of l.ends) (sinks_of l.ends) → first_from (end_missing cs l.ports.numbers.now) l.k (l.k-end - l.k) ≡ first_end_missing cs l.ports.numbers.now
