-- `held::connections::connection_keys` meets its contract: the keys of the connections below k are filled in.
-- Assumes nothing.
use Rattle.std.specs.Prelude.{List, ℤ}
use Rattle.lists.specs.Ids.{IdTable}
use Rattle.held.specs.Inspected.{KeysBelow}
use Rattle.held.proofs.connections.connection_keys.Given as goal

abbrev pub invariant-loop-k : goal.invariant-loop-k
invariant-loop-k l = (cs : List ℤ) → IdTable cs l.table → KeysBelow cs l.ports.numbers.now l.keys l.k
