-- `held::writes::drop_connections` meets its contract: the first k connections are done.
-- Assumes nothing.
use Rattle.held.proofs.DropLaws.{KeptSo}
use Rattle.held.proofs.writes.drop_connections.Given as goal

abbrev pub invariant-loop-k : goal.invariant-loop-k
invariant-loop-k l = KeptSo l.initial.list l.list l.id l.k l.count
