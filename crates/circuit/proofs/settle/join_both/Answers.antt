-- `circuit::settle::join_both` meets its contract: where an end is no component, nothing is joined.
-- Assumes nothing.
use lib.Dec.{leb}
use Rattle.circuit.specs.Topology.{net_kinds, fragment_kinds}
use Rattle.circuit.proofs.Settling.{none_joined, half_joined}
use Rattle.circuit.proofs.settle.join_both.Goals as goal

pub returns-in_default-sink-clause-nets : goal.returns-in_default-sink-clause-nets
returns-in_default-sink-clause-nets c =
    rw (c.in-Some.is, c.in_default-sink.is) (half_joined (leb c.args.kind net_kinds) c.args.nets.now c.in-Some.a)

pub returns-in_default-sink-clause-fragments : goal.returns-in_default-sink-clause-fragments
returns-in_default-sink-clause-fragments c =
    rw (c.in-Some.is, c.in_default-sink.is) (half_joined (leb c.args.kind fragment_kinds) c.args.fragments.now c.in-Some.a)

pub returns-in_default-clause-nets : goal.returns-in_default-clause-nets
returns-in_default-clause-nets c = rw c.in_default.is (none_joined (leb c.args.kind net_kinds) c.args.nets.now c.args.sink)

pub returns-in_default-clause-fragments : goal.returns-in_default-clause-fragments
returns-in_default-clause-fragments c = rw c.in_default.is (none_joined (leb c.args.kind fragment_kinds) c.args.fragments.now c.args.sink)
