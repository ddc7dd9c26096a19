-- Answers for the goals that the search leaves: the connections by their narrow ends are the graph of the signal edges.
use Rattle.std.proofs.Common.{rules, ◌≡◌, length}
use Rattle.lists.specs.Records.{port_count}
use Rattle.signals.proofs.Ends.{ends_within}
use Rattle.signals.proofs.Graph.{settled_small}
use Rattle.liveness.proofs.Linked.{forward_rows, backward_rows}
use Rattle.liveness.proofs.plot.Plot.rows.Goals as goal

pub narrow_ends-requires-clause-members : goal.narrow_ends-requires-clause-members
narrow_ends-requires-clause-members c =
    let a = c.args.self.now.accepted in
    let few = a.scene.components.few in
    rw c.port_list-2.ensures (λ k h. (settled_small few a.ends.source_members k h, settled_small few a.ends.sink_members k h))

pub returns-clause-forward : goal.returns-clause-forward
returns-clause-forward c =
    let a = c.args.self.now.accepted in
    let ends = rw c.port_list-2.ensures at c.narrow_ends.ensures in
    let long : length c.narrow_ends.new.sources ≡ port_count c.args.self.now.ports.now = search rules in
    forward_rows a.scene.components.few a.ends (ends_within _ _ a.scene.ends) ends long c.requires.nodes.0 c.build_rows.ensures.forward

pub returns-clause-backward : goal.returns-clause-backward
returns-clause-backward c =
    let a = c.args.self.now.accepted in
    let ends = rw c.port_list-2.ensures at c.narrow_ends.ensures in
    let long : length c.narrow_ends.new.sources ≡ port_count c.args.self.now.ports.now = search rules in
    backward_rows a.scene.components.few a.ends (ends_within _ _ a.scene.ends) ends long c.requires.nodes.0 c.build_rows.ensures.backward
