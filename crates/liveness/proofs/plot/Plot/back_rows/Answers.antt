-- Answers for the goals that the search leaves: the connections by their narrow ends, exchanged, are the graph of the signal edges turned
-- around.
use Rattle.std.proofs.Common.{rules, ◌≡◌, length, sym, subst, ◌∙◌}
use Rattle.lists.specs.Records.{port_count}
use Rattle.signals.proofs.Ends.{ends_within}
use Rattle.signals.proofs.Graph.{settled_small}
use Rattle.regions.specs.Graph.{Edges}
use Rattle.graph.specs.Rows.{Rows}
use Rattle.graph.proofs.Turned.{linked_turned}
use Rattle.liveness.proofs.Linked.{backward_rows}
use Rattle.liveness.proofs.plot.Plot.back_rows.Goals as goal

pub narrow_ends-requires-clause-members : goal.narrow_ends-requires-clause-members
narrow_ends-requires-clause-members c =
    let a = c.args.self.now.accepted in
    let few = a.scene.components.few in
    rw c.port_list-2.ensures (λ k h. (settled_small few a.ends.source_members k h, settled_small few a.ends.sink_members k h))

pub returns : goal.returns
returns c =
    let a = c.args.self.now.accepted in
    let ends = rw c.port_list-2.ensures at c.narrow_ends.ensures in
    let long : length c.narrow_ends.new.sources ≡ port_count c.args.self.now.ports.now = search rules in
    let sinks : length c.narrow_ends.new.sinks ≡ port_count c.args.self.now.ports.now = search rules in
    let n = length c.args.ends.now in
    let turned = linked_turned n c.narrow_ends.new.sources c.narrow_ends.new.sinks (long ∙ sym sinks) in
    backward_rows a.scene.components.few a.ends (ends_within _ _ a.scene.ends) ends long c.requires.nodes
    (subst (λ (g : Edges). Rows n g c.build_one_way.new.ends c.build_one_way.new.next) turned c.build_one_way.ensures)
