-- Answers for the goals that the search leaves.
use mathlib.Core.Path.{sym, ap, ◌∙◌}
use Rattle.lists.specs.Ids.{member_of}
use Rattle.lists.specs.Records.{component_count}
use Rattle.liveness.proofs.Lent.{nodes_are, nodes_few}
use Rattle.regions.specs.Graph.{Edges}
use Rattle.graph.specs.Rows.{edges_of}
use Rattle.graph.proofs.Rows.{edges_are}
use Rattle.reach_table.proofs.Scenes.{listed_at}
use Rattle.reach_table.proofs.Starting.{cleared_holds, started}
use Rattle.reach_table.proofs.start.start_square.Goals as goal

pub put_diagonal-requires : goal.put_diagonal-requires
put_diagonal-requires c =
    let a = c.args.plot.now.accepted in
    record { few = nodes_few a; long = rw (nodes_are a) (c.fill.auto.self ∙ c.requires.room) }

pub put_edges-requires : goal.put_edges-requires
put_edges-requires c = (c.requires.edges.rows.nodes, c.put_diagonal.auto.square ∙ c.fill.auto.self ∙ c.requires.room)

pub returns : goal.returns
returns c =
    let a = c.args.plot.now.accepted in
    let l = c.args.plot.now in
    let n = component_count l.components.now in
    let zeros = cleared_holds n c.args.square.now c.fill.new.self c.requires.room (c.fill.ensures.after (λ y e. e)) in
    started l.components.now (edges_of c.args.graph.ends.now c.args.graph.next.now) zeros (rw (nodes_are a) at c.put_diagonal.ensures) c.put_edges.ensures (λ x y hx hy.
    listed_at l.components.now l.ports.now a.scene x y hx hy
    ∙ ap (λ (g : Edges). g (member_of l.components.now x) (member_of l.components.now y)) (sym (edges_are c.requires.edges.rows)))
