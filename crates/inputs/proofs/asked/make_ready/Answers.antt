-- `inputs::asked::make_ready` meets its contract: the edges are sorted by the port that they feed, and the rows are filled along the edges
-- of the prepared scene.
-- Assumes nothing.
use Rattle.std.proofs.Common.{◌≡◌, List, ℕ, ℤ, length, sym, ◌∙◌, arith, rules}
use Rattle.regions.specs.Kosaraju.{region_of}
use Rattle.graph.specs.Rows.{edges_of}
use Rattle.liveness.specs.Scene.{Scene, Prepared}
use Rattle.liveness.proofs.Inferring.{graph}
use Rattle.liveness.proofs.Lent.{flags_lent, nodes_are, nodes_few}
use Rattle.inputs.proofs.Inputs.{fed_scene}
use Rattle.inputs.proofs.Asking.{rows_as}
use Rattle.inputs.proofs.asked.make_ready.Goals as goal

-- the labels of a prepared scene are the regions of its rows
labels_by : {cs ps : List ℤ} → Scene cs ps → {ends next back_ends back labelled members region_of_place : List ℕ}
    → Prepared cs ps ends next back_ends back labelled members region_of_place → labelled ≡ region_of (length ends) (edges_of ends next)
labels_by scene p = rw (p.forward.rows.nodes, graph scene p) p.labels_are

pub inferred_members-requires : goal.inferred_members-requires
inferred_members-requires c =
    let a = c.args.plot.now.plot.accepted in flags_lent a ∙ nodes_are a

pub upstream_rows-requires : goal.upstream_rows-requires
upstream_rows-requires c =
    let p = c.args.plot.now.prepared in
    let a = c.args.plot.now.plot.accepted in
    record {
      nodes = (
        omega (arith, p.forward.rows.nodes, a.scene.components.few),
        omega (arith, p.forward.rows.nodes, c.inferred_members.auto.inferred, flags_lent a, nodes_are a),
      );
      labels = labels_by a.scene p;
      rows_empty = c.requires.upstream;
    }

pub returns : goal.returns
returns c =
    let p = c.args.plot.now.prepared in
    let a = c.args.plot.now.plot.accepted in
    record {
      fed_scene = fed_scene a (rw c.port_list.ensures at c.build_fed.ensures);
      labels_are = p.labels_are;
      rows = rows_as p.forward.rows.nodes (graph a.scene p) c.inferred_members.ensures c.upstream_rows.ensures;
      rows_long = search rules;
    }

pub slice_bounds-flags-end : goal.slice_bounds-flags-end
slice_bounds-flags-end c = nodes_few c.args.plot.now.plot.accepted

pub slice_bounds-inferred-end : goal.slice_bounds-inferred-end
slice_bounds-inferred-end c = sym (flags_lent c.args.plot.now.plot.accepted)
