-- `inputs::query::walk_tables` meets its contract: the edges are sorted by the port that they feed, and the plot is prepared.
-- Assumes nothing.
use Rattle.inputs.proofs.Inputs.{fed_scene}
use Rattle.inputs.proofs.query.walk_tables.Goals as goal

pub inferred_members-requires : goal.inferred_members-requires
inferred_members-requires c = rw c.prepare-prepared.ensures.plot c.requires.inferred_len.0

pub returns : goal.returns
returns c =
    let plot = c.prepare-prepared.ensures.plot in (
      record {
        fed_scene = fed_scene c.args.plot.accepted (rw c.port_list.ensures at c.build_fed.ensures);
        turned = rw plot at c.prepare-prepared.result.prepared.backward;
        inferred_are = rw plot at c.inferred_members.ensures;
      },
      c.prepare-prepared.ensures.stack,
    )
