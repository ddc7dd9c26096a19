-- `assessment::upstream::upstream_rows` meets its contract: the seeds, carried. Assumes nothing.
use Rattle.std.proofs.Common.{◌≡◌, length, arith}
use Rattle.graph.proofs.Carrying.{labels_long}
use Rattle.assessment.proofs.UpRows.{region_low, upstream_all}
use Rattle.assessment.proofs.upstream.upstream_rows.Goals as goal
use Rattle.assessment.proofs.upstream.upstream_rows.Goals.{Start}

long : (s : Start) → length s.args.labels.now ≡ length s.args.graph.ends.now
long s = labels_long s.args.graph.rows.rows.within s.requires.labels

pub by_region-requires-clause-nodes : goal.by_region-requires-clause-nodes
by_region-requires-clause-nodes c =
    let s = (goal.at.by_region-requires-clause-nodes c).Start in
    (omega (arith, long s, c.requires.nodes.0), omega (arith, long s, c.requires.nodes.0))

pub by_region-requires-clause-below : goal.by_region-requires-clause-below
by_region-requires-clause-below c x h =
    let s = (goal.at.by_region-requires-clause-below c).Start in
    rw c.requires.labels (omega (arith, region_low c.args.graph.rows.rows.within x (omega (arith, long s)), c.requires.nodes.0))

pub seed_rows-requires-clause-indices : goal.seed_rows-requires-clause-indices
seed_rows-requires-clause-indices c =
    let s = (goal.at.seed_rows-requires-clause-indices c).Start in
    let within = c.args.graph.rows.rows.within in (
      record {
        long = omega arith;
        below = λ p h. rw c.requires.labels (omega (arith, region_low within p (omega (arith, long s)), c.requires.nodes.0));
      },
      (omega (arith, long s, c.requires.nodes.0), omega (arith, long s, c.requires.nodes.1)),
    )

pub carry_rows-requires-clause-nodes : goal.carry_rows-requires-clause-nodes
carry_rows-requires-clause-nodes c = rw (long (goal.at.carry_rows-requires-clause-nodes c).Start) at c.by_region.ensures.sorted

pub returns : goal.returns
returns c =
    let s = (goal.at.returns c).Start in
    upstream_all c.args.graph.rows.rows.within c.requires.labels (rw (long s) at c.seed_rows.ensures) c.carry_rows.ensures
