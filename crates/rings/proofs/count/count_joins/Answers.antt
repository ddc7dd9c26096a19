-- `rings::count::count_joins` meets its contract.
-- Assumes nothing.
use Rattle.std.proofs.Common.{◌<◌, length, arith, rules, suc}
use Rattle.sets.proofs.Counts.{count_le}
use Rattle.regions.specs.Graph.{at}
use Rattle.graph.specs.Rows.{edges_of}
use Rattle.rings.specs.Counts.{near_in, near_either}
use Rattle.rings.proofs.Counting.{join_few, joins_none, joins_more, zeros}
use Rattle.rings.proofs.count.count_joins.Goals as goal
use Rattle.rings.proofs.count.count_joins.Goals.{In-loop-b}

-- the region of the node is one of those counted
low : (c : In-loop-b) → at c.args.network.now.labels.now c.loop-b.b < length c.loop-b.joins
low c = omega (arith, c.requires.0.below c.loop-b.b c.loop-b-test.true, c.loop-b.auto.joins, c.fill.auto.self)

pub loop-b-init : goal.loop-b-init
loop-b-init c = record {
  counted = rw (c.fill.ensures.after (λ y h. search rules)) (joins_none _ _ (length c.args.joins.now));
  marks = λ a. omega (arith, zeros 1024 a);
}

pub overflow_add-joins : goal.overflow_add-joins
overflow_add-joins c =
    let t = c.args.network.now in
    let r = at t.labels.now c.loop-b.b in
    rw c.from.ensures (omega (
      arith,
      c.loop-b.invariant.counted.is r (low (goal.at.overflow_add-joins c).In-loop-b),
      join_few (near_in (edges_of t.forward.ends.now t.forward.next.now) t.labels.now r) c.loop-b.b (omega (arith, c.loop-b-test.true, c.requires.1)),
      c.loop-b-test.true,
      c.requires.1,
      c.count_near.ensures.count,
      count_le (λ a. near_either (edges_of t.forward.ends.now t.forward.next.now) t.labels.now a c.loop-b.b) (suc c.loop-b.b),
    ))

pub loop-b-preserved : goal.loop-b-preserved
loop-b-preserved c = record {
  counted = rw c.from.ensures (joins_more c.loop-b.invariant.counted c.count_near.ensures.count (low (goal.at.loop-b-preserved c).In-loop-b));
  marks = c.count_near.ensures.marks;
}
