-- Answers for the goals that the search leaves.
use native.Mathlib.Omega.{arith}
use Rattle.inputs.proofs.Status.{marked_below}
use Rattle.trail.proofs.Best.{best_down, none_down}
use Rattle.trail.proofs.Found.{forward_levels}
use Rattle.trail.proofs.find.find_way.Goals as goal

pub returns-in_err-start : goal.returns-in_err-start
returns-in_err-start c =
    let levelled = forward_levels c.requires.turned c.level_all.ensures in
    rw c.from_residual.ensures (none_down levelled (c.in_err-start.ensures))

pub walk_down-requires : goal.walk_down-requires
walk_down-requires c =
    let pre = c.requires in
    let levelled = forward_levels pre.turned c.level_all.ensures in
    let start = c.in_ok-start.ensures in (
      pre.nodes,
      record {
        feeds = _;
        levelled = levelled;
        node = omega (arith, marked_below c.args.drives.now c.in_ok-start.start start.drives, pre.drives_length);
        reaches = start.reaches;
        way_room = omega (arith, pre.way_room, c.level_all.auto.queue);
      },
    )

pub returns : goal.returns
returns c =
    let levelled = forward_levels c.requires.turned c.level_all.ensures in
    let start = c.in_ok-start.ensures in
    let way = c.walk_down.ensures in
    rw c.from.ensures (levelled.low c.in_ok-start.start, rw way.way_is (best_down levelled c.in_ok-start.start way.rest start way.down))
