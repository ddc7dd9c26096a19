-- Answers for the goals that the search leaves.
use Rattle.std.proofs.Common.{◌<◌, length, arith}
use Rattle.signals.proofs.Edged.{led_more}
use Rattle.signals.proofs.Rowed.{row_indices}
use Rattle.signals.proofs.inferred.flag_outside.Goals as goal

pub flag_others-requires-clause-inside : goal.flag_others-requires-clause-inside
flag_others-requires-clause-inside c =
    (c.loop-x-test.true, rw c.row.ensures (row_indices c.args.graph.rows c.requires.nodes.0 (omega arith)))

pub loop-x-preserved : goal.loop-x-preserved
loop-x-preserved c =
    let lt : c.loop-x.x < length c.args.graph.ends.now = omega (arith, c.requires.nodes.0) in
    led_more _ _ _ c.args.graph.rows c.loop-x.x lt c.flag_others.auto.fed (rw c.row.ensures at c.flag_others.ensures) c.loop-x.invariant
