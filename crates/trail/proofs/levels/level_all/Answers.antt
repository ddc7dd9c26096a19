-- Answers for the goals that the search leaves.
use native.Mathlib.Numerals.{add-one}
use Rattle.regions.specs.Graph.{marked}
use Rattle.trail.proofs.levels.level_all.Goals as goal

pub loop-head-preserved : goal.loop-head-preserved
loop-head-preserved c = rw add-one (c.spread-tail.ensures (marked c.args.feeds.now) c.loop-head.invariant)
