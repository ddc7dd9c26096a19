-- Answers for the goals that the search leaves.
use Rattle.std.proofs.Common.{◌<◌, length, get_or, arith, rules}
use Rattle.signals.proofs.Marks.{counted_none, counted_most, counted_more}
use Rattle.signals.proofs.flags.count_into.Goals as goal

pub loop-j-init : goal.loop-j-init
loop-j-init c = rw (c.fill.ensures.after (λ y h. search rules)) (counted_none c.args.index.now (length c.args.counts.now))

-- a count is at most the indices passed
pub overflow_add-counts : goal.overflow_add-counts
overflow_add-counts c =
    rw c.from.ensures (omega (arith, counted_most _ _ c.loop-j.invariant (let there : get_or c.args.index.now c.loop-j.j-index 0 < length c.loop-j.counts = search rules in there)))

pub loop-j-preserved : goal.loop-j-preserved
loop-j-preserved c = rw c.from.ensures (counted_more _ _ c.loop-j.invariant (search rules))
