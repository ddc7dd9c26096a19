-- Answers for the goals that the search leaves.
use native.Mathlib.Omega.{arith}
use Rattle.driven.proofs.Starts.{going_begin, going_on, going_skip, going_stops, going_end}
use Rattle.driven.proofs.seek.seek_all.Goals as goal
use Rattle.driven.proofs.seek.seek_all.Goals.{else-is_start-via-then-is_start+else-seek_from, else-is_start-via-else-is_start}

pub loop-start-init : goal.loop-start-init
loop-start-init c = going_begin c.args.starts.now c.requires.1 (c.fill.ensures.after (λ y e. e)) c.fill.auto.self

pub returns-then-seek_from : goal.returns-then-seek_from
returns-then-seek_from c = going_stops c.loop-start.invariant c.if-is_start.true c.seek_from.ensures c.if-seek_from.true (omega (arith, c.requires.0, c.loop-start-test.true))

pub loop-start-preserved : goal.loop-start-preserved
loop-start-preserved c =
    elim c.else-is_start.branch [
      | else-is_start-via-then-is_start+else-seek_from w ↦
          rw (w.met-is, w.stack-is)
          (going_on c.loop-start.invariant w.if-is_start.true w.seek_from.ensures w.if-seek_from.false w.seek_from.auto.met w.seek_from.auto.stack)
      | else-is_start-via-else-is_start w ↦ rw (w.met-is, w.stack-is) (going_skip c.loop-start.invariant w.if-is_start.false)
    ]

pub returns : goal.returns
returns c = going_end c.loop-start.invariant (omega (arith, c.requires.0)) (omega (arith, c.requires.0, c.loop-start-test.false))
