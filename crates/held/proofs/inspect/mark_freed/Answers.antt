-- Answers for the goals that the search leaves.
use native.Mathlib.Omega.{arith}
use Rattle.held.proofs.Loops.{marks_start, marks_more, marks_all, marks_above, marks_twice}
use Rattle.held.proofs.inspect.mark_freed.Goals as goal

pub loop-i-init : goal.loop-i-init
loop-i-init c = marks_start c.args.state.now c.requires.within c.args.used c.args.marks.now c.requires.unmarked

pub returns-then-k-used : goal.returns-then-k-used
returns-then-k-used c =
    marks_above c.args.state.now c.requires.within c.args.used c.loop-i.i c.loop-i.marks c.loop-i-test.true c.if-k-used.true

pub returns-then-marks-k : goal.returns-then-marks-k
returns-then-marks-k c =
    marks_twice c.args.state.now c.requires.within c.args.used c.loop-i.i c.loop-i.marks c.loop-i-test.true (omega (arith, c.if-k-used.false))
    (omega (arith, c.loop-i.auto.marks, c.requires.room)) c.if-marks-k.true c.loop-i.invariant

pub loop-i-preserved : goal.loop-i-preserved
loop-i-preserved c =
    marks_more c.args.state.now c.requires.within c.args.used c.loop-i.i c.loop-i.marks c.loop-i-test.true (omega (arith, c.if-k-used.false))
    (omega (arith, c.loop-i.auto.marks, c.requires.room)) c.if-marks-k.false c.loop-i.invariant

pub returns : goal.returns
returns c = marks_all c.args.state.now c.requires.within c.args.used c.loop-i.i c.loop-i.marks c.loop-i-test.false c.loop-i.invariant
