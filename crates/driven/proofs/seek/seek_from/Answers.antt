-- Answers for the goals that the search leaves.
use native.Mathlib.Omega.{arith}
use Rattle.driven.proofs.Stack.{low, pass, pass_less, enter, enter_less, leave, leave_less, seeks_old, seeks_goal, begin, seeks_met, seeks_all}
use Rattle.driven.proofs.seek.seek_from.Goals as goal

pub returns-then-met-start : goal.returns-then-met-start
returns-then-met-start c = seeks_old _ _ c.args.goals.now _ _ _ c.requires.1.stack_zeros c.if-met-start.true

pub returns-then-goals-start : goal.returns-then-goals-start
returns-then-goals-start c =
    let (lt, room) = c.requires in seeks_goal _ c.args.goals.now _ _ lt room.stack_zeros c.if-met-start.false c.if-goals-start.true

pub loop-place-init : goal.loop-place-init
loop-place-init c =
    let (lt, room) = c.requires in
    rw c.begin_of-place.ensures (begin c.args.graph.rows lt room c.if-met-start.false c.if-goals-start.false)

pub bounds-met-k : goal.bounds-met-k
bounds-met-k c =
    let o = c.loop-place.invariant in
    let k = low o (omega arith) c.from-k.ensures in
    omega arith

pub bounds-met-k-then-not-met-k : goal.bounds-met-k-then-not-met-k
bounds-met-k-then-not-met-k c =
    let o = c.loop-place.invariant in
    let k = low o (omega arith) c.from-k.ensures in
    omega arith

pub bounds-goals-k : goal.bounds-goals-k
bounds-goals-k c =
    let o = c.loop-place.invariant in
    let k = low o (omega arith) c.from-k.ensures in
    omega arith

pub returns-then-goals-k : goal.returns-then-goals-k
returns-then-goals-k c =
    let (lt, room) = c.requires in
    let o = rw c.begin_of-place.ensures at c.loop-place.invariant in
    seeks_met c.args.graph.rows lt room c.if-met-start.false c.if-goals-start.false o (omega arith) c.from-k.ensures c.if-not-met-k.true c.if-goals-k.true
    (c.fill.ensures.after (λ y e. e))

pub begin_of-place-requires-then-not-met-k : goal.begin_of-place-requires-then-not-met-k
begin_of-place-requires-then-not-met-k c = let k = low c.loop-place.invariant (omega arith) c.from-k.ensures in omega arith

pub loop-place-smaller-then-not-met-k : goal.loop-place-smaller-then-not-met-k
loop-place-smaller-then-not-met-k c =
    rw c.begin_of-place-then-not-met-k.ensures (enter_less c.loop-place.invariant (omega arith) c.from-k.ensures c.if-not-met-k.true c.if-goals-k.false)

pub loop-place-preserved-then-not-met-k : goal.loop-place-preserved-then-not-met-k
loop-place-preserved-then-not-met-k c =
    rw c.begin_of-place-then-not-met-k.ensures (enter c.loop-place.invariant (omega arith) c.from-k.ensures c.if-not-met-k.true c.if-goals-k.false)

pub loop-place-smaller-else-not-met-k : goal.loop-place-smaller-else-not-met-k
loop-place-smaller-else-not-met-k c = pass_less c.loop-place.invariant (omega arith) c.from-k.ensures

pub loop-place-preserved-else-not-met-k : goal.loop-place-preserved-else-not-met-k
loop-place-preserved-else-not-met-k c = pass c.loop-place.invariant (omega arith) c.from-k.ensures c.if-not-met-k.false

pub returns-then-depth-eq0 : goal.returns-then-depth-eq0
returns-then-depth-eq0 c =
    let (lt, room) = c.requires in
    let o = rw c.begin_of-place.ensures at c.loop-place.invariant in
    seeks_all c.args.graph.rows lt room c.if-met-start.false c.if-goals-start.false o c.if-depth-eq0.true (omega arith)

pub loop-place-smaller : goal.loop-place-smaller
loop-place-smaller c = leave_less c.loop-place.invariant (omega arith) c.if-depth-eq0.false

pub loop-place-preserved : goal.loop-place-preserved
loop-place-preserved c = leave c.loop-place.invariant (omega arith) c.if-depth-eq0.false
