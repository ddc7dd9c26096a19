-- Answers for the goals that the search leaves.
use native.Mathlib.Omega.{arith}
use Rattle.graph.proofs.Stack.{low, pass, pass_less, enter, enter_less, leave, leave_less, searched_old, begin, searched}
use Rattle.graph.proofs.Graph.visit_from.Goals as goal

pub returns-then-visited-start : goal.returns-then-visited-start
returns-then-visited-start c = searched_old _ _ _ _ _ _ _ c.requires.2.stack_zeros c.if-visited-start.true

pub loop-place-init : goal.loop-place-init
loop-place-init c =
    let (lt, fits, room) = c.requires in
    rw c.begin_of-place.ensures (begin _ c.args.self.rows lt fits room c.if-visited-start.false)

pub bounds-visited-k : goal.bounds-visited-k
bounds-visited-k c =
    let o = c.loop-place.invariant in
    let k = low o (omega arith) c.from-k.ensures in
    omega arith

pub bounds-visited-k-then-not-visited-k : goal.bounds-visited-k-then-not-visited-k
bounds-visited-k-then-not-visited-k c =
    let o = c.loop-place.invariant in
    let k = low o (omega arith) c.from-k.ensures in
    omega arith

pub begin_of-place-requires-then-not-visited-k : goal.begin_of-place-requires-then-not-visited-k
begin_of-place-requires-then-not-visited-k c = let k = low c.loop-place.invariant (omega arith) c.from-k.ensures in omega arith

pub loop-place-smaller-then-not-visited-k : goal.loop-place-smaller-then-not-visited-k
loop-place-smaller-then-not-visited-k c =
    rw c.begin_of-place-then-not-visited-k.ensures (enter_less c.loop-place.invariant (omega arith) c.from-k.ensures c.if-not-visited-k.true)

pub loop-place-preserved-then-not-visited-k : goal.loop-place-preserved-then-not-visited-k
loop-place-preserved-then-not-visited-k c =
    rw c.begin_of-place-then-not-visited-k.ensures (enter c.loop-place.invariant (omega arith) c.from-k.ensures c.if-not-visited-k.true)

pub loop-place-smaller-else-not-visited-k : goal.loop-place-smaller-else-not-visited-k
loop-place-smaller-else-not-visited-k c = pass_less c.loop-place.invariant (omega arith) c.from-k.ensures

pub loop-place-preserved-else-not-visited-k : goal.loop-place-preserved-else-not-visited-k
loop-place-preserved-else-not-visited-k c = pass c.loop-place.invariant (omega arith) c.from-k.ensures c.if-not-visited-k.false

pub returns-then-depth-eq0 : goal.returns-then-depth-eq0
returns-then-depth-eq0 c =
    let (lt, fits, room) = c.requires in
    let o = rw c.begin_of-place.ensures at c.loop-place.invariant in
    searched _ c.args.self.rows lt fits room c.if-visited-start.false o c.if-depth-eq0.true (omega arith)

pub loop-place-smaller : goal.loop-place-smaller
loop-place-smaller c = leave_less c.loop-place.invariant (omega arith) c.if-depth-eq0.false

pub loop-place-preserved : goal.loop-place-preserved
loop-place-preserved c = leave c.loop-place.invariant (omega arith) c.if-depth-eq0.false
