-- `rings::count::count_row` meets its contract: each node up to b is passed.
-- Assumes nothing.
use Rattle.std.proofs.Common.{suc, arith}
use Rattle.sets.proofs.Counts.{count_le}
use Rattle.rings.specs.Counts.{is_seen}
use Rattle.rings.proofs.Counting.{pass_none, pass_more, pass_seen, pass_foreign, pass_all}
use Rattle.rings.proofs.count.count_row.Goals as goal
use Rattle.rings.proofs.count.count_row.Goals.{then-labels-a+then-seen-a, else-labels-a, else-labels-a-via-then-labels-a+else-seen-a, else-labels-a-via-else-labels-a}

pub loop-neighbour-init : goal.loop-neighbour-init
loop-neighbour-init c = pass_none c.args.labels.now c.args.row.now c.args.b c.args.seen.now c.requires.counted.0 c.requires.counted.1

pub returns-then-b-a : goal.returns-then-b-a
returns-then-b-a c =
    pass_all c.args.labels.now c.args.row.now c.args.b c.args.seen.now c.requires.row.0
    (λ h. rw c.from-a.ensures at c.if-b-a.true) c.loop-neighbour.invariant

-- at most the nodes up to b are marked
pub overflow_add-found : goal.overflow_add-found
overflow_add-found c =
    omega (arith, c.loop-neighbour.invariant.count, count_le (is_seen c.loop-neighbour.seen c.args.b) (suc c.args.b), c.requires.row.2, c.requires.seen_room.1)

pub loop-neighbour-preserved : goal.loop-neighbour-preserved
loop-neighbour-preserved c =
    let l = c.loop-neighbour in
    let a = c.args in
    let labels = a.labels.now in
    let row = a.row.now in
    let inside = c.loop-neighbour-test.true in
    let is = c.from-a.ensures in
    let to = rw is at c.if-b-a.false in
    elim c.if-labels-a.branch [
      | then-labels-a+then-seen-a w ↦ rw (w.seen-is, w.found-is, is)
          (pass_more labels row a.b a.seen.now l.invariant inside to (omega (arith, c.requires.row.2, c.requires.seen_room.0))
          (rw is at w.if-labels-a.true) (rw is at w.if-seen-a.true))
      | else-labels-a w ↦ rw (w.seen-is, w.found-is) (elim w.else-labels-a.branch [
        | else-labels-a-via-then-labels-a+else-seen-a v ↦
            pass_seen labels row a.b a.seen.now l.invariant inside to (rw is at v.if-seen-a.false)
        | else-labels-a-via-else-labels-a v ↦
            pass_foreign labels row a.b a.seen.now l.invariant inside to (rw is at v.if-labels-a.false)
      ])
    ]

pub returns : goal.returns
returns c =
    pass_all c.args.labels.now c.args.row.now c.args.b c.args.seen.now c.requires.row.0 (λ h. absurd (omega arith)) c.loop-neighbour.invariant
