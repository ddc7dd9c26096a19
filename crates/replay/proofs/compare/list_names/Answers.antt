-- Answers for the goals that the search leaves. Assumes nothing.
use Rattle.std.proofs.Common.{rules, arith, ◌≡◌, ◌<◌, length, Some, sym, ap, ◌∙◌}
use Rattle.sets.specs.Members.{FirstFrom}
use Rattle.sets.proofs.Words.{first_bound}
use Rattle.replay.proofs.Listing.{front_none, front_more, names_none, names_first, names_last, names_few}
use Rattle.replay.proofs.compare.list_names.Goals as goal
use Rattle.replay.proofs.compare.list_names.Goals.{In-Some}

-- the next member of the walk
found : (c : In-Some) → FirstFrom c.args.set.words c.loop-m.m-iterator.start (Some c.in-Some.m)
found c = rw c.loop-m.invariant.0 at c.in-Some.ensures.steps.0

below : (c : In-Some) → c.in-Some.m < 1024
below c =
    let long : length c.args.set.words ≡ 16 = search rules in
    omega (arith, first_bound c.args.set.words c.loop-m.m-iterator.start c.in-Some.m (found c), long)

room : (c : In-Some) → c.loop-m.n < length c.args.out.now
room c =
    let i = c.loop-m.invariant in
    omega (arith, names_few c.args.keys.now c.args.set.words c.loop-m.m-iterator.start, i.2.count, below c, (found c).0, c.requires)

pub loop-m-init : goal.loop-m-init
loop-m-init c =
    let walk = c.into_iter-m-iterator.ensures.into_iter_gives in
    let made = c.members-m-items.ensures in
    (rw (walk, made.0), omega (arith, ap (λ s. s.start) walk, made.1), rw (walk, made.1, names_none c.args.keys.now c.args.set.words) (front_none _))

pub bounds-out-n : goal.bounds-out-n
bounds-out-n c = omega (arith, room (goal.at.bounds-out-n c).In-Some, c.loop-m.auto.out)

pub loop-m-preserved : goal.loop-m-preserved
loop-m-preserved c =
    let s = (goal.at.loop-m-preserved c).In-Some in
    let i = c.loop-m.invariant in
    let next = c.in-Some.ensures.steps in (
      ap (λ t. t.words) next.1 ∙ i.0,
      omega (arith, below s, next.2),
      rw (next.2, names_first c.args.keys.now c.args.set.words c.loop-m.m-iterator.start c.in-Some.m (found s), c.name_of.ensures) (front_more _ i.2 (room s)),
    )

pub returns : goal.returns
returns c =
    let i = c.loop-m.invariant in
    let none = rw i.0 at c.in-None.ensures.steps.0 in
    let e = names_last c.args.keys.now c.args.set.words c.loop-m.m-iterator.start 1024 i.1 none in
    rw e (record { front = i.2.front; count = sym i.2.count })
