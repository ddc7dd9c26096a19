-- Answers for the goals that the search leaves.
use Rattle.std.proofs.Common.{rules}
use mathlib.Core.Path.{ap, ◌∙◌}
use Prim.Native.Nat.{◌<◌}
use native.Mathlib.Omega.{arith}
use lib.ListN.{length}
use Rattle.blocks.specs.Printed.{greatest}
use Rattle.blocks.proofs.Printing.{printed_none}
use Rattle.blocks.proofs.IdText.{listing_none, listing_more, listing_done}
use Rattle.blocks.proofs.ids.put_members.Goals as goal

pub loop-m-init : goal.loop-m-init
loop-m-init c =
    let walk = c.into_iter-m-iterator.ensures.into_iter_gives in
    let made = c.members-m-items.ensures in
    let short : length c.args.out.now < greatest = search rules in (
      rw (walk, made.0),
      listing_none _ _ (rw (walk, made.1)) (printed_none c.args.at c.args.out.now short (omega (arith, c.ranges.at.fits))),
    )

pub loop-m-preserved : goal.loop-m-preserved
loop-m-preserved c =
    let here = c.loop-m.invariant in
    let next = c.in-Some.ensures.steps in (
      ap (λ s. s.words) next.1 ∙ here.0,
      listing_more _ _ here.1 c.in-Some.m (rw here.0 at next.0) c.if-keys-m.false next.2 c.put_text-p.ensures c.put_decimal-p.ensures,
    )

pub returns-in-None : goal.returns-in-None
returns-in-None c = let here = c.loop-m.invariant in listing_done _ _ here.1 (λ k h _. (rw here.0 at c.in-None.ensures.steps.0) k h)

pub returns-then-keys-m : goal.returns-then-keys-m
returns-then-keys-m c =
    let here = c.loop-m.invariant in
    let next = c.in-Some.ensures.steps in
    listing_done _ _ here.1 (λ k h l. (rw here.0 at next.0).2 k h (omega (arith, l, c.if-keys-m.true)))
