-- Answers for the goals that the search leaves.
use mathlib.Core.Path.{◌≡◌, refl, sym, ap, ◌∙◌}
use mathlib.Core.Bool.{not}
use Prim.Native.Nat.{◌-◌, ◌*◌}
use native.Mathlib.Omega.{arith}
use lib.ListN.{length}
use Rattle.lists.specs.Order.{record_before, first_not_ascending}
use Rattle.lists.proofs.Search.{first_here, first_later, first_none, record_within}
use Rattle.lists.proofs.order.first_not_ascending.Goals as goal
use Rattle.lists.proofs.order.first_not_ascending.Goals.{After-precedes}
use Rattle.lists.proofs.order.first_not_ascending.Given.{Over}

pub loop-k-init : goal.loop-k-init
unfolding first_not_ascending
loop-k-init g c = refl

-- the test of a turn, whose records lie within the list
tested : (g : Over) → (c : After-precedes g)
    → c.precedes.result ≡ record_before g.fields c.args.list.now ((c.loop-k.k - 1) * c.args.width) (c.loop-k.k * c.args.width)
tested g c =
    let here = record_within c.loop-k.k (length c.args.list.now) c.args.width c.loop-k-test.true in
    let earlier = record_within (c.loop-k.k - 1) (length c.args.list.now) c.args.width (omega (arith, c.loop-k-test.true, c.loop-k.auto.k)) in
    c.requires.1.1.1 _ _ _ earlier here c.precedes.ensures

pub returns-then-not-precedes : goal.returns-then-not-precedes
returns-then-not-precedes g c =
    sym (first_here _ _ _ c.loop-k-test.true (ap not (sym (tested g (goal.at.returns-then-not-precedes g c).After-precedes) ∙ c.if-not-precedes.true)))
    ∙ c.loop-k.invariant

pub loop-k-preserved : goal.loop-k-preserved
loop-k-preserved g c =
    sym (first_later _ _ _ c.loop-k-test.true (ap not (sym (tested g (goal.at.loop-k-preserved g c).After-precedes) ∙ c.if-not-precedes.false)))
    ∙ c.loop-k.invariant

pub returns : goal.returns
returns g c = sym (first_none _ _ _ c.loop-k-test.false) ∙ c.loop-k.invariant
