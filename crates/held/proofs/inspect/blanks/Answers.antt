-- Answers for the goals that the search leaves.
use mathlib.Core.Path.{sym, ◌∙◌}
use Prim.Native.Nat.{◌+◌, ◌<◌}
use native.Mathlib.Omega.{arith}
use lib.ListN.{get_or}
use lib.Dec.{ltb}
use borrow.Author.Tests.{ltb-true}
use Rattle.held.specs.Tests.{every}
use Rattle.held.specs.Lent.{is_blank, freed_places_in}
use Rattle.held.proofs.Lists.{true_not_false}
use Rattle.held.proofs.InspectLaws.{not_true_false, every_freed}
use Rattle.held.proofs.Loops.{blank_start, blank_more, blank_all}
use Rattle.held.proofs.inspect.blanks.Goals as goal

pub loop-i-init : goal.loop-i-init
loop-i-init c = blank_start c.args.state.now c.requires.within c.args.places.now

pub overflow_mul-state : goal.overflow_mul-state
overflow_mul-state c =
    let few : get_or c.args.state.now (5 + c.loop-i.i) 0 < c.args.used =
    ltb-true _ _ (every_freed c.args.state.now c.requires.within (λ k. ltb k c.args.used) c.requires.below c.loop-i.i c.loop-i-test.true) in
    omega (arith, few, c.requires.room)

pub zeros-requires : goal.zeros-requires
zeros-requires c =
    let few : get_or c.args.state.now (5 + c.loop-i.i) 0 < c.args.used =
    ltb-true _ _ (every_freed c.args.state.now c.requires.within (λ k. ltb k c.args.used) c.requires.below c.loop-i.i c.loop-i-test.true) in
    omega (arith, few, c.requires.room)

pub returns-then-not-zeros : goal.returns-then-not-zeros
returns-then-not-zeros c =
    let no = sym c.zeros.ensures ∙ c.if-not-zeros.true in
    sym (not_true_false (every (is_blank c.args.places.now) (freed_places_in c.args.state.now))
    (λ e. true_not_false (sym (every_freed c.args.state.now c.requires.within (is_blank c.args.places.now) e c.loop-i.i c.loop-i-test.true) ∙ no)))

pub loop-i-preserved : goal.loop-i-preserved
loop-i-preserved c =
    let yes = sym c.zeros.ensures ∙ c.if-not-zeros.false in
    blank_more c.args.state.now c.requires.within c.args.places.now c.loop-i.i c.loop-i-test.true yes c.loop-i.invariant

pub returns : goal.returns
returns c = blank_all c.args.state.now c.requires.within c.args.places.now c.loop-i.i c.loop-i-test.false c.loop-i.invariant
