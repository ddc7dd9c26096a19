-- `capi::ring_set::dustroute_rings` meets its contract: what `find_rings` answers, as one number and words. Assumes nothing.
use Rattle.std.specs.Prelude.{⊤, Result}
use Rattle.lists.specs.declared.Refusal.{Refusal}
use borrow.Author.Rules.{rules}
use mathlib.Core.Path.{sym, ap, subst, ◌∙◌}
use Prim.Native.Nat.{ℕ}
use native.Mathlib.Omega.{arith}
use mir.Facts.{to_z-of_z}
use lib.ListN.{get_or}
use Rattle.lists.specs.Rules.{rules_of}
use mir.Val.{Fits}
use mir.Syntax.{w64}
use Rattle.checks.specs.Refusals.{Small}
use Rattle.checks.proofs.Small.{liveness_small}
use Rattle.capi.proofs.LivenessLaws.{WordsOfSet}
use Rattle.capi.proofs.RingLaws.{roomy, short_rings, refused_rings, count_few, accepted_rings}
use Rattle.capi.proofs.ring_set.dustroute_rings.Goals as goal
use Rattle.capi.proofs.ring_set.dustroute_rings.Goals.{In-Ok}

pub returns-then-not-room_for : goal.returns-then-not-room_for
returns-then-not-room_for c =
    let known = c.rules_of.ensures ∙ ap rules_of (to_z-of_z c.ranges.rules) in
    short_rings _ _ _ _ _ _ _ _ (sym c.room_for.ensures ∙ c.if-not-room_for.true) (rw known at c.refuse_short.ensures)

pub pack_refusal-requires : goal.pack_refusal-requires
pack_refusal-requires c =
    let a = c.args in
    let refused = (rw (to_z-of_z c.ranges.rules, c.in-Err.is) at c.find_rings.ensures).by.answer in
    subst (λ (x : Result ⊤ Refusal). Small x) (sym refused) (liveness_small (rules_of a.rules) a.components.now a.ports.now a.frontiers.now _)

pub returns-in-Err : goal.returns-in-Err
returns-in-Err c =
    let a = c.args in
    let by = (rw (to_z-of_z c.ranges.rules, c.in-Err.is) at c.find_rings.ensures).by in
    let there = roomy (rules_of a.rules) a.components.now a.ports.now a.frontiers.now a.regions.now a.rings.now a.stack.now
    (sym c.room_for.ensures ∙ c.if-not-room_for.false) in
    let regions = rw (sym by.answer) at by.regions_left in
    let stack = rw (sym by.answer) at by.stack_left in
    rw (regions, stack) (refused_rings _ _ _ _ _ _ _ _ _ (there ∙ sym by.answer) c.pack_refusal.ensures)

pub put_rings-requires-clause-few : goal.put_rings-requires-clause-few
put_rings-requires-clause-few c =
    let a = c.args in
    let by = (rw (to_z-of_z c.ranges.rules, c.in-Ok.is) at c.find_rings.ensures).by in
    omega (arith, by.found.count_is, count_few (rules_of a.rules) a.components.now a.ports.now a.frontiers.now a.regions.now a.rings.now a.stack.now (sym by.answer))

-- the words of the set, of 64 bits each
words : (c : In-Ok) → WordsOfSet c.in-Ok.answer.rings.words
words c =
    let word : (i : ℕ) → Fits w64 (get_or c.in-Ok.answer.rings.words i 0) = λ i. search rules in
    record { long = search rules; fit = λ i. (word i).fits }

pub returns-in-Ok : goal.returns-in-Ok
returns-in-Ok c =
    let found = rw (to_z-of_z c.ranges.rules, c.in-Ok.is) at c.find_rings.ensures in
    let at = (goal.at.returns-in-Ok c).In-Ok in
    accepted_rings _ _ _ _ _ _ _ _ _ _ found _ _ (sym c.room_for.ensures ∙ c.if-not-room_for.false)
    (words at) c.put_rings.ensures.set c.put_rings.ensures.count
