-- `capi::light::dustroute_light` meets its contract: what `light_regions` answers, as one number and words. Assumes nothing.
use Rattle.std.specs.Prelude.{⊤, Result}
use Rattle.lists.specs.declared.Refusal.{Refusal}
use borrow.Author.Rules.{rules}
use mathlib.Core.Path.{◌≡◌, sym, ap, ap₂, subst, ◌∙◌}
use mathlib.Core.Bool.{Bool, ◌&&◌}
use Prim.Native.Nat.{ℕ}
use native.Mathlib.Omega.{arith}
use mir.Facts.{to_z-of_z}
use lib.ListN.{get_or}
use Rattle.lists.specs.Rules.{rules_of}
use mir.Val.{Fits}
use mir.Syntax.{w64}
use Rattle.checks.specs.Refusals.{Small}
use Rattle.checks.proofs.Small.{liveness_small}
use Rattle.capi.proofs.LivenessLaws.{WordsOfSet}
use Rattle.capi.proofs.LightLaws.{roomy, short_light, refused_light, count_few, accepted_light}
use Rattle.capi.proofs.light.dustroute_light.Goals as goal
use Rattle.capi.proofs.light.dustroute_light.Goals.{In-Ok}

-- both sets
both_rooms : {a b c d : Bool} → a ≡ c → b ≡ d → (c && d) ≡ (a && b)
both_rooms e f = ap₂ (λ (s t : Bool). s && t) (sym e) (sym f)

pub returns-then-not-room : goal.returns-then-not-room
returns-then-not-room c =
    let known = c.rules_of.ensures ∙ ap rules_of (to_z-of_z c.ranges.rules) in
    short_light _ _ _ _ _ _ _ _ _ (both_rooms c.room_for.ensures c.room_for-2.ensures ∙ c.if-not-room.true) (rw known at c.refuse_short.ensures)

pub pack_refusal-requires : goal.pack_refusal-requires
pack_refusal-requires c =
    let a = c.args in
    let refused = (rw (to_z-of_z c.ranges.rules, c.in-Err.is) at c.light_regions.ensures).by.answer in
    subst (λ (x : Result ⊤ Refusal). Small x) (sym refused) (liveness_small (rules_of a.rules) a.components.now a.ports.now a.frontiers.now _)

pub returns-in-Err : goal.returns-in-Err
returns-in-Err c =
    let a = c.args in
    let by = (rw (to_z-of_z c.ranges.rules, c.in-Err.is) at c.light_regions.ensures).by in
    let there = roomy (rules_of a.rules) a.components.now a.ports.now a.frontiers.now a.regions.now a.lit.now a.driven.now a.stack.now
    (both_rooms c.room_for.ensures c.room_for-2.ensures ∙ c.if-not-room.false) in
    let regions = rw (sym by.answer) at by.regions_left in
    let stack = rw (sym by.answer) at by.stack_left in
    rw (regions, stack) (refused_light _ _ _ _ _ _ _ _ _ _ (there ∙ sym by.answer) c.pack_refusal.ensures)

pub put_lit-requires-clause-few : goal.put_lit-requires-clause-few
put_lit-requires-clause-few c =
    let a = c.args in
    let by = (rw (to_z-of_z c.ranges.rules, c.in-Ok.is) at c.light_regions.ensures).by in
    omega (arith, by.found.count_is, count_few (rules_of a.rules) a.components.now a.ports.now a.frontiers.now a.regions.now a.lit.now a.driven.now a.stack.now (sym by.answer))

-- the words of both sets, of 64 bits each
lit : (c : In-Ok) → WordsOfSet c.in-Ok.answer.lit.words
lit c =
    let word : (i : ℕ) → Fits w64 (get_or c.in-Ok.answer.lit.words i 0) = λ i. search rules in
    record { long = search rules; fit = λ i. (word i).fits }

driven : (c : In-Ok) → WordsOfSet c.in-Ok.answer.driven.words
driven c =
    let word : (i : ℕ) → Fits w64 (get_or c.in-Ok.answer.driven.words i 0) = λ i. search rules in
    record { long = search rules; fit = λ i. (word i).fits }

pub returns-in-Ok : goal.returns-in-Ok
returns-in-Ok c =
    let lighted = rw (to_z-of_z c.ranges.rules, c.in-Ok.is) at c.light_regions.ensures in
    let at = (goal.at.returns-in-Ok c).In-Ok in
    accepted_light _ _ _ _ _ _ _ _ _ _ _ lighted _ _ _ (both_rooms c.room_for.ensures c.room_for-2.ensures ∙ c.if-not-room.false)
    (lit at) (driven at) c.put_lit.ensures.lit_set c.put_lit.ensures.driven_set c.put_lit.ensures.count
