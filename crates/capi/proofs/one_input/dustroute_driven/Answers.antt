-- `capi::one_input::dustroute_driven` meets its contract: what `is_driven` answers, as one number and words. Assumes nothing.
use Rattle.std.specs.Prelude.{⊤, Result}
use Rattle.lists.specs.declared.Refusal.{Refusal}
use borrow.Author.Rules.{rules}
use mathlib.Core.Path.{sym, ap, ◌∙◌, subst}
use Prim.Native.Nat.{ℕ}
use mir.Facts.{to_z-of_z}
use lib.ListN.{get_or}
use Rattle.lists.specs.Rules.{rules_of}
use mir.Val.{Fits}
use mir.Syntax.{w64}
use Rattle.checks.specs.Refusals.{Small}
use Rattle.inputs.proofs.Small.{input_small}
use Rattle.capi.proofs.LivenessLaws.{WordsOfSet}
use Rattle.capi.proofs.OneInput.{roomy, short_driven, refused_driven, accepted_driven}
use Rattle.capi.proofs.one_input.dustroute_driven.Goals as goal
use Rattle.capi.proofs.one_input.dustroute_driven.Goals.{In-Ok}

pub returns-then-not-room_for : goal.returns-then-not-room_for
returns-then-not-room_for c =
    let known = c.rules_of.ensures ∙ ap rules_of (to_z-of_z c.ranges.rules) in
    short_driven _ _ _ _ _ _ _ _ _ (sym c.room_for.ensures ∙ c.if-not-room_for.true) (rw known at c.refuse_short.ensures)

pub pack_refusal-requires : goal.pack_refusal-requires
pack_refusal-requires c =
    let a = c.args in
    let refused = (rw (to_z-of_z c.ranges.rules, c.in-Err.is) at c.is_driven.ensures).by.answer in
    subst (λ (x : Result ⊤ Refusal). Small x) (sym refused) (input_small (rules_of a.rules) a.components.now a.ports.now a.frontiers.now a.id a.port _)

pub returns-in-Err : goal.returns-in-Err
returns-in-Err c =
    let a = c.args in
    let refused = (rw (to_z-of_z c.ranges.rules, c.in-Err.is) at c.is_driven.ensures).by.answer in
    let there = roomy (rules_of a.rules) a.components.now a.ports.now a.frontiers.now a.id a.port a.met.now a.stack.now (sym c.room_for.ensures ∙ c.if-not-room_for.false) in
    let left = rw (sym refused) at (rw (to_z-of_z c.ranges.rules) at c.is_driven.ensures).by.stack_left in
    rw left (refused_driven _ _ _ _ _ _ _ _ _ _ (there ∙ sym refused) c.pack_refusal.ensures)

-- the set has as many words as a set has, of 64 bits each
met : (c : In-Ok) → WordsOfSet c.in-Ok.answer.met.words
met c =
    let word : (i : ℕ) → Fits w64 (get_or c.in-Ok.answer.met.words i 0) = λ i. search rules in
    record { long = search rules; fit = λ i. (word i).fits }

pub returns-in-Ok : goal.returns-in-Ok
returns-in-Ok c =
    let a = c.args in
    let by = (rw (to_z-of_z c.ranges.rules, c.in-Ok.is) at c.is_driven.ensures).by in
    let there = roomy (rules_of a.rules) a.components.now a.ports.now a.frontiers.now a.id a.port a.met.now a.stack.now (sym c.room_for.ensures ∙ c.if-not-room_for.false) in
    let left = rw (sym by.answer) at by.stack_left in
    accepted_driven _ _ _ _ _ _ _ _ _ _ _ _ (there ∙ sym by.answer) (met (goal.at.returns-in-Ok c).In-Ok) by.found
    c.put_driven.ensures.set left c.put_driven.ensures.count
