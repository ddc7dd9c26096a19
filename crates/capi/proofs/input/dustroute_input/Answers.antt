-- `capi::input::dustroute_input` meets its contract: what `required_input` answers, as one number and words. Assumes nothing.
use Rattle.std.specs.Prelude.{⊤, Result}
use Rattle.lists.specs.declared.Refusal.{Refusal}
use borrow.Author.Rules.{rules}
use mathlib.Core.Path.{◌≡◌, sym, ap, ap₂, ◌∙◌, subst}
use mathlib.Core.Bool.{Bool, ◌&&◌}
use Prim.Native.Nat.{ℕ}
use mir.Facts.{to_z-of_z}
use lib.ListN.{get_or}
use Rattle.lists.specs.Rules.{rules_of}
use mir.Val.{Fits}
use mir.Syntax.{w64}
use Rattle.checks.specs.Refusals.{Small}
use Rattle.inputs.proofs.Small.{input_small}
use Rattle.capi.proofs.LivenessLaws.{WordsOfSet}
use Rattle.capi.proofs.InputSetLaws.{roomy, short_input, refused_input, accepted_input}
use Rattle.capi.proofs.input.dustroute_input.Goals as goal
use Rattle.capi.proofs.input.dustroute_input.Goals.{In-Ok}

-- both sets
both_rooms : {a b c d : Bool} → a ≡ c → b ≡ d → (c && d) ≡ (a && b)
both_rooms e f = ap₂ (λ (s t : Bool). s && t) (sym e) (sym f)

pub returns-then-not-room : goal.returns-then-not-room
returns-then-not-room c =
    let known = c.rules_of.ensures ∙ ap rules_of (to_z-of_z c.ranges.rules) in
    short_input _ _ _ _ _ _ _ _ _ _ (both_rooms c.room_for.ensures c.room_for-2.ensures ∙ c.if-not-room.true) (rw known at c.refuse_short.ensures)

pub pack_refusal-requires : goal.pack_refusal-requires
pack_refusal-requires c =
    let a = c.args in
    let refused = (rw (to_z-of_z c.ranges.rules, c.in-Err.is) at c.required_input.ensures).by.answer in
    subst (λ (x : Result ⊤ Refusal). Small x) (sym refused) (input_small (rules_of a.rules) a.components.now a.ports.now a.frontiers.now a.id a.port _)

pub returns-in-Err : goal.returns-in-Err
returns-in-Err c =
    let a = c.args in
    let by = (rw (to_z-of_z c.ranges.rules, c.in-Err.is) at c.required_input.ensures).by in
    let there = roomy (rules_of a.rules) a.components.now a.ports.now a.frontiers.now a.id a.port a.immediate.now a.inferred.now a.stack.now
    (both_rooms c.room_for.ensures c.room_for-2.ensures ∙ c.if-not-room.false) in
    let stack = rw (sym by.answer) at by.stack_left in
    rw stack (refused_input _ _ _ _ _ _ _ _ _ _ _ (there ∙ sym by.answer) c.pack_refusal.ensures)

-- the words of both sets, of 64 bits each
immediate : (c : In-Ok) → WordsOfSet c.in-Ok.found.immediate.words
immediate c =
    let word : (i : ℕ) → Fits w64 (get_or c.in-Ok.found.immediate.words i 0) = λ i. search rules in
    record { long = search rules; fit = λ i. (word i).fits }

inferred : (c : In-Ok) → WordsOfSet c.in-Ok.found.inferred.words
inferred c =
    let word : (i : ℕ) → Fits w64 (get_or c.in-Ok.found.inferred.words i 0) = λ i. search rules in
    record { long = search rules; fit = λ i. (word i).fits }

pub returns-in-Ok : goal.returns-in-Ok
returns-in-Ok c =
    let a = c.args in
    let at = (goal.at.returns-in-Ok c).In-Ok in
    let by = (rw (to_z-of_z c.ranges.rules, c.in-Ok.is) at c.required_input.ensures).by in
    let there = roomy (rules_of a.rules) a.components.now a.ports.now a.frontiers.now a.id a.port a.immediate.now a.inferred.now a.stack.now
    (both_rooms c.room_for.ensures c.room_for-2.ensures ∙ c.if-not-room.false) in
    let stack = rw (sym by.answer) at by.stack_left in
    accepted_input _ _ _ _ _ _ _ _ _ _ _ _ _ c.in-Ok.found (there ∙ sym by.answer) (immediate at) (inferred at) by.sets
    c.put_sources.ensures.immediate_set c.put_sources.ensures.inferred_set stack c.put_sources.ensures.count
