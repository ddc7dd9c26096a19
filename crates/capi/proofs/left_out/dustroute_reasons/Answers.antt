-- `capi::left_out::dustroute_reasons` meets its contract.
-- Assumes nothing.
use Rattle.std.specs.Prelude.{⊤, Result, Ok, Err}
use mathlib.Core.Path.{◌≡◌, sym, ap, ◌∙◌}
use mathlib.Core.List.{[]}
use Prim.Native.Nat.{ℕ, ◌*◌, ◌≤◌}
use native.Mathlib.Omega.{arith}
use mir.Facts.{to_z-of_z}
use lib.ListN.{length}
use Rattle.lists.specs.Rules.{rules_of}
use Rattle.lists.specs.Limits.{connection_limit}
use Rattle.lists.specs.declared.Refusal.{Refusal}
use Rattle.checks.proofs.Small.{grouping_small}
use Rattle.checks.proofs.Accepted.{grouping_accept}
use Rattle.scene.specs.Kept.{kept_count}
use Rattle.scene.specs.Answer.{answer_of}
use Rattle.scene.specs.Reasons.{reasons_refusal}
use Rattle.scene.proofs.KeptWithin.{kept_few}
use Rattle.capi.proofs.KeptLaws.{RefusedAs, kept_accepted, refused_as}
use Rattle.capi.proofs.left_out.dustroute_reasons.Goals as goal
use Rattle.capi.proofs.left_out.dustroute_reasons.Goals.{After-reasons}

abbrev refusal : After-reasons → Result ⊤ Refusal
refusal c = reasons_refusal (rules_of c.args.rules) c.args.components.now c.args.connections.now (length c.args.reasons.now)

-- what an answer says of the checks
when-kept : (c : After-reasons) (m : ℕ) → c.reasons.result ≡ Ok m
    → (refusal c ≡ Ok tt) × (m ≡ kept_count (rules_of c.args.rules) c.args.components.now c.args.connections.now)
when-kept c m e = kept_accepted (refusal c) _ m (ap answer_of (sym e) ∙ (rw (to_z-of_z c.ranges.rules) at c.reasons.ensures).answer)

when-refused : (c : After-reasons) (x : Refusal) → c.reasons.result ≡ Err x → RefusedAs (refusal c) x
when-refused c x e = refused_as (refusal c) _ x (ap answer_of (sym e) ∙ (rw (to_z-of_z c.ranges.rules) at c.reasons.ensures).answer)

-- few enough rows
few : (c : After-reasons) (m : ℕ) → c.reasons.result ≡ Ok m → m ≤ connection_limit
few c m e =
    let w = when-kept c m e in
    let cs = c.args.components.now in
    let ps = c.args.connections.now in
    omega (arith, w.1, kept_few (rules_of c.args.rules) cs ps, (grouping_accept (rules_of c.args.rules) cs ps [] _ w.0).connections.few)

pub overflow_mul-result : goal.overflow_mul-result
overflow_mul-result c = omega (arith, few (goal.at.overflow_mul-result c).After-reasons _ c.in-Ok.is)

pub pack_refusal-requires : goal.pack_refusal-requires
pack_refusal-requires c =
    (when-refused (goal.at.pack_refusal-requires c).After-reasons _ c.in-Err.is).small (grouping_small (rules_of c.args.rules) c.args.components.now c.args.connections.now [] _)

pub returns-in-Ok : goal.returns-in-Ok
returns-in-Ok c =
    let (ok, count) = when-kept (goal.at.returns-in-Ok c).After-reasons _ c.in-Ok.is in
    let told = rw (to_z-of_z c.ranges.rules) at c.reasons.ensures in
    record { answer = rw ok (ap (λ (n : ℕ). 65536 * n) count); left = told.left; says = told.says }

pub returns-in-Err : goal.returns-in-Err
returns-in-Err c =
    let refused = when-refused (goal.at.returns-in-Err c).After-reasons _ c.in-Err.is in
    let told = rw (to_z-of_z c.ranges.rules) at c.reasons.ensures in
    record { answer = c.pack_refusal.ensures ∙ refused.packs _; left = told.left; says = told.says }
