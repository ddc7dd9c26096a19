-- `capi::region_table::dustroute_reach_table` meets its contract: what `slow_regions` answers, as one number. Assumes nothing.
use Rattle.std.specs.Prelude.{⊤, Result}
use Rattle.lists.specs.declared.Refusal.{Refusal}
use mathlib.Core.Path.{refl, sym, subst}
use native.Mathlib.Omega.{arith}
use mir.Facts.{to_z-of_z}
use Rattle.checks.specs.Refusals.{Small}
use Rattle.checks.proofs.Small.{liveness_small}
use Rattle.reach_table.proofs.Entries.{count_few}
use Rattle.capi.proofs.ReachTable.{refused_table, accepted_table}
use Rattle.capi.proofs.region_table.dustroute_reach_table.Goals as goal

pub pack_refusal-requires : goal.pack_refusal-requires
pack_refusal-requires c =
    subst (λ (x : Result ⊤ Refusal). Small x) (sym c.in-Err.ensures.by.answer)
    (liveness_small _ _ _ _ _)

pub returns-in-Err : goal.returns-in-Err
returns-in-Err c = refused_table c.args.square.now c.args.regions.now c.args.stack.now _ (rw (to_z-of_z c.ranges.rules) at c.in-Err.ensures) c.pack_refusal.ensures

pub overflow_mul-result : goal.overflow_mul-result
overflow_mul-result c = let few = count_few c.args.square.now c.args.regions.now c.args.stack.now c.in-Ok.ensures in omega arith

pub returns-in-Ok : goal.returns-in-Ok
returns-in-Ok c = accepted_table c.args.square.now c.args.regions.now c.args.stack.now _ (rw (to_z-of_z c.ranges.rules) at c.in-Ok.ensures) refl
