-- `capi::clear::dustroute_clear` meets its contract: what `clear_missing` answers, as one number. Assumes nothing.
use Rattle.std.specs.Prelude.{⊤, Result}
use Rattle.lists.specs.declared.Refusal.{Refusal}
use mathlib.Core.Path.{sym, subst}
use mir.Facts.{to_z-of_z}
use lib.ListN.{length}
use Rattle.lists.specs.Rules.{rules_of}
use Rattle.checks.specs.Refusals.{Small}
use Rattle.clearing.proofs.Numbers.{clear_small}
use Rattle.capi.proofs.Cleared.{refused_clear, few_parted, accepted_clear}
use Rattle.capi.proofs.clear.dustroute_clear.Goals as goal

pub pack_refusal-requires : goal.pack_refusal-requires
pack_refusal-requires c =
    let a = c.args in
    let refused = (rw (to_z-of_z c.ranges.rules, c.in-Err.is) at c.clear_missing.ensures).by.answer in
    subst (λ (x : Result ⊤ Refusal). Small x) (sym refused)
    (clear_small (rules_of a.rules) a.components.now a.ports.now a.frontiers.now (length a.kept.now) (length a.dropped.now))

pub returns-in-Err : goal.returns-in-Err
returns-in-Err c = refused_clear (rw (to_z-of_z c.ranges.rules, c.in-Err.is) at c.clear_missing.ensures) c.pack_refusal.ensures

pub pack_counts-requires : goal.pack_counts-requires
pack_counts-requires c = few_parted (rw (to_z-of_z c.ranges.rules, c.in-Ok.is) at c.clear_missing.ensures)

pub returns-in-Ok : goal.returns-in-Ok
returns-in-Ok c = accepted_clear (rw (to_z-of_z c.ranges.rules, c.in-Ok.is) at c.clear_missing.ensures) c.pack_counts.ensures
