-- `capi::alive::refuse_short` meets its contract: the checks of the lists, as one number. Assumes nothing.
use Rattle.std.specs.Prelude.{⊤, Result}
use Rattle.lists.specs.declared.Refusal.{Refusal}
use mathlib.Core.Path.{◌≡◌, sym, subst}
use mathlib.Core.Bool.{false}
use Rattle.checks.specs.Refusals.{Small}
use Rattle.checks.proofs.Small.{liveness_small}
use Rattle.capi.proofs.alive.refuse_short.Goals as goal

small_as : {a b : Result ⊤ Refusal} → a ≡ b → Small b → Small a
small_as {a} {b} e h = subst (λ (x : Result ⊤ Refusal). Small x) (sym e) h

pub pack-requires : goal.pack-requires
pack-requires c =
    let args = c.args in
    small_as c.liveness_lists.ensures.lists.answer (liveness_small args.rules args.components.now args.ports.now args.frontiers.now false)
