-- `capi::held_plot::dustroute_open` meets its contract. Assumes nothing.
use Rattle.std.specs.Prelude.{⊤, Result}
use mathlib.Core.Path.{sym, subst}
use Rattle.lists.specs.declared.Refusal.{Refusal}
use Rattle.checks.specs.Refusals.{Small}
use Rattle.capi.proofs.HeldLaws.{opening_small}
use Rattle.capi.proofs.held_plot.dustroute_open.Goals as goal

pub pack-requires : goal.pack-requires
pack-requires c = subst (λ (x : Result ⊤ Refusal). Small x) (sym c.open_plot.ensures.answer) (opening_small _ _ _)
