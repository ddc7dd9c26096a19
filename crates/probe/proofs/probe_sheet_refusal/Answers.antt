-- `probe::probe_sheet_refusal` meets its contract.
-- Assumes nothing.
use Rattle.std.specs.Prelude.{⊤, Result, true}
use Rattle.lists.specs.declared.Refusal.{Refusal}
use mathlib.Core.Path.{sym, subst}
use Rattle.checks.specs.Refusals.{Small}
use Rattle.checks.proofs.Small.{grouping_small}
use Rattle.probe.proofs.probe_sheet_refusal.Goals as goal

pub pack-requires : goal.pack-requires
pack-requires c =
    subst (λ (x : Result ⊤ Refusal). Small x) (sym c.grouping_lists.ensures.answer)
    (grouping_small c.rules_of-rules.result c.args.components.now c.args.connections.now c.args.frontiers.now true)
