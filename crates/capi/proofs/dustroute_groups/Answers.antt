-- `capi::dustroute_groups` meets its contract: number 1 by bytes, and then the groups of the lists that were read. Assumes nothing.
use mathlib.Core.Path.{sym, ◌∙◌}
use Rattle.checks.specs.Refusals.{Small}
use Rattle.encoding.specs.Entry.{groups_whole}
use Rattle.encoding.proofs.Answers.{whole_fits}
use Rattle.capi.proofs.dustroute_groups.Goals as goal

pub pack_refusal-requires : goal.pack_refusal-requires
pack_refusal-requires c =
    let args = c.args in
    let small : Small (groups_whole c.rules_of-rules.result args.components.now args.connections.now) = whole_fits c.rules_of-rules.result args.components.now args.connections.now in
    rw (sym c.whole_groups.ensures ∙ c.in-Err.is) at small
