-- `inputs::query::inferred_members` meets its contract: the inferred inputs by list place, gathered by member.
-- Assumes nothing.
use mathlib.Core.Path.{◌∙◌}
use native.Mathlib.Omega.{arith}
use Rattle.signals.proofs.Lent.{gathered_same}
use Rattle.signals.proofs.Staged.{marks_are}
use Rattle.liveness.proofs.Inferring.{members_small}
use Rattle.inputs.proofs.query.inferred_members.Goals as goal

pub gather-requires-clause-indices : goal.gather-requires-clause-indices
gather-requires-clause-indices c =
    let p = c.args.plot.now in
    members_small p.plot.accepted.scene p.prepared _ (omega (arith, c.requires))

pub returns : goal.returns
returns c =
    let p = c.args.plot.now in
    marks_are p.plot.components.now p.prepared.members_are c.flag_inputs.ensures.inferred_flags (c.gather.auto.out ∙ c.requires)
    (gathered_same p.prepared.members_long c.gather.ensures)
