-- `inputs::port::drive_members` meets its contract: the drive sources by list place, gathered by member.
-- Assumes nothing.
use mathlib.Core.Path.{sym, ◌∙◌}
use Rattle.lists.specs.Records.{component_count}
use Rattle.lists.specs.Ids.{member_of}
use Rattle.signals.specs.Flags.{Numbers}
use Rattle.signals.proofs.Lent.{indices_same, indices_front, gathered_front}
use Rattle.signals.proofs.Staged.{members_below, marks_are}
use Rattle.liveness.proofs.Lent.{nodes_few}
use Rattle.inputs.proofs.Sources.{drives_too}
use Rattle.inputs.proofs.port.drive_members.Goals as goal
use Rattle.inputs.proofs.port.drive_members.Goals.{After-place_members}

-- the member of each component
numbers : (c : After-place_members) → Numbers (component_count c.args.plot.now.components.now) (member_of c.args.plot.now.components.now) c.place_members.new.members
numbers c = let a = c.args.plot.now.accepted in c.place_members.ensures c.args.plot.now.components.now a.table a.scene.distinct

pub place_members-requires : goal.place_members-requires
place_members-requires c =
    let a = c.args.plot.now.accepted in
    ((c.args.plot.now.components.now, a.table), nodes_few a, nodes_few a)

pub gather-requires-clause-indices : goal.gather-requires-clause-indices
gather-requires-clause-indices c =
    indices_front c.place_members.new.members
    (indices_same (sym c.requires) (members_below c.args.plot.now.components.now (numbers (goal.at.gather-requires-clause-indices c).After-place_members)))

pub returns : goal.returns
returns c =
    let cs = c.args.plot.now.components.now in
    let n = numbers (goal.at.returns c).After-place_members in
    marks_are cs n (drives_too cs c.args.plot.now.frontiers.now c.frontier_flags.ensures (rw c.component_list.ensures at c.drive_flags.ensures))
    (c.gather.auto.out ∙ c.requires) (gathered_front c.place_members.new.members n.long c.gather.ensures)
