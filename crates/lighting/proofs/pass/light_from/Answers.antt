-- `lighting::pass::light_from` meets its contract: the nodes are sorted by region, and the marks handed on along their edges.
-- Assumes nothing.
use Rattle.std.proofs.Common.{◌≡◌, ◌≤◌, length, arith}
use Rattle.lists.specs.Limits.{component_limit}
use Rattle.lists.specs.Records.{component_count}
use Rattle.signals.specs.Flags.{Indices}
use Rattle.liveness.proofs.Inferring.{labels_long, ends_long, labels_small}
use Rattle.lighting.proofs.Handed.{regions_fit, carried_by, handed_lit}
use Rattle.lighting.proofs.pass.light_from.Goals as goal
use Rattle.lighting.proofs.pass.light_from.Goals.{Start}

-- ---- a prepared scene

few : (s : Start) → component_count s.args.plot.now.plot.components.now ≤ component_limit
few s = s.args.plot.now.plot.accepted.scene.components.few

all : (s : Start) → length s.args.plot.now.labels.now ≡ component_count s.args.plot.now.plot.components.now
all s = labels_long s.args.plot.now.plot.accepted.scene s.args.plot.now.prepared

small : (s : Start) → Indices (length s.args.plot.now.labels.now) component_limit s.args.plot.now.labels.now
small s = labels_small s.args.plot.now.plot.accepted.scene s.args.plot.now.prepared component_limit (few s)

-- ---- the calls

pub by_region-requires-clause-nodes : goal.by_region-requires-clause-nodes
by_region-requires-clause-nodes c =
    let s = (goal.at.by_region-requires-clause-nodes c).Start in
    (omega (arith, all s, few s), omega (arith, all s, few s))

pub by_region-requires-clause-below : goal.by_region-requires-clause-below
by_region-requires-clause-below c x h = (small (goal.at.by_region-requires-clause-below c).Start).below x h

pub pass-requires-clause-nodes : goal.pass-requires-clause-nodes
pass-requires-clause-nodes c = rw (ends_long c.args.plot.now.plot.accepted.scene c.args.plot.now.prepared) c.by_region.ensures.sorted

pub pass-requires-clause-below : goal.pass-requires-clause-below
pass-requires-clause-below c x h =
    let s = (goal.at.pass-requires-clause-below c).Start in
    let low = (small s).below x (omega (arith, ends_long c.args.plot.now.plot.accepted.scene c.args.plot.now.prepared)) in
    omega (arith, c.requires)

pub returns : goal.returns
returns c fs flags =
    let p = c.args.plot.now in
    let scene = p.plot.accepted.scene in
    handed_lit p.plot.components.now p.plot.ports.now fs scene c.pass.new.marks flags (carried_by scene p.prepared c.pass.ensures)
    (omega (arith, c.pass.auto.marks, c.requires, regions_fit scene))
