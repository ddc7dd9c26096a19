-- `rings::plot::flag_plot` meets its contract: the rows and labels of a prepared plot are those of its signals.
-- Assumes nothing.
use mathlib.Core.Path.{sym}
use native.Mathlib.Omega.{arith}
use Rattle.signals.proofs.Lent.{indices_same}
use Rattle.signals.proofs.Within.{scene_regions}
use Rattle.liveness.proofs.Inferring.{labels_long, ends_long, turned}
use Rattle.rings.proofs.Prepared.{labels_low, prepared_rings}
use Rattle.rings.proofs.plot.flag_plot.Goals as goal

pub invariant_of-network : goal.invariant_of-network
invariant_of-network c =
    let p = c.args.plot.now in
    record {
      nodes = ends_long p.plot.accepted.scene p.prepared;
      turned = turned p.plot.accepted.scene p.prepared;
    }

pub flag_rings-requires : goal.flag_rings-requires
flag_rings-requires c =
    let p = c.args.plot.now in
    let scene = p.plot.accepted.scene in
    let few = scene.components.few in (
      indices_same (sym c.requires) (labels_low scene p.prepared),
      (
        omega (arith, labels_long scene p.prepared, few),
        omega (arith, c.requires, (scene_regions p.plot.components.now p.plot.ports.now scene.ends).few, few),
      ),
    )

pub returns : goal.returns
returns c = let p = c.args.plot.now in prepared_rings p.plot.accepted.scene p.prepared c.requires c.flag_rings.ensures
