-- `scene::connections::Scene::keep` meets its contract: what is kept of the connection is written after the rows before it, or nothing.
-- Assumes nothing.
use mathlib.Core.Path.{sym, ap, ◌∙◌}
use Prim.Native.Nat.{◌+◌, ◌-◌, ◌*◌}
use native.Mathlib.Omega.{arith}
use Rattle.lists.specs.Records.{connection}
use Rattle.scene.specs.Answer.{ports_by}
use Rattle.scene.proofs.Links.{linked}
use Rattle.scene.proofs.Writes.{part_put}
use Rattle.scene.proofs.connections.Scene.keep.Goals as goal

pub row-requires : goal.row-requires
row-requires c =
    let ends = linked c.args.self.now.rules c.args.self.now.components.numbers.now (connection c.args.self.now.connections.numbers.now c.args.k) _ _
    (sym c.link_of.ensures.ports ∙ ap ports_by c.in-Ok.is) in record {
      k_bound = c.requires.k_bound;
      port_bounds = (ends.source_port_of, ends.sink_port_of);
    }

pub returns : goal.returns
returns c =
    let place = c.args.count * 6 in
    rw (← c.in-Ok.ensures.ports, ← c.in-Ok.ensures.slope)
    (record { put = part_put c.args.out.now place (place + 6 - place) (c.copy_from_slice.ensures.after ∙ c.row.ensures) (omega arith); count = omega arith })
