-- `scene::connections::Scene::port_at` meets its contract: the codes of the component say its ports, and the rows hold these.
-- Assumes nothing.
use mathlib.Core.Path.{◌≡◌, ap, ◌∙◌}
use mathlib.Core.List.{List}
use Rattle.lists.specs.Records.{component}
use Rattle.faces.specs.Ports.{Port, ports_of}
use Rattle.faces.specs.Codes.{face_code, ports_in}
use Rattle.faces.specs.Select.{select_port}
use Rattle.faces.proofs.Places.{ports_back}
use Rattle.scene.proofs.connections.Scene.port_at.Goals as goal

pub returns : goal.returns
returns c =
    let ports = ports_of c.args.self.now.rules (component c.args.self.now.components.numbers.now c.args.k) in
    let e : ports_in c.ports_for-ports.result ≡ ports = ports_back c.ports_for-ports.result ports
    (rw (c.kind.ensures, c.facing.ensures, c.support.ensures, c.conducts.ensures) at c.ports_for-ports.ensures) in
    rw c.from.ensures at c.select_port.ensures ∙ ap (λ (l : List Port). select_port l (face_code c.args.face) c.args.outgoing c.args.kind) e
