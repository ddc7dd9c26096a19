-- `scene::connections::Scene::row` meets its contract: six numbers in a row.
-- Assumes nothing.
use native.Mathlib.Omega.{arith}
use Rattle.faces.proofs.Transfers.{transfer_most}
use Rattle.scene.proofs.Slopes.{code_most}
use Rattle.scene.proofs.Writes.{small_read}
use Rattle.scene.proofs.connections.Scene.row.Goals as goal

pub overflow_cast-result-5 : goal.overflow_cast-result-5
overflow_cast-result-5 c = record { sfits = omega (arith, c.transfer_of.ensures, transfer_most c.kind.result) }

pub returns : goal.returns
returns c =
    rw (
      small_read c.source.result (omega (arith, c.source.ensures.1)),
      small_read c.args.link.source_port (omega arith),
      small_read c.sink.result (omega (arith, c.sink.ensures.1)),
      small_read c.args.link.sink_port (omega arith),
      small_read c.transfer_of.result (omega (arith, c.transfer_of.ensures, transfer_most c.kind.result)),
      small_read c.from.result (omega (arith, c.from.ensures, code_most c.args.link.slope)),
      c.source.ensures.0,
      c.sink.ensures.0,
      c.transfer_of.ensures,
      c.kind.ensures,
      c.from.ensures,
    )
