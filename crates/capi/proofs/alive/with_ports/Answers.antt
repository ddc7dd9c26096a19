-- `capi::alive::with_ports` meets its contract: the port connections have room in the local array, and are read whole. Assumes nothing.
use Rattle.encoding.proofs.Answers.{numbers_front}
use Rattle.capi.proofs.LivenessLaws.{ports_alive}
use Rattle.capi.proofs.alive.with_ports.Goals as goal

pub returns : goal.returns
returns g c = ports_alive (numbers_front _ _ _ c.decode.ensures) c.of_numbers.ensures
