-- `faces::select::port_serves` meets its contract.
-- Assumes nothing.
use Rattle.faces.specs.Select.{serves}
use Rattle.faces.proofs.select.port_serves.Goals as goal

pub returns : goal.returns
unfolding serves
returns c = cc
