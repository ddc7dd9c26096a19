-- `inputs::slot::slot_keys` meets its contract: the keys between the first that is not below the slot's and the first past them.
-- Assumes nothing.
use Rattle.inputs.proofs.Inputs.{slot_cut}
use Rattle.inputs.proofs.slot.slot_keys.Goals as goal

pub returns : goal.returns
returns c = slot_cut c.args.slot c.requires.0 c.lower_bound.ensures c.lower_bound-2.ensures
