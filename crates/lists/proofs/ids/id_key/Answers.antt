-- `lists::ids::id_key` meets its contract: an id and a place make a number of 44 bits.
-- Assumes nothing.
use native.Mathlib.Omega.{arith}
use Rattle.lists.proofs.ids.id_key.Goals as goal

pub overflow_add-result : goal.overflow_add-result
overflow_add-result c = omega (arith, c.id.ensures.1, c.args.components.within.few)
