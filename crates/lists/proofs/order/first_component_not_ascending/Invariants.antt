-- The fields that `first_not_ascending` is told of.
-- Assumes nothing.
use Rattle.lists.specs.Order.{component_order}
use Rattle.lists.proofs.order.first_component_not_ascending.Given as goal

abbrev pub ghost-first_not_ascending : goal.ghost-first_not_ascending
ghost-first_not_ascending a = component_order
