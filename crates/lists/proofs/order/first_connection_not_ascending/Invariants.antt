-- The fields that `first_not_ascending` is told of.
-- Assumes nothing.
use Rattle.lists.specs.Order.{connection_order}
use Rattle.lists.proofs.order.first_connection_not_ascending.Given as goal

abbrev pub ghost-first_not_ascending : goal.ghost-first_not_ascending
ghost-first_not_ascending a = connection_order
