-- What `combine_flags` is told of the join.
-- Assumes nothing.
use Rattle.std.proofs.Common.{◌&&◌}
use Rattle.inputs.proofs.query.keep_inputs.Given as goal

abbrev pub ghost-combine_flags : goal.ghost-combine_flags
ghost-combine_flags l reached input = reached && input
