-- Answers for the goals that the search leaves.
use Rattle.held.proofs.Twice.{differ}
use Rattle.held.proofs.connections.all_differ.Goals as goal

pub returns : goal.returns
returns c = differ c.args.keys.now _ _ c.sort.ensures c.neighbours_differ.ensures
