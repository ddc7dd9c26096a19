-- Answers for the goals that the search leaves.
use Rattle.liveness.proofs.steps.flag_inputs.Goals as goal

pub returns-clause-inferred_flags : goal.returns-clause-inferred_flags
returns-clause-inferred_flags c = c.flag_inferred.ensures c.args.plot.now.plot.frontiers.now c.flag_drive.ensures.region_flags
