-- `liveness::steps::mark` meets its contract: drive sources and inferred inputs, and what they reach.
-- Assumes nothing.
use Rattle.liveness.proofs.steps.mark.Goals as goal

pub returns : goal.returns
returns c =
    let e = c.flag_inputs.ensures in
    let a = c.flag_alive.ensures c.args.plot.now.plot.rules c.args.plot.now.plot.frontiers.now e.region_flags e.inferred_flags in
    record {
      frontier_flags = e.frontier_flags;
      inferred_flags = e.inferred_flags;
      region_flags = e.region_flags;
      drive_is = a.drive_is;
      potential_is = a.potential_is;
    }
