-- `lighting::pass::light` meets its contract: the regions that hold a drive source are marked, then the pass lights the others.
-- Assumes nothing.
use Rattle.lighting.proofs.pass.light.Goals as goal

pub returns : goal.returns
returns c = c.light_from.ensures c.args.plot.now.plot.frontiers.now c.flag_drive.ensures.region_flags
