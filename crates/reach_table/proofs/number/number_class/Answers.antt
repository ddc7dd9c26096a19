-- Answers for the goals that the search leaves.
use native.Mathlib.Omega.{arith}
use Rattle.reach_table.proofs.Classes.{class_done}
use Rattle.reach_table.proofs.number.number_class.Goals as goal

pub returns : goal.returns
returns c = class_done c.args.a c.args.count c.args.numbered.now c.args.regions.now c.loop-b.invariant (omega arith)
