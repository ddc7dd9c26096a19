-- Answers for the goals that the search leaves.
use mathlib.Core.Path.{◌≡◌, ◌∙◌}
use Prim.Native.Nat.{◌%◌, ◌<◌}
use native.Mathlib.Omega.{arith}
use lib.ListN.{length, get_or}
use Rattle.tables.specs.Pairs.{span}
use Rattle.inputs.proofs.Inputs.{slot_held, flagged_more, flagged_all}
use Rattle.inputs.proofs.query.immediate_flags.Goals as goal
use Rattle.inputs.proofs.query.immediate_flags.Goals.{In-loop-key}

-- a key of the slot has a flag
room : (c : In-loop-key) → get_or c.args.keys.now c.loop-key.key-index 0 % span < length c.loop-key.flags
room c = omega (arith, c.loop-key.auto.flags ∙ c.fill.auto.self, c.requires.flags_in_bounds c.loop-key.key-index c.loop-key-test.true)

pub loop-key-preserved : goal.loop-key-preserved
loop-key-preserved c fed slot s =
    flagged_more (c.loop-key.invariant fed slot s) (slot_held s c.loop-key.key-index c.loop-key-test.true) (room (goal.at.loop-key-preserved c).In-loop-key)

pub returns : goal.returns
returns c fed slot s =
    let all : c.loop-key.key-index ≡ length c.args.keys.now = omega arith in
    flagged_all s (rw all at c.loop-key.invariant fed slot s) (c.loop-key.auto.flags ∙ c.fill.auto.self) c.requires.flags_len

pub bounds-flags-key : goal.bounds-flags-key
bounds-flags-key c = room (goal.at.bounds-flags-key c).In-loop-key
