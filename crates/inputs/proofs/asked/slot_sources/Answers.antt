-- Answers for the goals that the search leaves.
use mathlib.Core.Path.{◌≡◌, refl}
use Prim.Native.Nat.{◌%◌, ◌<◌}
use native.Mathlib.Omega.{arith}
use lib.ListN.{length, get_or}
use Rattle.tables.specs.Pairs.{span}
use Rattle.inputs.proofs.Inputs.{slot_held, slot_small}
use Rattle.inputs.proofs.Asking.{sought_more, slot_sets}
use Rattle.inputs.proofs.asked.slot_sources.Goals as goal
use Rattle.inputs.proofs.asked.slot_sources.Goals.{In-loop-key}

-- a key of the slot names a node
node : (c : In-loop-key) → get_or c.slot_keys-key-items.result.now c.loop-key.key-index 0 % span < length c.args.labels.now
node c = slot_small c.slot_keys-key-items.ensures c.requires.ascending.1.1 c.loop-key.key-index c.loop-key-test.true

pub loop-key-preserved : goal.loop-key-preserved
loop-key-preserved c =
    let l = c.loop-key in
    let a = c.args in
    sought_more a.fed.now c.slot_keys-key-items.result.now a.slot a.labels.now a.upstream.now l.invariant
    (slot_held c.slot_keys-key-items.ensures l.key-index c.loop-key-test.true)
    (node (goal.at.loop-key-preserved c).In-loop-key) _ c.insert-immediate.ensures (rw c.from.ensures at c.union-inferred.ensures)

pub returns : goal.returns
returns c =
    let all : c.loop-key.key-index ≡ length c.slot_keys-key-items.result.now = omega arith in
    slot_sets c.slot_keys-key-items.ensures c.requires.indices.1 (rw all at c.loop-key.invariant) refl refl

pub bounds-labels-source : goal.bounds-labels-source
bounds-labels-source c = node (goal.at.bounds-labels-source c).In-loop-key

pub insert-immediate-requires : goal.insert-immediate-requires
insert-immediate-requires c = omega (arith, node (goal.at.insert-immediate-requires c).In-loop-key, c.requires.indices.1)
