-- Answers for the goals that the search leaves.
use Prim.Native.Nat.{◌+◌, ◌*◌, ◌<◌}
use native.Mathlib.Omega.{arith}
use lib.ListN.{length, get_or}
use Rattle.lists.specs.Ids.{MemberPlace}
use Rattle.lists.specs.Records.{component_count}
use Rattle.liveness.proofs.Lent.{nodes_are}
use Rattle.reach_table.proofs.Cells.{cell_low}
use Rattle.reach_table.proofs.Starting.{row_none, row_more, row_all}
use Rattle.reach_table.proofs.start.put_row.Goals as goal
use Rattle.reach_table.proofs.start.put_row.Goals.{After-place_at-column}

-- the list place of the neighbour
module _ (c : After-place_at-column) where
  to : MemberPlace c.args.plot.now.components.now (get_or c.args.neighbours.now c.loop-neighbour.neighbour-index 0) c.place_at-column.result
  to = rw c.from.ensures at (c.place_at-column.ensures c.args.plot.now.components.now c.args.plot.now.accepted.table)

  low : c.args.row * length c.args.plot.now.keys.now + c.place_at-column.result < length c.loop-neighbour.square
  low =
      let n = component_count c.args.plot.now.components.now in
      let p = cell_low n c.args.row c.place_at-column.result c.requires.room.0 to.below in
      rw (nodes_are c.args.plot.now.accepted) (omega (arith, p, c.loop-neighbour.auto.square, c.requires.room.1))

pub loop-neighbour-init : goal.loop-neighbour-init
loop-neighbour-init c = row_none c.args.plot.now.components.now c.args.row c.args.neighbours.now c.args.square.now

pub place_at-column-requires : goal.place_at-column-requires
place_at-column-requires c = omega (arith, nodes_are c.args.plot.now.accepted, c.requires.members c.loop-neighbour.neighbour-index c.loop-neighbour-test.true)

pub overflow_mul-square : goal.overflow_mul-square
overflow_mul-square c = let p = low (goal.at.overflow_mul-square c).After-place_at-column in omega arith

pub overflow_add-square : goal.overflow_add-square
overflow_add-square c = let p = low (goal.at.overflow_add-square c).After-place_at-column in omega arith

pub bounds-square-row : goal.bounds-square-row
bounds-square-row c = low (goal.at.bounds-square-row c).After-place_at-column

pub loop-neighbour-preserved : goal.loop-neighbour-preserved
loop-neighbour-preserved c =
    let s = (goal.at.loop-neighbour-preserved c).After-place_at-column in
    let a = c.args.plot.now.accepted in
    rw (nodes_are a) (row_more a.scene.distinct c.args.row c.args.neighbours.now c.requires.room.0 c.loop-neighbour.invariant c.loop-neighbour-test.true (to s))

pub returns : goal.returns
returns c = row_all c.args.plot.now.components.now c.args.row c.args.neighbours.now (omega arith) c.loop-neighbour.invariant
