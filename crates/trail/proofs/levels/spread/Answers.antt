-- Answers for the goals that the search leaves.
use native.Mathlib.Omega.{arith}
use lib.ListN.{length}
use Rattle.graph.specs.Rows.{edges_of}
use Rattle.trail.proofs.Row.{Neighbours, neighbours}
use Rattle.trail.proofs.Spreading.{spreading_room, spreading_more, spreading_end}
use Rattle.trail.proofs.levels.spread.Goals as goal
use Rattle.trail.proofs.levels.spread.Goals.{After-row-neighbour-items}

row : (c : After-row-neighbour-items)
    → let g = c.args.graph in Neighbours (length g.ends.now) (edges_of g.ends.now g.next.now) c.from-node.result c.row-neighbour-items.result.now
row c =
    let (few, lt, wave) = c.requires in
    neighbours c.args.graph.rows c.from-node.result (omega (arith, c.from-node.ensures, (wave.1.holds.queued c.args.head lt).0)) c.row-neighbour-items.ensures

pub note-count-requires : goal.note-count-requires
note-count-requires c =
    let (few, lt, wave) = c.requires in
    spreading_room (row (goal.at.note-count-requires c).After-row-neighbour-items) wave.0 wave.1 c.loop-neighbour.invariant c.loop-neighbour-test.true

pub loop-neighbour-preserved : goal.loop-neighbour-preserved
loop-neighbour-preserved c =
    let (few, lt, wave) = c.requires in
    spreading_more (row (goal.at.loop-neighbour-preserved c).After-row-neighbour-items) wave.0 wave.1 c.loop-neighbour.invariant c.loop-neighbour-test.true c.note-count.ensures

pub returns : goal.returns
returns c =
    let (few, lt, wave) = c.requires in
    spreading_end (row (goal.at.returns c).After-row-neighbour-items) wave.0 wave.1 c.loop-neighbour.invariant
    (omega (arith, c.loop-neighbour-test.false, c.loop-neighbour.auto.neighbour-index-end))
