-- `reach_table::table::fill` meets its contract. The loop's invariant: the middles before m are admitted.
-- Assumes nothing.
use Rattle.regions.specs.Graph.{Edges}
use Rattle.reach_table.specs.Table.{start, middles_below}
use Rattle.reach_table.specs.Square.{Holds}
use Rattle.reach_table.proofs.table.fill.Given as goal

abbrev pub invariant-loop-m : goal.invariant-loop-m
invariant-loop-m l = (edge : Edges) → Holds l.n (start edge) l.initial.square → Holds l.n (middles_below l.m edge) l.square
