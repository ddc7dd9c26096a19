-- Answers for the goals that the search leaves.
use Rattle.std.proofs.Common.{rules}
use mathlib.Core.Path.{◌≡◌}
use native.Mathlib.Omega.{arith}
use Rattle.lists.specs.Records.{frontier, frontier_count}
use Rattle.signals.specs.Sources.{is_on_frontier}
use Rattle.assessment.proofs.Frontiers.{first_flagged, frontier_none, frontier_more}
use Rattle.assessment.proofs.sources.frontier_flags.Goals as goal

pub loop-j-init : goal.loop-j-init
loop-j-init c =
    rw (c.fill.ensures.after (λ y h. search rules)) (frontier_none c.args.components.now c.args.frontiers.now _ c.requires.components_in_bounds)

pub loop-j-preserved : goal.loop-j-preserved
loop-j-preserved c =
    let cs = c.args.components.now in
    let fs = c.args.frontiers.now in
    let e = c.position_at.ensures in
    frontier_more cs fs c.loop-j.j c.loop-j.invariant (first_flagged cs (frontier fs c.loop-j.j) e.0 e.1.0 e.1.1 c.flag_first.ensures)

pub returns : goal.returns
unfolding is_on_frontier
returns c =
    let all : c.loop-j.j ≡ frontier_count c.args.frontiers.now = omega arith in
    rw all at c.loop-j.invariant
