-- Answers for the goals that the search leaves.
use mathlib.Core.Path.{ap₂, ◌∙◌}
use mathlib.Core.Bool.{◌&&◌}
use Prim.Native.Nat.{◌*◌, ◌≤◌}
use native.Mathlib.Omega.{arith}
use lib.ListN.{length}
use Rattle.held.specs.Lent.{used_in, held_in, frontier_count_in}
use Rattle.held.specs.Inspected.{zero_behind}
use Rattle.held.proofs.InspectLaws.{zeros_rest}
use Rattle.held.proofs.inspect.zero_behind.Goals as goal

pub returns : goal.returns
unfolding zero_behind
returns c =
    let st = c.args.state.now in
    let front : frontier_count_in st * 3 ≤ length c.args.frontiers.now = omega (arith, c.requires.room.frontiers_room, c.requires.counts.frontiers) in
    let blocks : used_in st * 8 ≤ length c.args.places.now = omega (arith, c.requires.room.places_room, c.requires.counts.used) in
    let wires : held_in st * 5 ≤ length c.args.connections.now = omega (arith, c.requires.room.connections_room, c.requires.counts.held) in
    ap₂ ◌&&◌ c.counts_zero.ensures
    (ap₂ ◌&&◌ (c.zeros.ensures ∙ zeros_rest c.args.frontiers.now (frontier_count_in st * 3) front)
    (ap₂ ◌&&◌ (c.zeros-2.ensures ∙ zeros_rest c.args.places.now (used_in st * 8) blocks)
    (c.zeros-3.ensures ∙ zeros_rest c.args.connections.now (held_in st * 5) wires)))
