-- Answers for the goals that the search leaves.
use mathlib.Core.Path.{sym, ◌∙◌}
use Prim.Native.Nat.{◌*◌, ◌≤◌}
use native.Mathlib.Omega.{arith}
use lib.ListN.{length}
use lib.Seq.{length-take-le}
use Rattle.held.specs.Lent.{frontier_count_in}
use Rattle.held.specs.Lent.{lent_of}
use Rattle.held.proofs.LentLaws.{room_of}
use Rattle.held.proofs.ValidLaws.{counts_of}
use Rattle.held.proofs.inspect.frame_fits.Goals as goal

pub counts_fit-requires : goal.counts_fit-requires
counts_fit-requires c =
    let room = room_of (lent_of c.args.state.now c.args.frontiers.now c.args.places.now c.args.connections.now) (sym c.has_room.ensures ∙ c.if-not-has_room.false) in
    omega (arith, room.state_room)

pub zero_behind-requires-clause-room : goal.zero_behind-requires-clause-room
zero_behind-requires-clause-room c =
    room_of (lent_of c.args.state.now c.args.frontiers.now c.args.places.now c.args.connections.now) (sym c.has_room.ensures ∙ c.if-not-has_room.false)

pub zero_behind-requires-clause-counts : goal.zero_behind-requires-clause-counts
zero_behind-requires-clause-counts c = counts_of c.args.state.now (sym c.counts_fit.ensures ∙ c.if-not-counts_fit.false)

pub bounds-state-4 : goal.bounds-state-4
bounds-state-4 c =
    let room = room_of (lent_of c.args.state.now c.args.frontiers.now c.args.places.now c.args.connections.now) (sym c.has_room.ensures ∙ c.if-not-has_room.false) in
    omega (arith, room.state_room)

pub overflow_mul-count : goal.overflow_mul-count
overflow_mul-count c =
    let counts = counts_of c.args.state.now (sym c.counts_fit.ensures ∙ c.if-not-counts_fit.false) in
    omega (arith, counts.frontiers)

pub bounds-state-0 : goal.bounds-state-0
bounds-state-0 c =
    let room = room_of (lent_of c.args.state.now c.args.frontiers.now c.args.places.now c.args.connections.now) (sym c.has_room.ensures ∙ c.if-not-has_room.false) in
    omega (arith, room.state_room)

pub slice_bounds-opens-end : goal.slice_bounds-opens-end
slice_bounds-opens-end c =
    let room = room_of (lent_of c.args.state.now c.args.frontiers.now c.args.places.now c.args.connections.now) (sym c.has_room.ensures ∙ c.if-not-has_room.false) in
    let counts = counts_of c.args.state.now (sym c.counts_fit.ensures ∙ c.if-not-counts_fit.false) in
    let a : frontier_count_in c.args.state.now * 3 ≤ length c.args.frontiers.now = omega (arith, room.frontiers_room, counts.frontiers) in
    sym (length-take-le (frontier_count_in c.args.state.now * 3) c.args.frontiers.now a)
