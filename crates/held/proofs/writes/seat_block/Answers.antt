-- Answers for the goals that the search leaves.
use native.Mathlib.Omega.{arith}
use mathlib.Core.Path.{sym, ◌∙◌}
use Rattle.held.proofs.SeatLaws.{seat_lowest, state_lowest, seat_latest, state_latest}
use Rattle.held.proofs.writes.seat_block.Goals as goal

pub overflow_mul-lowest : goal.overflow_mul-lowest
overflow_mul-lowest c = omega (arith, c.requires.seat_few, seat_lowest c.args.state.now c.if-freed-eq0.true)

pub put_numbers-requires : goal.put_numbers-requires
put_numbers-requires c =
    omega (arith, c.requires.seat_few, seat_lowest c.args.state.now c.if-freed-eq0.true, c.requires.numbers_long, c.requires.places_room)

pub returns-then-freed-eq0 : goal.returns-then-freed-eq0
returns-then-freed-eq0 c =
    let none = c.if-freed-eq0.true in
    record {
      seat_is = sym (seat_lowest c.args.state.now none);
      state_is = sym (state_lowest c.args.state.now none);
      places_are = c.put_numbers.ensures ∙ rw (seat_lowest c.args.state.now none, c.requires.numbers_long);
    }

pub overflow_mul-latest : goal.overflow_mul-latest
overflow_mul-latest c = omega (arith, c.requires.seat_few, seat_latest c.args.state.now c.if-freed-eq0.false)

pub put_numbers-requires-2 : goal.put_numbers-requires-2
put_numbers-requires-2 c =
    omega (arith, c.requires.seat_few, seat_latest c.args.state.now c.if-freed-eq0.false, c.requires.numbers_long, c.requires.places_room)

pub returns : goal.returns
returns c =
    let some = c.if-freed-eq0.false in
    record {
      seat_is = sym (seat_latest c.args.state.now some);
      state_is = sym (state_latest c.args.state.now some);
      places_are = c.put_numbers-2.ensures ∙ rw (seat_latest c.args.state.now some, c.requires.numbers_long);
    }
