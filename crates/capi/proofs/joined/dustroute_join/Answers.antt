-- The joined sheet is written into the front of the buffer, and its refusal has room in the answer's digits.
use mathlib.Core.Path.{refl}
use Rattle.capi.proofs.JoinLaws.{join_apart, by_join}
use Rattle.capi.proofs.joined.dustroute_join.Goals as goal

pub pack_join-requires : goal.pack_join-requires
pack_join-requires c = join_apart c.args.first.now c.args.second.now _ c.join_sheets-made.ensures c.in-Err.is

pub returns-in-Err : goal.returns-in-Err
returns-in-Err c = by_join c.args.first.now c.args.second.now c.args.out.now c.min-room.ensures c.join_sheets-made.ensures (rw c.in-Err.is c.pack_join.ensures)

pub returns-in-Ok : goal.returns-in-Ok
returns-in-Ok c = by_join c.args.first.now c.args.second.now c.args.out.now c.min-room.ensures c.join_sheets-made.ensures (rw c.in-Ok.is refl)
