-- The sheet is written into the front of the buffer, and its refusal has room in the answer's digits.
use mathlib.Core.Path.{refl}
use Rattle.capi.proofs.TextLaws.{convert_small, by_convert}
use Rattle.capi.proofs.texts.dustroute_convert.Goals as goal

pub pack_refusal-requires : goal.pack_refusal-requires
pack_refusal-requires c = convert_small c.convert_sheet-made.ensures c.in-Err.is

pub returns-in-Err : goal.returns-in-Err
returns-in-Err c = by_convert c.min-room.ensures (rw c.in-Err.is c.pack_refusal.ensures) c.convert_sheet-made.ensures

pub returns-in-Ok : goal.returns-in-Ok
returns-in-Ok c = by_convert c.min-room.ensures (rw c.in-Ok.is refl) c.convert_sheet-made.ensures
