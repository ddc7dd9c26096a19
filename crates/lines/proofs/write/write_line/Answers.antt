-- `lines::write::write_line` meets its contract. Four writers, one after the other (`wrote_then`), each with room left by those before it
-- (`room_then`). Assumes nothing.
use native.Mathlib.Omega.{arith}
use mathlib.Core.List.{[], ◌∷◌}
use lib.ListN.{length-append}
use lib.IntN.{pos}
use Rattle.lines.specs.Decimal.{digits}
use Rattle.lines.proofs.Writing.{wrote_then, room_then, line_parts, natural_size}
use Rattle.lines.proofs.write.write_line.Goals as goal

pub put_digits-requires : goal.put_digits-requires
put_digits-requires c =
    room_then
    (wrote_then c.put_bytes-a.ensures c.put_byte.ensures)
    (digits c.args.value [])
    (simp length-append (omega (arith, natural_size c.args.key.now c.args.value, c.requires)))

pub put_byte-requires-2 : goal.put_byte-requires-2
put_byte-requires-2 c =
    room_then
    (wrote_then (wrote_then c.put_bytes-a.ensures c.put_byte.ensures) c.put_digits.ensures)
    (10 ∷ [])
    (simp length-append (omega (arith, natural_size c.args.key.now c.args.value, c.requires)))

pub returns : goal.returns
returns c =
    rw (← line_parts c.args.key.now (pos c.args.value)) (
    wrote_then
    (wrote_then
    (wrote_then
    c.put_bytes-a.ensures
    c.put_byte.ensures)
    c.put_digits.ensures)
    c.put_byte-2.ensures)
