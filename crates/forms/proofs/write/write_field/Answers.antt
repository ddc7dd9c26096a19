-- Three writers, one after the other.
use native.Mathlib.Omega.{arith}
use mathlib.Core.List.{[], ◌∷◌}
use lib.ListN.{length-append}
use mir.Syntax.{w64}
use mir.Facts.{to_z-of_z}
use Rattle.lines.specs.Decimal.{number}
use Rattle.lines.proofs.Writing.{wrote_then, room_then}
use Rattle.forms.specs.Places.{field_of}
use Rattle.forms.proofs.Grammar.{field_parts, field_size}
use Rattle.forms.proofs.write.write_field.Goals as goal

pub put_number-requires : goal.put_number-requires
put_number-requires c =
    rw (to_z-of_z {w = w64} c.ranges.value)
    (room_then
    c.put_bytes-a.ensures
    (number c.args.value [])
    (simp length-append (omega (arith, field_size (field_of c.args.field) c.args.value, c.requires))))

pub put_byte-requires : goal.put_byte-requires
put_byte-requires c =
    let w = rw (to_z-of_z {w = w64} c.ranges.value) at c.put_number.ensures in
    room_then
    (wrote_then c.put_bytes-a.ensures w)
    (c.args.field.1 ∷ [])
    (simp length-append (omega (arith, field_size (field_of c.args.field) c.args.value, c.requires)))

pub returns : goal.returns
returns c =
    let w = rw (to_z-of_z {w = w64} c.ranges.value) at c.put_number.ensures in
    rw (← field_parts (field_of c.args.field) c.args.value) (wrote_then (wrote_then c.put_bytes-a.ensures w) c.put_byte.ensures)
