-- The bytes of its parts.
use mir.Syntax.{w64}
use mir.Facts.{to_z-of_z}
use Rattle.forms.specs.Places.{field_of}
use Rattle.forms.proofs.Lengths.{field_bytes}
use Rattle.forms.proofs.write.field_length.Goals as goal

pub returns : goal.returns
returns c =
    let v = to_z-of_z {w = w64} c.ranges.value in
    let from = rw v at c.from.ensures in
    let abs = rw v at c.unsigned_abs.ensures.value in
    rw (from, c.digit_count.ensures, abs) (field_bytes (field_of c.args.field) c.args.value)
