-- `blocks::inputs::put_input` meets its contract: five lines, one behind the other.
-- Assumes nothing.
use Rattle.blocks.specs.Blocks.{ids_in}
use Rattle.blocks.proofs.Printing.{printed_then}
use Rattle.blocks.proofs.FieldText.{input_lines_lem}
use Rattle.blocks.proofs.inputs.put_input.Goals as goal

pub returns : goal.returns
returns c =
    let a = c.args in
    let row = a.row in
    rw (input_lines_lem row.device row.port row.status (ids_in a.keys.now a.immediate.words) (ids_in a.keys.now a.inferred.words))
    (printed_then c.put_field-a.ensures
    (printed_then c.put_field-b.ensures
    (printed_then c.put_field-c.ensures (printed_then c.put_ids-d.ensures c.put_ids.ensures))))
