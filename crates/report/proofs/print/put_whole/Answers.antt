-- `report::print::put_whole` meets its contract: the first line, four blocks, the verdict rows and the last block, one behind the other.
-- Assumes nothing.
use Rattle.blocks.proofs.Printing.{printed_then}
use Rattle.report.proofs.print.put_whole.Goals as goal

pub returns : goal.returns
returns c ps fs ready =
    let blocks =
    printed_then c.put_accepted-a.ensures
    (printed_then c.put_block-b.ensures (printed_then c.put_block-c.ensures (printed_then c.put_block-d.ensures c.put_block-e.ensures))) in
    printed_then blocks (printed_then (c.put_rows-f.ensures ps fs ready) c.put_unread.ensures)
