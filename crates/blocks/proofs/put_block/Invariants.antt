-- `blocks::put_block` meets its contract: before line k, the lines from k on are still to be written.
-- Assumes nothing.
use Rattle.blocks.specs.Blocks.{block_text}
use Rattle.blocks.proofs.Printing.{Going}
use Rattle.blocks.proofs.FieldText.{lines_from}
use Rattle.blocks.proofs.put_block.Given as goal

abbrev pub invariant-loop-k : goal.invariant-loop-k
invariant-loop-k l = Going (block_text l.block l.rows) l.fn.at l.fn.out (lines_from l.block l.rows l.k) l.out l.p
