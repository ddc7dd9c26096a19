-- `blocks::answer::put_refusal_numbers` meets its contract: three lines, one behind the other.
-- Assumes nothing.
use Rattle.blocks.specs.Lines.{numbered_lines}
use Rattle.blocks.proofs.Printing.{printed_then}
use Rattle.blocks.proofs.answer.put_refusal_numbers.Goals as goal

pub returns : goal.returns
unfolding numbered_lines
returns c = printed_then c.put_natural-a.ensures (printed_then c.put_natural-b.ensures c.put_natural.ensures)
