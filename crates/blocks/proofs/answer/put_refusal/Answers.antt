-- `blocks::answer::put_refusal` meets its contract: the lines of the refusal's numbers.
-- Assumes nothing.
use Rattle.blocks.specs.Lines.{refusal_lines, numbered_lines}
use Rattle.blocks.proofs.answer.put_refusal.Goals as goal

pub returns : goal.returns
unfolding refusal_lines numbered_lines
returns c = rw (c.from-number.ensures, c.list_number.ensures) at c.put_refusal_numbers.ensures
