-- Answers for the goals that the search leaves.
use Rattle.blocks.proofs.Printing.{printed_then}
use Rattle.blocks.proofs.ids.put_ids.Goals as goal

pub returns : goal.returns
returns c = printed_then c.put_text-a.ensures (printed_then c.put_sign-b.ensures (printed_then c.put_members-c.ensures c.put_sign.ensures))
