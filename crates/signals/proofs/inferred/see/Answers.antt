-- `signals::inferred::see` meets its contract, by what was seen before.
-- Assumes nothing.
use Rattle.signals.proofs.Neighbours.{seen_more}
use Rattle.signals.proofs.inferred.see.Goals as goal

pub returns-else-i-j : goal.returns-else-i-j
returns-else-i-j c n test h s = seen_more n test _ h _ c.if-i-j.false (rw c.in-One.is at s)
