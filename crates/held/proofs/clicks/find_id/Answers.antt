-- Answers for the goals that the search leaves.
use mathlib.Core.Path.{sym, ◌∙◌}
use Rattle.lists.proofs.Search.{first_here, first_later, first_none}
use Rattle.held.proofs.clicks.find_id.Goals as goal

pub returns-then-id_at : goal.returns-then-id_at
returns-then-id_at c = sym (first_here _ _ _ c.loop-k-test.true (sym c.id_at.ensures ∙ c.if-id_at.true)) ∙ c.loop-k.invariant

pub loop-k-preserved : goal.loop-k-preserved
loop-k-preserved c = sym (first_later _ _ _ c.loop-k-test.true (sym c.id_at.ensures ∙ c.if-id_at.false)) ∙ c.loop-k.invariant

pub returns : goal.returns
returns c = sym (first_none _ _ _ c.loop-k-test.false) ∙ c.loop-k.invariant
