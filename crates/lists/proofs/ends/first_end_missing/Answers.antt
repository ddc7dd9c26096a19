-- Answers for the goals that the search leaves.
use mathlib.Core.Path.{sym, ◌∙◌}
use native.Mathlib.Nat.{sub-zero}
use Rattle.lists.specs.Ids.{first_end_missing}
use Rattle.lists.proofs.Search.{first_here, first_later, first_none}
use Rattle.lists.proofs.ends.first_end_missing.Goals as goal

pub loop-k-init : goal.loop-k-init
unfolding first_end_missing
loop-k-init c cs t e = rw (sub-zero, c.count-k-end.ensures.0)

pub returns-then-end_missing : goal.returns-then-end_missing
returns-then-end_missing c cs t e =
    sym (first_here _ _ _ c.loop-k-test.true (sym (c.end_missing.ensures cs t e) ∙ c.if-end_missing.true))
    ∙ c.loop-k.invariant cs t e

pub loop-k-preserved : goal.loop-k-preserved
loop-k-preserved c cs t e =
    sym (first_later _ _ _ c.loop-k-test.true (sym (c.end_missing.ensures cs t e) ∙ c.if-end_missing.false))
    ∙ c.loop-k.invariant cs t e

pub returns : goal.returns
returns c cs t e = sym (first_none _ _ _ c.loop-k-test.false) ∙ c.loop-k.invariant cs t e
