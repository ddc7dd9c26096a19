-- Component by component.
use mathlib.Core.Path.{sym, ◌∙◌}
use native.Mathlib.Nat.{sub-zero}
use Rattle.lists.proofs.Search.{first_here, first_later, first_none}
use Rattle.joining.specs.Conflict.{first_conflict}
use Rattle.joining.proofs.conflict.first_conflict.Goals as goal

pub loop-k-init : goal.loop-k-init
unfolding first_conflict
loop-k-init c = rw (sub-zero, c.count-k-end.ensures.0)

pub returns-then-conflicts : goal.returns-then-conflicts
returns-then-conflicts c =
    sym (first_here _ _ _ c.loop-k-test.true (sym c.conflicts.ensures ∙ c.if-conflicts.true))
    ∙ c.loop-k.invariant

pub loop-k-preserved : goal.loop-k-preserved
loop-k-preserved c =
    sym (first_later _ _ _ c.loop-k-test.true (sym c.conflicts.ensures ∙ c.if-conflicts.false))
    ∙ c.loop-k.invariant

pub returns : goal.returns
returns c = sym (first_none _ _ _ c.loop-k-test.false) ∙ c.loop-k.invariant
