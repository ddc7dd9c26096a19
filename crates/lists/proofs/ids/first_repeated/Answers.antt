-- Answers for the goals that the search leaves.
use mathlib.Core.Path.{sym, ◌∙◌}
use native.Mathlib.Nat.{sub-zero}
use Rattle.lists.specs.Ids.{first_repeated}
use Rattle.lists.proofs.Search.{first_here, first_later, first_none}
use Rattle.lists.proofs.Table.{unrepeated_none}
use Rattle.lists.proofs.ids.first_repeated.Goals as goal

pub returns-then-none_repeated : goal.returns-then-none_repeated
returns-then-none_repeated c = sym (unrepeated_none c.requires (c.none_repeated.ensures c.if-none_repeated.true))

pub loop-k-init : goal.loop-k-init
unfolding first_repeated
loop-k-init c = rw (sub-zero, c.count-k-end.ensures.0)

pub returns-then-used_earlier : goal.returns-then-used_earlier
returns-then-used_earlier c =
    sym (first_here _ _ _ c.loop-k-test.true (sym c.used_earlier.ensures ∙ c.if-used_earlier.true))
    ∙ c.loop-k.invariant

pub loop-k-preserved : goal.loop-k-preserved
loop-k-preserved c =
    sym (first_later _ _ _ c.loop-k-test.true (sym c.used_earlier.ensures ∙ c.if-used_earlier.false))
    ∙ c.loop-k.invariant

pub returns : goal.returns
returns c = sym (first_none _ _ _ c.loop-k-test.false) ∙ c.loop-k.invariant
