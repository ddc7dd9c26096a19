-- Where both lists have a record left, the order of the two decides.
use mathlib.Core.Path.{sym, ◌∙◌}
use native.Mathlib.Omega.{arith}
use Rattle.joining.proofs.Steps.{finds_first, finds_second, finds_both, side_left, side_right, side_done}
use Rattle.joining.proofs.merging.next_side.Goals as goal

pub returns-then-b-width : goal.returns-then-b-width
returns-then-b-width c = sym (side_done _ _ _ _ _ _ c.if-a-width.true c.if-b-width.true)

pub returns-then-a-width : goal.returns-then-a-width
returns-then-a-width c = sym (side_right _ _ _ _ _ _ c.if-a-width.true (omega (arith, c.if-b-width.false)))

pub returns-then-b-width-2 : goal.returns-then-b-width-2
returns-then-b-width-2 c = sym (side_left _ _ _ _ _ _ (omega (arith, c.if-a-width.false)) c.if-b-width-2.true)

pub returns-then-starts_before : goal.returns-then-starts_before
returns-then-starts_before c =
    finds_first _ _ c.requires.0 _ _ _ _ (omega (arith, c.if-a-width.false)) (omega (arith, c.if-b-width-2.false))
    (sym c.starts_before.ensures ∙ c.if-starts_before.true)

pub returns-then-starts_before-2 : goal.returns-then-starts_before-2
returns-then-starts_before-2 c =
    finds_second _ _ c.requires.0 _ _ _ _ (omega (arith, c.if-a-width.false)) (omega (arith, c.if-b-width-2.false))
    (sym c.starts_before.ensures ∙ c.if-starts_before.false) (sym c.starts_before-2.ensures ∙ c.if-starts_before-2.true)

pub returns : goal.returns
returns c =
    finds_both _ _ c.requires.0 _ _ _ _ (omega (arith, c.if-a-width.false)) (omega (arith, c.if-b-width-2.false))
    (sym c.starts_before.ensures ∙ c.if-starts_before.false) (sym c.starts_before-2.ensures ∙ c.if-starts_before-2.false)
