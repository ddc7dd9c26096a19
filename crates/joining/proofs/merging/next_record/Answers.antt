-- The record stands in the list that the cursor names.
use mathlib.Core.Path.{sym, ◌∙◌}
use native.Mathlib.Omega.{arith}
use Rattle.lists.proofs.Search.{record_within}
use Rattle.joining.proofs.Steps.{first_within, second_within, both_within, lent_first, lent_second, lent_both, done_neither}
use Rattle.joining.proofs.merging.next_record.Goals as goal

pub slice_bounds-result-end : goal.slice_bounds-result-end
slice_bounds-result-end c =
    omega (arith, record_within _ _ _ (first_within _ _ _ _ _ _ (sym c.in-First.is ∙ c.next_side.ensures)))

pub slice_bounds-result-end-in-Second : goal.slice_bounds-result-end-in-Second
slice_bounds-result-end-in-Second c =
    omega (arith, record_within _ _ _ (second_within _ _ _ _ _ _ (sym c.in-Second.is ∙ c.next_side.ensures)))

pub slice_bounds-result-end-in-Both : goal.slice_bounds-result-end-in-Both
slice_bounds-result-end-in-Both c =
    omega (arith, record_within _ _ _ (both_within _ _ _ _ _ _ (sym c.in-Both.is ∙ c.next_side.ensures)).0)

pub returns-in-First : goal.returns-in-First
returns-in-First c = lent_first _ _ _ _ _ _ c.requires.passed.0 c.requires.passed.1 (sym c.in-First.is ∙ c.next_side.ensures)

pub returns-in-Second : goal.returns-in-Second
returns-in-Second c = lent_second _ _ _ _ _ _ c.requires.passed.0 c.requires.passed.1 (sym c.in-Second.is ∙ c.next_side.ensures)

pub returns-in-Both : goal.returns-in-Both
returns-in-Both c = lent_both _ _ _ _ _ _ c.requires.passed.0 c.requires.passed.1 (sym c.in-Both.is ∙ c.next_side.ensures)

pub returns-in-Neither : goal.returns-in-Neither
returns-in-Neither c = done_neither _ _ _ _ _ _ (sym c.in-Neither.is ∙ c.next_side.ensures)
