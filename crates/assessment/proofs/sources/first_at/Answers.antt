-- `assessment::sources::first_at` meets its contract: the components part at the position, and the first of the later ones is at it or none is.
-- Assumes nothing.
use mathlib.Core.Path.{sym, ◌∙◌}
use Rattle.assessment.proofs.Positions.{found_first, found_past, found_none}
use Rattle.assessment.proofs.sources.first_at.Goals as goal

pub returns-then-same_position : goal.returns-then-same_position
returns-then-same_position c =
    sym (found_first _ c.requires _ c.position_bound-p.ensures c.if-components-p.false (sym c.same_position.ensures ∙ c.if-same_position.true))

pub returns : goal.returns
returns c =
    sym (found_none _ c.requires _ c.position_bound-p.ensures (sym c.same_position.ensures ∙ c.if-same_position.false))

pub returns-then-components-p : goal.returns-then-components-p
returns-then-components-p c = sym (found_past _ c.requires _ c.position_bound-p.ensures c.if-components-p.true)
