-- `trail::check_trail` meets its contract: the checks first, and where they accept the check of the trail, of the plot that they left.
-- Assumes nothing.
use mathlib.Core.Path.{ap, ◌∙◌}
use mir.Facts.{to_z-of_z}
use Rattle.lists.specs.Rules.{rules_of}
use Rattle.trail.proofs.check_trail.Goals as goal

pub returns : goal.returns
returns c =
    let given = c.in_ok-plot.ensures.given in
    let known = c.rules_of-rules.ensures ∙ ap rules_of (to_z-of_z c.ranges.rules) in
    let checked = rw (given.rules_are, given.components_are, given.ports_are, given.frontiers_are) at c.check_plot.ensures in
    record { by = rw (← known, ← c.in_ok-plot.ensures.answer) checked }
