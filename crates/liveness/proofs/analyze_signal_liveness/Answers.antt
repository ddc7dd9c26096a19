-- `liveness::analyze_signal_liveness` meets its contract: the checks first, and where they accept the analysis of the plot that they left;
-- its regions are those of demand 3.
-- Assumes nothing.
use mathlib.Core.Path.{sym, ap, ◌∙◌}
use mir.Facts.{to_z-of_z}
use Rattle.lists.specs.Rules.{rules_of}
use Rattle.checks.specs.Refusals.{liveness_lists}
use Rattle.checks.proofs.Accepted.{liveness_accept}
use Rattle.liveness.proofs.Answers.{scene_of_lem, analyzed_accepted}
use Rattle.liveness.proofs.analyze_signal_liveness.Goals as goal

pub returns : goal.returns
returns c =
    let a = c.args in
    let given = c.in_ok-plot.ensures.given in
    let lists = liveness_lists c.rules_of-rules.result a.components.now a.ports.now a.frontiers.now in
    let accepted = ap lists (sym c.room_for_rows-enough.ensures) ∙ sym c.in_ok-plot.ensures.answer in
    let known = c.rules_of-rules.ensures ∙ ap rules_of (to_z-of_z c.ranges.rules) in
    let analyzed = rw (given.rules_are, given.components_are, given.ports_are, given.frontiers_are) at c.analyze.ensures in
    let left = analyzed_accepted accepted (scene_of_lem (liveness_accept _ _ _ _ _ accepted)) analyzed in
    rw known at left
