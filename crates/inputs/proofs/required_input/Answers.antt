-- `inputs::required_input` meets its contract: the checks first, and where they accept the query, of the plot that they left.
-- Assumes nothing.
use Rattle.std.specs.Prelude.{Ok}
use mathlib.Core.Path.{◌≡◌, sym, ap, ◌∙◌}
use lib.ListN.{length}
use mir.Facts.{to_z-of_z}
use Rattle.lists.specs.Rules.{rules_of}
use Rattle.checks.specs.Refusals.{query_refusal}
use Rattle.inputs.proofs.Upstream.{answered}
use Rattle.inputs.proofs.required_input.Goals as goal

pub returns : goal.returns
returns c =
    let a = c.args in
    let given = c.in_ok-plot.ensures.given in
    let accepted : query_refusal c.rules_of-rules.result a.components.now a.ports.now a.frontiers.now (length a.stack.now) ≡ Ok tt =
    sym (rw c.room_for-enough.ensures at c.in_ok-plot.ensures.answer) in
    let known = c.rules_of-rules.ensures ∙ ap rules_of (to_z-of_z c.ranges.rules) in
    let left = answered a.id accepted (rw (given.rules_are, given.components_are, given.ports_are, given.frontiers_are) at c.query_plot.ensures) in
    rw known at left
