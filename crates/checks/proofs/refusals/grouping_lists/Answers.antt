-- `checks::refusals::grouping_lists` meets its contract.
-- Assumes nothing.
use Rattle.std.specs.Prelude.{Err, Some}
use Rattle.lists.specs.declared.Fault.{Fault}
use Rattle.lists.specs.declared.Section.{Section}
use Rattle.checks.specs.Refusals.{refuse}
use mathlib.Core.Path.{◌≡◌, ap, ◌∙◌}
use Rattle.std.proofs.Common.{rules}
use Rattle.checks.proofs.Chain.{stopped, goes}
use Rattle.checks.proofs.Accepts.{grouping_parts}
use Rattle.checks.proofs.refusals.grouping_lists.Goals as goal

pub returns-in_err-refuse_scene : goal.returns-in_err-refuse_scene
returns-in_err-refuse_scene c =
    let a = c.args in
    let back : c.from_residual.result ≡ Err c.in_err-refuse_scene.field-0.0 = search rules in
    let parts = grouping_parts a.rules a.components.now a.connections.now a.frontiers.now a.enough in
    stopped _ _ (rw c.first_outside-found.ensures at c.in_err-refuse_scene.ensures) back parts

pub returns : goal.returns
returns c =
    let a = c.args in
    let first = rw c.first_outside-found.ensures at c.refuse_scene.ensures.answer in
    let last = c.refuse_at.ensures ∙ ap (refuse Fault.UnsortedConnections (Some Section.Connections)) c.first_connection_not_ascending-unsorted.ensures in
    record {
      answer = goes first c.in_ok-refuse_scene.was last ∙ grouping_parts a.rules a.components.now a.connections.now a.frontiers.now a.enough;
      table = λ e. c.refuse_scene.ensures.table c.in_ok-refuse_scene.was;
      places = λ e. c.refuse_scene.ensures.places c.in_ok-refuse_scene.was;
    }
