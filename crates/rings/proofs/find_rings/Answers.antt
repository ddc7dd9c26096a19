-- `rings::find_rings` meets its contract: the checks first, and where they accept the rings, of the plot that they left; its
-- regions are those of demand 3.
-- Assumes nothing.
use Rattle.std.specs.Prelude.{Ok}
use mathlib.Core.Path.{◌≡◌, sym, ap, ◌∙◌}
use lib.ListN.{length}
use mir.Facts.{to_z-of_z}
use Rattle.lists.specs.Rules.{rules_of}
use Rattle.checks.proofs.Accepted.{liveness_accept}
use Rattle.liveness.proofs.Answers.{scene_of_lem}
use Rattle.rings.specs.Entry.{rings_refusal}
use Rattle.rings.proofs.Scenes.{rings_accepted}
use Rattle.rings.proofs.find_rings.Goals as goal

pub returns : goal.returns
returns c =
    let a = c.args in
    let given = c.in_ok-plot.ensures.given in
    let accepted : rings_refusal c.rules_of-rules.result a.components.now a.ports.now a.frontiers.now (length a.regions.now) (length a.stack.now) ≡ Ok tt =
    sym (rw (c.room_for.ensures, c.room_for-2.ensures) at c.in_ok-plot.ensures.answer) in
    let known = c.rules_of-rules.ensures ∙ ap rules_of (to_z-of_z c.ranges.rules) in
    let found = rw (given.components_are, given.ports_are) at c.rings_plot.ensures in
    let left = rings_accepted accepted (scene_of_lem (liveness_accept _ _ _ _ _ accepted)) found in
    rw known at left
