-- Where the checks accept, the tables are those of the plot, and the slices for its work are long enough.
use Rattle.std.proofs.Common.{◌≡◌, ◌∙◌}
use Rattle.std.specs.Prelude.{Ok}
use mathlib.Core.Path.{refl, sym}
use Rattle.checks.proofs.Accepted.{LivenessScene, liveness_accept}
use Rattle.liveness.proofs.Answers.{scene_of_lem}
use Rattle.liveness.proofs.accept.Tables.plot.Goals as goal
use Rattle.liveness.proofs.accept.Tables.plot.Goals.{After-liveness_lists}

module _ (c : After-liveness_lists) (was : c.liveness_lists.result ≡ Ok tt) where
  live : LivenessScene c.args.rules c.args.components.now c.args.ports.now c.args.frontiers.now c.args.enough
  live = liveness_accept _ _ _ _ _ (sym c.liveness_lists.ensures.lists.answer ∙ was)

pub invariant_of-result : goal.invariant_of-result
invariant_of-result c =
    let left = c.liveness_lists.ensures in
    let was = c.in_ok-liveness_lists.was in
    let scene = scene_of_lem (live (goal.at.invariant_of-result c).After-liveness_lists was) in
    record { accepted = record { scene = scene; table = left.lists.table was; ends = left.ends was } }

pub returns : goal.returns
returns c =
    let was = c.in_ok-liveness_lists.was in
    let answer = sym was ∙ c.liveness_lists.ensures.lists.answer in
    let enough = (live (goal.at.returns c).After-liveness_lists was).scene.lengths.room in
    record { answer = answer; given = record { rules_are = refl; components_are = refl; ports_are = refl; frontiers_are = refl; room = enough } }
