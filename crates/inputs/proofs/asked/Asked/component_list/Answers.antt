-- Answers for the goals that the search leaves.
use Rattle.std.proofs.Props.{props}
use Rattle.std.proofs.Math.Logic.{∥∥₁_elim}
use mathlib.Core.List.{List}
use lib.IntN.{ℤ}
use Rattle.inputs.specs.Inputs.{Ready}
use Rattle.inputs.proofs.asked.Asked.component_list.Goals as goal

pub invariant_of-result : goal.invariant_of-result
invariant_of-result c =
    let a = c.args.self in
    ∥∥₁_elim a.ready (hlevel props) (λ (r : (ps fs : List ℤ) × Ready a.rules a.components.now ps fs a.fed.now a.labels.now a.upstream.now).
    record { within = r.2.fed_scene.scene.components })
