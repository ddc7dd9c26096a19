-- `assessment::sources::same_position` meets its contract: each coordinate is compared.
-- Assumes nothing.
use Rattle.std.proofs.Common.{rules}
use Rattle.std.proofs.lemmas.Int.{to_z-of_z}
use mathlib.Core.Path.{◌∙◌}
use mir.Val.{SFits}
use mir.Syntax.{w64}
use Rattle.lists.specs.Records.{component}
use Rattle.assessment.proofs.Positions.{equal_tuples}
use Rattle.assessment.proofs.sources.same_position.Goals as goal

pub returns : goal.returns
returns c =
    let here = component c.args.components.now c.args.p in
    let there = c.args.there in
    let a : SFits w64 here.x = search rules in
    let b : SFits w64 here.y = search rules in
    let d : SFits w64 here.z = search rules in
    let x : SFits w64 there.0 = search rules in
    let y : SFits w64 there.1 = search rules in
    let z : SFits w64 there.2 = search rules in
    simp to_z-of_z at c.eq.ensures ∙ equal_tuples here.x here.y here.z there.0 there.1 there.2
