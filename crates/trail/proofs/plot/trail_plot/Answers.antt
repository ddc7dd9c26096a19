-- Answers for the goals that the search leaves.
use Rattle.std.specs.Prelude.{Some}
use mathlib.Core.Path.{◌≡◌, sym, ◌∙◌}
use native.Mathlib.Omega.{arith}
use Rattle.inputs.specs.Query.{row_place}
use Rattle.inputs.proofs.Inputs.{row_found}
use Rattle.trail.proofs.Answered.{finding_found}
use Rattle.trail.proofs.plot.trail_plot.Goals as goal
use Rattle.trail.proofs.plot.trail_plot.Goals.{After-row_place}

-- what the search for the row says
looked : (c : After-row_place) → c.row_place.result ≡ row_place c.args.plot.now.rules c.args.plot.now.components.now c.args.id c.args.port
looked c = rw c.component_list.ensures at c.row_place.ensures

pub trail_port-requires : goal.trail_port-requires
trail_port-requires c =
    let found : c.row_place.result ≡ Some c.in_ok-ok_or.field-0 = grind arith in
    let row = row_found c.args.plot.now.rules c.args.plot.now.components.now c.args.id c.args.port (sym (looked (goal.at.trail_port-requires c).After-row_place) ∙ found) in
    (c.requires, (c.in_ok-ok_or.field-0, row.below, row.id_is))

pub returns : goal.returns
returns c =
    let found : c.row_place.result ≡ Some c.in_ok-ok_or.field-0 = grind arith in
    let e = sym (looked (goal.at.returns c).After-row_place) ∙ found in
    let row = row_found c.args.plot.now.rules c.args.plot.now.components.now c.args.id c.args.port e in
    finding_found c.args.plot.now.rules c.args.id e (c.trail_port.ensures c.in_ok-ok_or.field-0 row.below row.id_is)
