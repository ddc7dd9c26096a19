-- `driven::plot::driven_plot` meets its contract: the answer of the port where it has a row, else 8.
-- Assumes nothing.
use Rattle.std.specs.Prelude.{Some}
use mathlib.Core.Path.{◌≡◌, sym, ◌∙◌}
use native.Mathlib.Omega.{arith}
use Rattle.inputs.proofs.Inputs.{row_found}
use Rattle.driven.proofs.Asking.{asked_found}
use Rattle.driven.proofs.plot.driven_plot.Goals as goal

pub returns : goal.returns
returns c =
    let cs = c.args.plot.now.components.now in
    let asked = rw c.component_list.ensures at c.row_place.ensures in
    let found : c.row_place.result ≡ Some c.in_ok-ok_or.field-0 = grind arith in
    let e = sym asked ∙ found in
    asked_found c.args.plot.now.rules c.args.id e (c.driven_port.ensures c.in_ok-ok_or.field-0 (row_found c.args.plot.now.rules cs c.args.id c.args.port e).id_is)
