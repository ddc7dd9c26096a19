-- `inputs::query::query_plot` meets its contract: the port's sets where it has a row, else 8.
-- Assumes nothing.
use Rattle.std.specs.Prelude.{Some}
use mathlib.Core.Path.{◌≡◌, sym, ◌∙◌}
use native.Mathlib.Omega.{arith}
use Rattle.inputs.proofs.Inputs.{row_found}
use Rattle.inputs.proofs.query.query_plot.Goals as goal

pub input_sources-requires : goal.input_sources-requires
input_sources-requires c =
    let cs = c.args.plot.now.components.now in
    let asked = rw c.component_list.ensures at c.row_place.ensures in
    let found : c.row_place.result ≡ Some c.in_ok-p.p = grind arith in
    let f = row_found c.args.plot.now.rules cs c.args.id c.args.port (sym asked ∙ found) in record {
      p_bound = (f.below, f.port_small);
      stack_room = c.requires;
    }
