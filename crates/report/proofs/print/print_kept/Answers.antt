-- `report::print::print_kept` meets its contract: the kept connections are a scene.
-- Assumes nothing.
use mathlib.Core.Path.{sym, subst}
use mathlib.Core.List.{List}
use Prim.Native.Nat.{ℕ}
use lib.IntN.{ℤ}
use Rattle.liveness.specs.Scene.{Scene}
use Rattle.report.specs.Printing.{Accepts, Gathered}
use Rattle.report.proofs.Scenes.{kept_scene}
use Rattle.report.proofs.print.print_kept.Goals as goal

scene_of : {rules : ℕ} {cs ps kept fs : List ℤ} {keys nets fragments slopes : List ℕ}
    → Accepts rules cs ps fs keys → Gathered rules cs ps kept nets fragments slopes → Scene cs kept
scene_of {rules} {cs} {ps} {fs = fs} a g = subst (Scene cs) (sym g.kept_are) (kept_scene rules cs ps fs a.accepted)

pub invariant_of-linked : goal.invariant_of-linked
invariant_of-linked c = record { within = (scene_of c.requires.1.0 c.requires.1.1).connections }

pub settle_ends-requires : goal.settle_ends-requires
settle_ends-requires c =
    let connections = (scene_of c.requires.1.0 c.requires.1.1).connections in
    connections.few

pub invariant_of-plot : goal.invariant_of-plot
invariant_of-plot c =
    let table = c.requires.1.0.table in
    record {
      accepted = record {
        scene = scene_of c.requires.1.0 c.requires.1.1;
        table = table;
        ends = c.settle_ends.ensures c.args.scene.now table;
      };
    }

pub print_plot-requires : goal.print_plot-requires
print_plot-requires c = (c.requires.0, c.requires.1.1)

pub returns : goal.returns
returns c ps accepts gathered = c.print_plot.ensures ps gathered
