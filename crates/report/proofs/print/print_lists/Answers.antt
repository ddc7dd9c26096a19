-- `report::print::print_lists` meets its contract: the checks decide, and leave the table of ids for the scene.
-- Assumes nothing.
use Rattle.std.specs.Prelude.{Ok}
use mathlib.Core.Path.{◌≡◌, sym, ◌∙◌}
use mathlib.Core.Bool.{true}
use mathlib.Core.List.{List}
use Prim.Native.Nat.{ℕ, ◌≤◌}
use native.Mathlib.Omega.{arith}
use lib.IntN.{ℤ}
use lib.ListN.{length}
use lib.Seq.{length-take-le}
use Rattle.lists.specs.Limits.{component_limit}
use Rattle.lists.specs.Records.{component_count}
use Rattle.checks.specs.Refusals.{sheet_refusal}
use Rattle.checks.proofs.Accepted.{GroupingScene, grouping_accept}
use Rattle.report.proofs.print.print_lists.Goals as goal

few : (rules : ℕ) (cs ps fs : List ℤ) (keys : List ℕ) → sheet_refusal rules cs ps fs ≡ Ok tt → length keys ≡ component_limit
    → component_count cs ≤ length keys
few rules cs ps fs keys accepted long =
    let scene : GroupingScene rules cs ps fs true = grouping_accept rules cs ps fs true accepted in
    omega (arith, scene.components.few, long)

pub slice_bounds-keys-end : goal.slice_bounds-keys-end
slice_bounds-keys-end c =
    let a = c.args in
    let checks = c.grouping_lists in
    few a.rules a.components.now a.connections.now a.frontiers.now checks.new.keys (sym checks.ensures.answer ∙ c.in_ok-grouping_lists.was) checks.auto.keys

pub slice_bounds-print_scene-end : goal.slice_bounds-print_scene-end
slice_bounds-print_scene-end c =
    let a = c.args in
    let checks = c.grouping_lists in
    let accepted = sym checks.ensures.answer ∙ c.in_ok-grouping_lists.was in
    sym (length-take-le _ checks.new.keys
    (few a.rules a.components.now a.connections.now a.frontiers.now checks.new.keys accepted checks.auto.keys))
