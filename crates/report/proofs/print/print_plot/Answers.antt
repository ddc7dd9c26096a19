-- `report::print::print_plot` meets its contract: the analysis leaves its rows at the fronts of the local arrays, and the tables that ports
-- are asked by in slices of their length.
-- Assumes nothing.
use Rattle.std.specs.Prelude.{Ok}
use Rattle.std.proofs.lemmas.Grind.{merely}
use mathlib.Core.Path.{◌≡◌, sym, ◌∙◌}
use mathlib.Core.List.{List}
use Prim.Native.Nat.{ℕ, ◌*◌, ◌≤◌}
use native.Mathlib.Omega.{arith}
use lib.IntN.{ℤ}
use lib.ListN.{length, take, replicate, length-replicate}
use lib.Seq.{length-take-le}
use Rattle.lists.specs.Limits.{component_limit, connection_limit}
use Rattle.lists.proofs.Table.{table_long}
use Rattle.assessment.specs.Verdicts.{source_rows, input_rows}
use Rattle.assessment.proofs.UpRows.{rows_empty}
use Rattle.liveness.specs.Scene.{Accepted}
use Rattle.liveness.specs.Entry.{AnalyzedBy}
use Rattle.liveness.specs.declared.Analysis.{Analysis}
use Rattle.sheet.proofs.Fronts.{front_long}
use Rattle.report.proofs.Scenes.{analyzed}
use Rattle.report.proofs.print.print_plot.Goals as goal

few : {cs ps : List ℤ} {keys sources sinks : List ℕ} → Accepted cs ps keys sources sinks → length keys ≤ component_limit
few a = omega (arith, table_long a.table, a.scene.components.few)

-- the fronts that are lent
lent : (n limit : ℕ) → n ≤ limit → length {A = ℕ} (take n (replicate limit 0)) ≡ n
lent n limit h = length-take-le n (replicate limit 0) (omega (arith, h, length-replicate {A = ℕ} limit 0))

pub slice_bounds-all_labels-end : goal.slice_bounds-all_labels-end
slice_bounds-all_labels-end c = few c.args.plot.now.accepted

pub slice_bounds-labels-end : goal.slice_bounds-labels-end
slice_bounds-labels-end c = sym (lent (length c.args.plot.now.keys.now) component_limit (few c.args.plot.now.accepted))

pub slice_bounds-all_members-end : goal.slice_bounds-all_members-end
slice_bounds-all_members-end c = few c.args.plot.now.accepted

pub slice_bounds-members-end : goal.slice_bounds-members-end
slice_bounds-members-end c = sym (lent (length c.args.plot.now.keys.now) component_limit (few c.args.plot.now.accepted))

pub analyze_once-found-requires : goal.analyze_once-found-requires
analyze_once-found-requires c =
    let a = c.args.plot.now.accepted in
    let n = length c.args.plot.now.keys.now in
    let nodes = lent n component_limit (few a) ∙ table_long a.table in
    let small = a.scene.components.few in
    record {
      rows_room = (omega (arith, small), (omega (arith, small), omega (arith, small)));
      tables_len = (lent c.count-m.result connection_limit c.count-m.ensures.1 ∙ (rw c.port_list.ensures at c.count-m.ensures.0), (nodes, nodes));
      upstream = rows_empty component_limit c.empty-upstream.result c.empty-upstream.ensures;
    }

pub invariant_of-asked : goal.invariant_of-asked
invariant_of-asked c =
    let p = c.args.plot.now in
    record {
      table = p.accepted.table;
      ready = merely (p.ports.now, p.frontiers.now, c.analyze_once-found.ensures.ready);
    }

module _ {rules : ℕ} {cs ps fs : List ℤ} {regions regions' sources sources' inputs inputs' stack stack' : List ℕ} {r : Analysis}
    (a : AnalyzedBy (Ok tt) rules cs ps fs regions regions' sources sources' inputs inputs' stack stack' (Ok r)) where
  sources_inside : r.sources * 2 ≤ length sources'
  sources_inside = omega (arith, a.analysis.source_count, front_long (source_rows rules cs ps fs) sources a.sources_left)

  inputs_inside : r.inputs * 3 ≤ length inputs'
  inputs_inside = omega (arith, a.analysis.input_count, front_long (input_rows rules cs ps fs) inputs a.inputs_left)

pub overflow_mul-sources : goal.overflow_mul-sources
overflow_mul-sources c = omega (arith, sources_inside c.analyze_once-found.ensures.analyzed.2, c.analyze_once-found.auto.sources)

pub slice_bounds-sources-end : goal.slice_bounds-sources-end
slice_bounds-sources-end c = sources_inside c.analyze_once-found.ensures.analyzed.2

pub slice_bounds-rows-end-2 : goal.slice_bounds-rows-end-2
slice_bounds-rows-end-2 c = sym (length-take-le _ c.analyze_once-found.new.sources (sources_inside c.analyze_once-found.ensures.analyzed.2))

pub overflow_mul-inputs : goal.overflow_mul-inputs
overflow_mul-inputs c = omega (arith, inputs_inside c.analyze_once-found.ensures.analyzed.2, c.analyze_once-found.auto.inputs)

pub slice_bounds-inputs-end : goal.slice_bounds-inputs-end
slice_bounds-inputs-end c = inputs_inside c.analyze_once-found.ensures.analyzed.2

pub slice_bounds-rows-end-3 : goal.slice_bounds-rows-end-3
slice_bounds-rows-end-3 c = sym (length-take-le _ c.analyze_once-found.new.inputs (inputs_inside c.analyze_once-found.ensures.analyzed.2))

pub print_analysis-requires : goal.print_analysis-requires
print_analysis-requires c =
    let e = c.analyze_once-found.ensures in
    record {
      members = e.members;
      gathered = c.requires;
      analyzed = (c.args.plot.now.frontiers.now, (e.ready, analyzed e.analyzed.2));
    }

pub returns : goal.returns
returns c ps groups =
    let e = c.analyze_once-found.ensures in
    c.print_analysis.ensures ps c.args.plot.now.frontiers.now groups e.ready (analyzed e.analyzed.2)
