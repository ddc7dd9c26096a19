-- `report::print::print_analysis` meets its contract: the filled rows are those of the report.
-- Assumes nothing.
use mathlib.Core.Path.{◌≡◌, sym, subst}
use mathlib.Core.List.{List}
use Prim.Native.Nat.{ℕ, ◌*◌, ◌≤◌}
use native.Mathlib.Omega.{arith}
use lib.IntN.{ℤ}
use lib.ListN.{length, take}
use lib.Seq.{length-take-le}
use Rattle.lists.specs.Limits.{component_limit}
use Rattle.lists.specs.Records.{component_count}
use Rattle.lists.specs.Ids.{IdTable}
use Rattle.lists.specs.Slices.{laid}
use Rattle.lists.proofs.Table.{table_long}
use Rattle.scene.specs.Kept.{sloped_rows}
use Rattle.assessment.specs.Rows.{Scanned}
use Rattle.liveness.specs.Scene.{Scene}
use Rattle.liveness.specs.declared.Analysis.{Analysis}
use Rattle.report.specs.Report.{all_rows, unread_ids}
use Rattle.report.specs.Printing.{component_row_by, region_row_by, Analyzed}
use Rattle.sheet.specs.Written.{fits, PrintedBy}
use Rattle.sheet.proofs.Fronts.{front_is}
use Rattle.report.proofs.Scenes.{nets_long, fragments_long, regions_long, regions_few, slopes_few}
use Rattle.report.proofs.Assembled.{component_count_lem, region_pairs, assembled}
use Rattle.report.proofs.print.print_analysis.Goals as goal

-- the rows that are printed are the fronts of the arrays
components_inside : {cs ps : List ℤ} {keys : List ℕ} (rows : List ℕ) → Scene cs ps → IdTable cs keys → length rows ≡ 6 * component_limit → 6 * length keys ≤ length rows
components_inside rows scene table long = omega (arith, table_long table, scene.components.few, long)

regions_fit : {rules : ℕ} {cs kept fs : List ℤ} {regions sources inputs : List ℕ} {r : Analysis}
    → Analyzed rules cs kept fs regions sources inputs r → Scene cs kept → 2 * r.regions ≤ 2 * component_limit
regions_fit a scene = omega (arith, regions_few a scene, scene.components.few)

regions_inside : {rules : ℕ} {cs kept fs : List ℤ} {regions sources inputs : List ℕ} {r : Analysis} (rows : List ℕ)
    → Analyzed rules cs kept fs regions sources inputs r → Scene cs kept → length rows ≡ 2 * component_limit → 2 * r.regions ≤ length rows
regions_inside rows a scene long = omega (arith, regions_fit a scene, long)

pub fill_components-requires-clause-members : goal.fill_components-requires-clause-members
fill_components-requires-clause-members c = rw c.component_list-listed.ensures c.requires.members

pub fill_components-requires-clause-components_in_bounds : goal.fill_components-requires-clause-components_in_bounds
fill_components-requires-clause-components_in_bounds c =
    let g = c.requires.gathered.1 in rw c.component_list-listed.ensures (nets_long g, (fragments_long g, regions_long c.requires.analyzed.1.1))

pub fill_connections-requires : goal.fill_connections-requires
fill_connections-requires c =
    let g = c.requires.gathered in
    record {
      cut = (sloped_rows c.args.asked.now.rules c.args.asked.now.components.now g.0, g.1.sloped);
      rows_in_bounds = omega (arith, slopes_few g.1 c.requires.analyzed.1.0.fed_scene.scene);
    }

pub fill_regions-requires : goal.fill_regions-requires
fill_regions-requires c = regions_fit c.requires.analyzed.1.1 c.requires.analyzed.1.0.fed_scene.scene

pub overflow_mul-components : goal.overflow_mul-components
overflow_mul-components c =
    omega (arith, table_long c.args.asked.now.table, c.requires.analyzed.1.0.fed_scene.scene.components.few)

pub slice_bounds-components-end : goal.slice_bounds-components-end
slice_bounds-components-end c =
    let scene = c.requires.analyzed.1.0.fed_scene.scene in
    components_inside c.fill_components.new.rows scene c.args.asked.now.table c.fill_components.auto.rows

pub slice_bounds-text-end : goal.slice_bounds-text-end
slice_bounds-text-end c =
    let scene = c.requires.analyzed.1.0.fed_scene.scene in
    let rows = c.fill_components.new.rows in
    sym (length-take-le _ rows (components_inside rows scene c.args.asked.now.table c.fill_components.auto.rows))

pub overflow_mul-marks : goal.overflow_mul-marks
overflow_mul-marks c = omega (arith, regions_fit c.requires.analyzed.1.1 c.requires.analyzed.1.0.fed_scene.scene)

pub slice_bounds-marks-end : goal.slice_bounds-marks-end
slice_bounds-marks-end c = regions_inside c.fill_regions.new.rows c.requires.analyzed.1.1 c.requires.analyzed.1.0.fed_scene.scene c.fill_regions.auto.rows

pub slice_bounds-text-end-3 : goal.slice_bounds-text-end-3
slice_bounds-text-end-3 c =
    let rows = c.fill_regions.new.rows in
    sym (length-take-le _ rows (regions_inside rows c.requires.analyzed.1.1 c.requires.analyzed.1.0.fed_scene.scene c.fill_regions.auto.rows))

components_are : (cs : List ℤ) (nets fragments regions drive potential keys old : List ℕ) {rows : List ℕ} → length keys ≡ component_count cs
    → let all = all_rows (component_row_by cs nets fragments regions drive potential) (component_count cs) in
    rows ≡ laid all old → take (6 * length keys) rows ≡ all
components_are cs nets fragments regions drive potential keys old many e =
    front_is (all_rows (component_row_by cs nets fragments regions drive potential) (component_count cs)) old e (6 * length keys)
    (omega (arith, many, component_count_lem cs nets fragments regions drive potential (component_count cs)))

regions_are : (cyclic drive : List ℕ) (n : ℕ) (old : List ℕ) {rows : List ℕ} → rows ≡ laid (all_rows (region_row_by cyclic drive) n) old
    → take (2 * n) rows ≡ all_rows (region_row_by cyclic drive) n
regions_are cyclic drive n old e = front_is (all_rows (region_row_by cyclic drive) n) old e (2 * n) (sym (region_pairs cyclic drive n))

ids_are : (rules : ℕ) (cs : List ℤ) {old rows : List ℕ} {n : ℕ} → Scanned (unread_ids rules cs (component_count cs)) 1 old rows n
    → take n rows ≡ unread_ids rules cs (component_count cs)
ids_are rules cs {old} {rows} {n} s = front_is (unread_ids rules cs (component_count cs)) old s.is n (omega (arith, s.count))

pub returns : goal.returns
returns c ps fs groups ready found =
    let called = c.print_rows in
    let a = c.args in
    let cs = a.asked.now.components.now in
    let rows = sloped_rows a.asked.now.rules cs ps in
    let f = a.found in
    let many = table_long a.asked.now.table in
    let components-are = components_are cs a.groups.now.nets.now a.groups.now.fragments.now a.rows.now.regions.now f.drive.words f.potential.words _ _ many
    (rw c.component_list-listed.ensures at c.fill_components.ensures) in
    let connections-are : take (6 * length a.groups.now.slopes.now) c.fill_connections.new.rows ≡ rows =
    front_is rows _ (c.fill_connections.ensures rows groups.sloped) _ (omega (arith, groups.sloped.long)) in
    let ids-are = ids_are a.asked.now.rules cs (rw c.component_list-listed.ensures at c.fill_unread-blank.ensures) in
    let regions-are = regions_are f.cyclic.words f.has_drive.words f.regions _ c.fill_regions.ensures in
    subst (λ (t : List ℕ). PrintedBy (fits t (length a.out.now)) t a.out.now called.new.out called.result)
    (assembled a.asked.now.rules cs ps fs ready.fed_scene.scene.distinct groups found components-are connections-are regions-are ids-are)
    (called.ensures a.ports.now fs ready)
