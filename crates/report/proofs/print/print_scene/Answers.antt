-- `report::print::print_scene` meets its contract: the groups and the kept connections stand at the fronts of the local arrays.
-- Assumes nothing.
use Rattle.std.specs.Prelude.{Ok}
use mathlib.Core.Path.{◌≡◌, sym, subst}
use mathlib.Core.List.{List}
use Prim.Native.Nat.{ℕ, ◌*◌, ◌≤◌}
use native.Mathlib.Omega.{arith}
use lib.IntN.{ℤ}
use lib.ListN.{length, take, replicate, length-replicate}
use lib.Seq.{length-take-le}
use Rattle.lists.proofs.Places.{settled_places}
use Rattle.lists.specs.Places.{PlacesOfIds}
use Rattle.lists.specs.Limits.{connection_limit, port_width}
use Rattle.checks.specs.Refusals.{sheet_refusal}
use Rattle.circuit.specs.Topology.{GroupedBy}
use Rattle.circuit.specs.declared.Counts.{Counts}
use Rattle.lists.proofs.Table.{table_long}
use Rattle.scene.specs.Kept.{sloped_rows}
use Rattle.scene.specs.Answer.{AllKept}
use Rattle.scene.proofs.KeptWithin.{kept_few}
use Rattle.report.specs.Printing.{SlopedFront, Cut, Accepts, Gathered}
use Rattle.report.proofs.Scenes.{sheet_scene, sloped_front, kept_cut}
use Rattle.report.proofs.print.print_scene.Goals as goal

pub invariant_of-listed : goal.invariant_of-listed
invariant_of-listed c = record { within = (sheet_scene _ _ _ _ c.requires.accepted).components }

pub invariant_of-connected : goal.invariant_of-connected
invariant_of-connected c = record { within = (sheet_scene _ _ _ _ c.requires.accepted).connections }

-- no id is repeated, and so the table settles each id's list place
settled : {rules : ℕ} {cs ps fs : List ℤ} {keys : List ℕ} → Accepts rules cs ps fs keys → PlacesOfIds cs keys
settled a = settled_places a.table (sheet_scene _ _ _ _ a.accepted).scene.once

pub group-requires : goal.group-requires
group-requires c =
    let scene = sheet_scene _ _ _ _ c.requires.accepted in
    let n = table_long c.requires.table in
    let few = scene.components.few in
    record {
      places = (c.args.scene.now, settled c.requires);
      keys_len_bound = (omega arith, (omega arith, omega arith));
    }

pub keep_all-count-requires : goal.keep_all-count-requires
keep_all-count-requires c =
    let scene = sheet_scene _ _ _ _ c.requires.accepted in
    record {
      id_table = c.requires.table;
      kept_width_in_bounds = omega (arith, scene.connections.few);
    }

-- a place for the slope of each row
abbrev places : ℕ → ℕ
places n = length (take n (replicate {A = ℕ} connection_limit 0))

module _ (rules : ℕ) (cs ps fs : List ℤ) {out out' : List ℤ} {n : ℕ} (accepted : sheet_refusal rules cs ps fs ≡ Ok tt) (k : AllKept rules cs ps out out' n) where
  -- no more are kept than there are connections
  inside : n ≤ connection_limit
  inside = omega (arith, k.count, kept_few rules cs ps, (sheet_scene rules cs ps fs accepted).connections.few)

  places_are : places n ≡ n
  places_are = length-take-le n (replicate connection_limit 0) (omega (arith, inside, length-replicate {A = ℕ} connection_limit 0))

  front : SlopedFront (sloped_rows rules cs ps) (places n) out'
  front = subst (λ (m : ℕ). SlopedFront (sloped_rows rules cs ps) m out') (sym places_are) (sloped_front k)

  -- cut, the front of the slice is the list that the analysis is given
  gathered : (rows : List ℤ) {nets nets' fragments fragments' slopes : List ℕ} {r : Counts}
      → ((ns : List ℕ) → SlopedFront ns (places n) out' → Cut ns (take (places n * port_width) rows) slopes)
      → GroupedBy cs ps nets nets' fragments fragments' r → Gathered rules cs ps (take (n * port_width) rows) nets' fragments' slopes
  gathered rows {nets = nets} {fragments = fragments} {slopes = slopes} cut g =
      let sloped = subst (λ (m : ℕ). Cut (sloped_rows rules cs ps) (take (m * port_width) rows) slopes) places_are (cut (sloped_rows rules cs ps) front) in
      record {
        kept_are = kept_cut rules cs ps sloped;
        sloped = sloped;
        nets_old = nets;
        nets_are = g.nets_laid;
        fragments_old = fragments;
        fragments_are = g.fragments_laid;
      }

pub slice_bounds-all_slopes-end : goal.slice_bounds-all_slopes-end
slice_bounds-all_slopes-end c = inside _ _ _ _ c.requires.accepted c.keep_all-count.ensures

pub slice_bounds-slopes-end : goal.slice_bounds-slopes-end
slice_bounds-slopes-end c = sym (places_are _ _ _ _ c.requires.accepted c.keep_all-count.ensures)

pub cut_slopes-requires-clause-front : goal.cut_slopes-requires-clause-front
cut_slopes-requires-clause-front c =
    (sloped_rows c.args.rules c.args.scene.now c.args.connections.now, front _ _ _ _ c.requires.accepted c.keep_all-count.ensures)

pub cut_slopes-requires-clause-rows_in_bounds : goal.cut_slopes-requires-clause-rows_in_bounds
cut_slopes-requires-clause-rows_in_bounds c =
    let few = inside _ _ _ _ c.requires.accepted c.keep_all-count.ensures in
    subst (λ (m : ℕ). m * 6 ≤ length c.keep_all-count.new.out) (sym (places_are _ _ _ _ c.requires.accepted c.keep_all-count.ensures))
    (omega (arith, few, c.keep_all-count.auto.out))

pub overflow_mul-ports : goal.overflow_mul-ports
overflow_mul-ports c = omega (arith, inside _ _ _ _ c.requires.accepted c.keep_all-count.ensures)

pub slice_bounds-ports-end : goal.slice_bounds-ports-end
slice_bounds-ports-end c =
    omega (arith, inside _ _ _ _ c.requires.accepted c.keep_all-count.ensures, c.cut_slopes.auto.rows, c.keep_all-count.auto.out)

pub slice_bounds-print_kept-end : goal.slice_bounds-print_kept-end
slice_bounds-print_kept-end c =
    let few = inside _ _ _ _ c.requires.accepted c.keep_all-count.ensures in
    sym (length-take-le _ c.cut_slopes.new.rows (omega (arith, few, c.cut_slopes.auto.rows, c.keep_all-count.auto.out)))

pub print_kept-requires : goal.print_kept-requires
print_kept-requires c =
    let g = c.group.ensures c.args.scene.now (settled c.requires) in
    (c.args.connections.now, (c.requires, gathered _ _ _ _ c.requires.accepted c.keep_all-count.ensures c.cut_slopes.new.rows c.cut_slopes.ensures g))

pub returns : goal.returns
returns c =
    let g = c.group.ensures c.args.scene.now (settled c.requires) in
    c.print_kept.ensures c.args.connections.now c.requires (gathered _ _ _ _ c.requires.accepted c.keep_all-count.ensures c.cut_slopes.new.rows c.cut_slopes.ensures g)
