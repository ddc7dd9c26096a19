-- `probe::find` meets its contract.
-- Assumes nothing.
use mathlib.Core.Path.{sym}
use native.Mathlib.Omega.{arith}
use Rattle.checks.proofs.Accepted.{id_past}
use Rattle.probe.proofs.Table.{Tabled, tabled, is_place}
use Rattle.probe.proofs.find.Goals as goal
use Rattle.probe.proofs.find.Goals.{In_ok-count}

table : (c : In_ok-count) → Tabled c.args.components.now c.accepted_ids.new.keys c.in_ok-count.count
table c = tabled c.accepted_ids.ensures.count c.accepted_ids.ensures.table c.accepted_ids.array_long c.in_ok-count.was

pub returns-then-id-ge-IDS : goal.returns-then-id-ge-IDS
returns-then-id-ge-IDS c =
    let t = table (goal.at.returns-then-id-ge-IDS c).In_ok-count in
    record { value = rw t.accepted (sym (id_past _ t.scene.components _ (omega (arith, c.if-id-ge-IDS.true)))); place = tt }

pub slice_bounds-keys-end : goal.slice_bounds-keys-end
slice_bounds-keys-end c = (table (goal.at.slice_bounds-keys-end c).In_ok-count).few

pub slice_bounds-place_of-end : goal.slice_bounds-place_of-end
slice_bounds-place_of-end c = sym (table (goal.at.slice_bounds-place_of-end c).In_ok-count).long

pub returns : goal.returns
returns c =
    let t = table (goal.at.returns c).In_ok-count in
    let e = c.place_of.ensures c.args.components.now t.table in
    record { value = rw t.accepted e; place = is_place c.args.components.now c.args.id t.scene.components.few _ e }
