-- `report::fill::fill_connections` meets its contract.
-- Assumes nothing.
use mathlib.Core.Path.{refl, ◌∙◌}
use mathlib.Core.List.{[]}
use native.Mathlib.Nat.{zero-add}
use native.Mathlib.Omega.{arith}
use Rattle.assessment.proofs.Devices.{below_none, below_more}
use Rattle.report.proofs.CutRows.{first_rows, six, rows_step, number_in, first_in, row_few, row_joined, rows_all}
use Rattle.report.proofs.fill.fill_connections.Goals as goal

pub loop-k-init : goal.loop-k-init
loop-k-init c ns cut = below_none (first_rows ns) (λ p. []) 6 6 _ _ refl

pub natural_at-requires : goal.natural_at-requires
natural_at-requires c = first_in c.requires.cut.1 c.loop-k.k c.loop-k-test.true

pub natural_at-requires-in-loop-k : goal.natural_at-requires-in-loop-k
natural_at-requires-in-loop-k c = number_in c.requires.cut.1 c.loop-k.k c.loop-k-test.true 1 (omega arith)

pub natural_at-requires-in-loop-k-2 : goal.natural_at-requires-in-loop-k-2
natural_at-requires-in-loop-k-2 c = number_in c.requires.cut.1 c.loop-k.k c.loop-k-test.true 2 (omega arith)

pub natural_at-requires-in-loop-k-3 : goal.natural_at-requires-in-loop-k-3
natural_at-requires-in-loop-k-3 c = number_in c.requires.cut.1 c.loop-k.k c.loop-k-test.true 3 (omega arith)

pub natural_at-requires-in-loop-k-4 : goal.natural_at-requires-in-loop-k-4
natural_at-requires-in-loop-k-4 c = number_in c.requires.cut.1 c.loop-k.k c.loop-k-test.true 4 (omega arith)

pub put_row-at-requires : goal.put_row-at-requires
put_row-at-requires c =
    let (ns, cut) = c.requires.cut in
    let i = c.loop-k.invariant ns cut in
    omega (arith, i.put.place, i.few, c.requires.rows_in_bounds, c.loop-k-test.true, c.loop-k.auto.rows)

pub loop-k-preserved : goal.loop-k-preserved
loop-k-preserved c ns cut =
    let l = c.loop-k in
    below_more (first_rows ns) (six ns) 6 6 _ _ (rows_step ns) c.loop-k-test.true (l.invariant ns cut) (row_few cut l.k c.loop-k-test.true)
    (row_joined cut l.k c.loop-k-test.true
    c.natural_at.ensures
    c.natural_at-in-loop-k.ensures
    c.natural_at-in-loop-k-2.ensures
    c.natural_at-in-loop-k-3.ensures
    c.natural_at-in-loop-k-4.ensures
    c.from.ensures
    c.put_row-at.ensures)
    c.put_row-at.auto.out

pub returns : goal.returns
returns c ns cut =
    let l = c.loop-k in
    let put = rw (rows_all cut l.k c.loop-k-test.false) at (l.invariant ns cut).put in
    put.is ∙ rw zero-add
