-- `report::fill::cut_slopes` meets its contract.
-- Assumes nothing.
use mathlib.Core.Path.{sym, ap, ◌∙◌}
use native.Mathlib.Omega.{arith}
use lib.IntN.{nat_abs}
use Rattle.report.proofs.CutRows.{cut_none, sixth_at, cut_more, cut_all}
use Rattle.report.proofs.fill.cut_slopes.Goals as goal

pub loop-k-init : goal.loop-k-init
loop-k-init c ns front = cut_none front _

pub natural_at-requires : goal.natural_at-requires
natural_at-requires c =
    let (ns, front) = c.requires.front in
    let l = c.loop-k in
    (omega (arith, c.loop-k-test.true, c.requires.rows_in_bounds, l.auto.rows), rw (sixth_at front (l.invariant ns front) c.loop-k-test.true) tt)

pub overflow_cast-slope : goal.overflow_cast-slope
overflow_cast-slope c =
    let (ns, front) = c.requires.front in
    let l = c.loop-k in
    let sixth = c.natural_at.ensures ∙ ap nat_abs (sixth_at front (l.invariant ns front) c.loop-k-test.true) in
    record { fits = omega (arith, sixth, front.small l.k c.loop-k-test.true) }

pub loop-k-preserved : goal.loop-k-preserved
loop-k-preserved c ns front =
    let l = c.loop-k in
    let sixth = c.natural_at.ensures ∙ ap nat_abs (sixth_at front (l.invariant ns front) c.loop-k-test.true) in
    cut_more front (l.invariant ns front) c.loop-k-test.true (omega (arith, c.requires.rows_in_bounds, l.auto.rows))
    (omega (arith, c.loop-k-test.true, l.auto.slopes)) (omega arith) c.copy_within.ensures.after sixth

pub returns : goal.returns
returns c ns front =
    let l = c.loop-k in
    cut_all front (sym l.auto.slopes) (omega (arith, c.loop-k-test.false, l.auto.k-end)) (l.invariant ns front)
