-- Answers for the goals that the search leaves.
use Prim.Native.Nat.{ℕ, ◌-◌}
use mathlib.Core.Path.{◌≡◌, sym, ap, ◌∙◌}
use native.Mathlib.Omega.{arith}
use lib.ListN.{length, get_or}
use Rattle.trail.specs.Port.{feeds_into}
use Rattle.trail.proofs.Checked.{onward_fails, onward_goes, onward_ends}
use Rattle.trail.proofs.check.goes_on.Goals as goal

pub returns-then-not-feeds_next : goal.returns-then-not-feeds_next
returns-then-not-feeds_next c =
    let inv = c.loop-i.invariant in
    sym (inv.2 ∙ onward_fails _ _ c.args.trail.now _ c.loop-i-test.true inv.0 (sym c.feeds_next.ensures ∙ c.if-not-feeds_next.true))

pub loop-i-preserved : goal.loop-i-preserved
loop-i-preserved c =
    let inv = c.loop-i.invariant in (
      omega arith,
      omega (arith, c.loop-i-test.true),
      inv.2 ∙ onward_goes _ _ c.args.trail.now _ c.loop-i-test.true inv.0 (sym c.feeds_next.ensures ∙ c.if-not-feeds_next.false),
    )

pub returns : goal.returns
returns c =
    let inv = c.loop-i.invariant in
    let l = c.args.trail.now in
    let feeds = feeds_into c.args.ports.numbers.now c.args.id c.args.port in
    let all : c.loop-i.i ≡ length l = omega (arith, inv.1, c.loop-i-test.false) in
    c.feeds_into.ensures ∙ sym (inv.2 ∙ onward_ends _ feeds l _ c.loop-i-test.false ∙ ap (λ (j : ℕ). feeds (get_or l (j - 1) 0)) all)
