-- The answer for the goal that the search leaves: one number more, which is stored as it was read. Assumes nothing.
use Rattle.std.proofs.Common.{rules, arith, ◌+◌, ◌<◌, length, take, sym, ◌∙◌, subst}
use mir.Val.{SFits}
use mir.Syntax.{w64}
use mir.Facts.{to_z-of_z}
use lib.ListN.{set}
use Rattle.replay.proofs.Numbers.{Passed, step_at}
use Rattle.replay.proofs.input.read_numbers.Goals as goal

pub loop-number-preserved : goal.loop-number-preserved
loop-number-preserved c =
    let a = c.args in
    let l = c.loop-number in
    let v = c.in_ok-value.value in
    let fits : SFits w64 v = search rules in
    let read = sym c.read_number.ensures ∙ c.in_ok-value.was in
    let inside : l.number-index < length l.out = omega (arith, c.loop-number-test.true, l.auto.out) in
    subst
    (λ z. Passed a.text.now a.at (length a.out.now) (l.number-index + 1) c.in_ok-value.next (take (l.number-index + 1) (set l.out l.number-index z)))
    (sym (to_z-of_z fits))
    (step_at a.text.now a.at (length a.out.now) l.out l.invariant l.auto.out inside v c.in_ok-value.next read)
