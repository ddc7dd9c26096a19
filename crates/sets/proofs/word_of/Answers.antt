-- Answers for the goals that the search leaves.
use Rattle.std.proofs.Common.{rules, arith, ◌≡◌, ℕ, suc, ◌+◌, ◌-◌, ◌*◌, ◌^◌, ◌<◌, false, get_or, subst}
use native.Mathlib.Nat.{sub_self}
use Rattle.sets.specs.Members.{WordOf}
use Rattle.sets.proofs.Flagged.{word_none, word_more, word_small}
use Rattle.sets.proofs.word_of.Goals as goal

pub loop-at-init : goal.loop-at-init
loop-at-init c =
    let end = c.args.end in
    let one : 0 < 2 ^ (end - end) = rw (sub_self end) (omega arith) in (search rules, omega arith, one, word_none _ end)

pub loop-at-preserved : goal.loop-at-preserved
loop-at-preserved c =
    let l = c.loop-at in
    let args = c.args in
    let end = args.end in
    let bit = c.from.result in
    let longer : suc (end - l.at) ≡ end - (l.at - 1) = omega arith in
    let small : 2 * l.word + bit < 2 ^ suc (end - l.at) = omega (arith, word_small l.word (end - l.at) (get_or args.flags.now (l.at - 1) false) l.invariant.2, c.from.ensures) in
    let next : l.at ≡ l.at - 1 + 1 = omega arith in (
      omega arith,
      omega arith,
      subst (λ (x : ℕ). 2 * l.word + bit < 2 ^ x) longer small,
      word_more args.flags.now (l.at - 1) end l.word (omega arith)
          (subst (λ (x : ℕ). WordOf args.flags.now x end l.word) next l.invariant.3) bit c.from.ensures,
    )
