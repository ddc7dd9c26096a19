-- Answers for the goals that the search leaves.
use Rattle.std.proofs.Common.{rules, arith, ◌≡◌, ℕ, ◌+◌, ◌*◌, length, get_or, Fits, w64, sym, ap, ◌∙◌}
use lib.Count.{ones, ones-le}
use Rattle.sets.specs.Members.{member_of, count_below, size_of, word_count}
use Rattle.sets.proofs.Counts.{count_le}
use Rattle.sets.proofs.Words.{count_word}
use Rattle.sets.proofs.ComponentSet.size.Goals as goal

pub loop-word-init : goal.loop-word-init
unfolding count_below
loop-word-init c = search rules

pub overflow_add-n : goal.overflow_add-n
overflow_add-n c =
    let ws = c.args.self.words in
    let i = c.loop-word.word-index in
    let word : Fits w64 (get_or ws i 0) = search rules in
    omega (arith, ones-le 64 _ word.fits, count_le (member_of ws) (64 * i))

pub loop-word-preserved : goal.loop-word-preserved
loop-word-preserved c =
    let ws = c.args.self.words in
    let i = c.loop-word.word-index in
    let word : Fits w64 (get_or ws i 0) = search rules in
    sym (count_word ws i word.fits ∙ ap (λ (x : ℕ). x + ones (get_or ws i 0)) (sym c.loop-word.invariant))

pub returns : goal.returns
unfolding size_of
returns c =
    let ws = c.args.self.words in
    let len : length ws ≡ word_count = search rules in
    let all : 64 * c.loop-word.word-index ≡ 64 * length ws = omega arith in
    c.loop-word.invariant ∙ ap (count_below (member_of ws)) all
