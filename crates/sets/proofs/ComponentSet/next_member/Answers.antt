-- Answers for the goals that the search leaves.
use Rattle.std.proofs.Common.{rules, arith, ◌≡◌, ◌+◌, ◌*◌, ◌/◌, length, get_or, Fits, w64}
use Rattle.sets.specs.Members.{word_count}
use Rattle.sets.proofs.Words.{none_join, none_word, none_from, found_first}
use Rattle.sets.proofs.ComponentSet.next_member.Goals as goal

pub returns-then-rest-ne0 : goal.returns-then-rest-ne0
returns-then-rest-ne0 c =
    let ws = c.args.self.words in
    let at = c.loop-i.at in
    let inv = c.loop-i.invariant in
    let len : length ws ≡ word_count = search rules in
    let word : Fits w64 (get_or ws (at / 64) 0) = search rules in
    let some = rw (← inv.2) at c.if-rest-ne0.true in
    rw inv.2 at (found_first ws c.args.start at inv.1 inv.0 (omega arith) word.fits some)

pub loop-i-preserved : goal.loop-i-preserved
loop-i-preserved c =
    let ws = c.args.self.words in
    let at = c.loop-i.at in
    let inv = c.loop-i.invariant in
    let none = rw (← inv.2) at c.if-rest-ne0.false in
    (omega arith, rw inv.2 at (none_join ws c.args.start at (64 * (at / 64 + 1)) inv.1 (none_word ws at none)), omega arith)

pub returns : goal.returns
returns c =
    let ws = c.args.self.words in
    let len : length ws ≡ word_count = search rules in
    none_from ws c.args.start c.loop-i.at c.loop-i.invariant.1 (omega arith)
