-- `contains` meets its contract. Assumes nothing.
use Rattle.std.proofs.Common.{rules, arith, ◌≡◌, sym, ◌∙◌, ◌/◌, ◌%◌, length}
use borrow.Author.Tests.{le-ltb}
use Rattle.sets.specs.Members.{word_count, member_limit}
use Rattle.sets.proofs.Words.{member_past, member_test}
use Rattle.sets.proofs.ComponentSet.contains.Goals as goal

pub returns-else-k-lt-MEMBERS : goal.returns-else-k-lt-MEMBERS
returns-else-k-lt-MEMBERS c =
    let ws = c.args.self.words in
    let k = c.args.k in
    let len : length ws ≡ word_count = search rules in
    le-ltb k member_limit (omega arith) ∙ sym (member_past ws k (omega arith))

pub returns-then-k-lt-MEMBERS : goal.returns-then-k-lt-MEMBERS
returns-then-k-lt-MEMBERS c =
    let k = c.args.k in
    member_test c.args.self.words (k / 64) (k % 64) k (omega arith) (omega arith)
