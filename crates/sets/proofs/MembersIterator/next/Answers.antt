-- Answers for the goals that the search leaves: a member that is given is below the limit.
use Rattle.std.proofs.Common.{rules, arith, ◌≡◌, ◌+◌, ◌-◌, ◌<◌, length}
use Rattle.sets.specs.Members.{member_limit, word_count}
use Rattle.sets.proofs.Words.{first_bound}
use Rattle.sets.proofs.MembersIterator.next.Goals as goal

pub overflow_add-self : goal.overflow_add-self
overflow_add-self c =
    let ws = c.args.self.now.set.words in
    let len : length ws ≡ word_count = search rules in
    omega (arith, first_bound ws c.args.self.now.start c.in_ok-m.m c.in_ok-m.ensures, len)

pub returns-clause-goes : goal.returns-clause-goes
returns-clause-goes c =
    let ws = c.args.self.now.set.words in
    let start = c.args.self.now.start in
    let m = c.in_ok-m.m in
    let found = c.in_ok-m.ensures in
    let len : length ws ≡ word_count = search rules in
    let below : m < member_limit = omega (arith, first_bound ws start m found, len) in
    let less : member_limit - (m + 1) < member_limit - start = omega (arith, below, found.0) in
    search rules
