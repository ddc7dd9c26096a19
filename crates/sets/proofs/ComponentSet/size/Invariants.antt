-- `size` meets its contract. The loop's invariant: n is the number of members in the words passed.
-- Assumes nothing.
use Rattle.std.proofs.Common.{◌≡◌, ◌*◌}
use Rattle.sets.specs.Members.{member_of, count_below}
use Rattle.sets.proofs.ComponentSet.size.Given as goal

abbrev pub invariant-loop-word : goal.invariant-loop-word
invariant-loop-word l = l.n ≡ count_below (member_of l.fn.self.words) (64 * l.word-index)
