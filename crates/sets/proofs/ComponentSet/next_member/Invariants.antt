-- `next_member` meets its contract. The loop's invariant: there is no member from start up to `at`, which is in word i. Assumes nothing.
use Rattle.std.proofs.Common.{◌≡◌, ◌≤◌, ◌/◌}
use Rattle.sets.specs.Members.{NoneIn}
use Rattle.sets.proofs.ComponentSet.next_member.Given as goal

abbrev pub invariant-loop-i : goal.invariant-loop-i
invariant-loop-i l = (l.start ≤ l.at) × NoneIn l.fn.self.words l.start l.at × (l.at / 64 ≡ l.i)
