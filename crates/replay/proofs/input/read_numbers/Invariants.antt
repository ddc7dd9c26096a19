-- The loop's invariant: the numbers read before stand at the list's front. Assumes nothing.
use Rattle.std.proofs.Common.{length, take}
use Rattle.replay.proofs.Numbers.{Passed}
use Rattle.replay.proofs.input.read_numbers.Given as goal

abbrev pub invariant-loop-number : goal.invariant-loop-number
invariant-loop-number l = Passed l.text l.at (length l.initial.out) l.number-index l.end (take l.number-index l.out)
