-- `sets::word_of` meets its contract. The loop's invariant: the word has the flags from `at` on.
-- Assumes nothing.
use Rattle.std.proofs.Common.{◌-◌, ◌^◌, ◌≤◌, ◌<◌}
use Rattle.sets.specs.Members.{WordOf}
use Rattle.sets.proofs.word_of.Given as goal

abbrev pub invariant-loop-at : goal.invariant-loop-at
invariant-loop-at l = (l.start ≤ l.at) × (l.at ≤ l.end) × (l.word < 2 ^ (l.end - l.at)) × WordOf l.flags l.at l.end l.word
