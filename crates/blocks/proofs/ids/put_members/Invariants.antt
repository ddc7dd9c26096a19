-- `blocks::ids::put_members` meets its contract: the ids of the members before the next one of the walk are written.
-- Assumes nothing.
use mathlib.Core.Path.{◌≡◌}
use Rattle.blocks.proofs.IdText.{Listing}
use Rattle.blocks.proofs.ids.put_members.Given as goal

abbrev pub invariant-loop-m : goal.invariant-loop-m
invariant-loop-m l =
    (l.m-iterator.set.words ≡ l.fn.set.words) × Listing l.keys l.fn.set.words l.fn.at l.fn.out l.out l.p l.blank l.m-iterator.start
