-- `records::copy_records` meets its contract. The loop's invariant: the numbers of the first i records stand at the front of the flat list.
-- Assumes nothing.
use mathlib.Core.Path.{◌≡◌}
use lib.ListN.{take}
use Rattle.lists.specs.Slices.{laid}
use Rattle.records.specs.Records.{flatten}
use Rattle.records.proofs.copy_records.Given as goal

abbrev pub invariant-loop-i : goal.invariant-loop-i
invariant-loop-i l = l.flat ≡ laid (flatten (take l.i l.records)) l.initial.flat
