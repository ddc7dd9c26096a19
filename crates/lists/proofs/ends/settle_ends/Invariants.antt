-- `lists::ends::settle_ends` meets its contract: the ends up to the present ones are settled.
-- Assumes nothing.
use mathlib.Core.Path.{◌≡◌}
use mathlib.Core.List.{List}
use Prim.Native.Nat.{ℕ, ◌+◌, ◌*◌, ◌<◌}
use lib.ListN.{length, get_or}
use lib.IntN.{ℤ}
use Rattle.lists.specs.Limits.{port_width}
use Rattle.lists.specs.Records.{natural_at}
use Rattle.lists.specs.Ids.{smaller_ids, IdTable}
use Rattle.lists.proofs.EndLaws.{none}
use Rattle.lists.proofs.ends.settle_ends.Given as goal

abbrev pub invariant-loop-k : goal.invariant-loop-k
invariant-loop-k l =
    (length l.ends ≡ length l.initial.ends)
    × ((cs : List ℤ) → IdTable cs l.keys → (j : ℕ) → j < l.k →
    ((get_or l.ends j none).source ≡ smaller_ids cs (natural_at l.ports.numbers.now (j * port_width)))
    × ((get_or l.ends j none).sink ≡ smaller_ids cs (natural_at l.ports.numbers.now (j * port_width + 2))))
