-- `signals::stages::place_members` meets its contract: each member up to the present one stands at its component's place.
-- Assumes nothing.
use Rattle.std.specs.Prelude.{None}
use Rattle.std.proofs.Common.{◌≡◌, List, ℕ, ◌<◌, get_or, ℤ}
use Rattle.lists.specs.Records.{component_count}
use Rattle.lists.specs.Ids.{IdTable, member_of, first_repeated}
use Rattle.signals.proofs.stages.place_members.Given as goal

abbrev pub invariant-loop-m : goal.invariant-loop-m
invariant-loop-m l =
    (cs : List ℤ) → IdTable cs l.keys → first_repeated cs ≡ None → (p : ℕ) → p < component_count cs → member_of cs p < l.m → get_or l.members p 0 ≡ member_of cs p
