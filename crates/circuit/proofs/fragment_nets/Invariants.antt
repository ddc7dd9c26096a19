-- `circuit::fragment_nets` meets its contract: the set has the nets that the fragment shares with the components passed.
-- Assumes nothing.
use mathlib.Core.Path.{◌≡◌}
use mathlib.Core.Bool.{◌&&◌}
use Prim.Native.Nat.{ℕ, ◌<◌}
use lib.Dec.{eqb}
use lib.ListN.{get_or}
use Rattle.sets.specs.Members.{member_of}
use Rattle.lists.specs.Limits.{component_limit}
use Rattle.lists.specs.First.{first_from, is_found}
use Rattle.circuit.proofs.fragment_nets.Given as goal

abbrev pub invariant-loop-v : goal.invariant-loop-v
invariant-loop-v l =
    (net : ℕ) → net < component_limit → member_of l.found.words net ≡ is_found (first_from (λ j. eqb (get_or l.fragments j 0) l.fragment && eqb (get_or l.nets j 0) net) 0 l.v)
