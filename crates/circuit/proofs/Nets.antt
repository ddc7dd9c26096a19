-- What holds of the nets and fragments of a scene (specs/Topology.antt), for kinds 0 to any `top`: nets are `top` 4, fragments 8.
--     numbers_joined       two components have one number exactly if a chain of counted connections, taken either way, joins them
--     numbers_below        a component's number is below the number of groups
--     numbers_onto         each number below it is some component's: no gap, and no group without a member
--     net_in_fragment      components of one net are of one fragment
-- Assumes nothing.
use mathlib.Core.Path.{◌≡◌, sym, ◌∙◌}
use mathlib.Core.List.{List}
use mathlib.Core.Logic.{◌↔◌}
use Prim.Native.Nat.{ℕ, ◌≤◌, ◌<◌}
use native.Mathlib.Omega.{arith}
use lib.ListN.{get_or}
use lib.IntN.{ℤ}
use Rattle.lists.specs.Limits.{component_limit}
use Rattle.lists.specs.Records.{component_count, connection_count}
use Rattle.circuit.specs.Connected.{Joined, PairsBelow}
use Rattle.circuit.specs.Groups.{groups_of, roots_below}
use Rattle.circuit.specs.Topology.{joins_of, forest_of, net_kinds, fragment_kinds, nets_of, fragments_of}
use Rattle.circuit.proofs.Numbering.{group_joined, group_below, group_onto, all_well_formed, joined_more, Stays, roots_stay}
use Rattle.circuit.proofs.Roots.{groups_at}
use Rattle.circuit.proofs.Settling.{joins_below, joins_more}

-- ---- a scene's groups

module _ (cs ps : List ℤ) (few : component_count cs ≤ component_limit) (top : ℕ) where
  pairs : PairsBelow component_limit (joins_of cs ps top)
  pairs v w m = let h = joins_below cs ps top (connection_count ps) v w m in (omega (arith, h), omega (arith, h))

  pub numbers_joined : (v w : ℕ) → v < component_count cs → w < component_count cs
      → (get_or (groups_of (forest_of cs ps top) (component_count cs)) v 0 ≡ get_or (groups_of (forest_of cs ps top) (component_count cs)) w 0) ↔ Joined (joins_of cs ps top) v w
  numbers_joined v w hv hw =
      let same = group_joined (joins_of cs ps top) pairs v w (omega arith) (omega arith) in
      let at-v = groups_at (forest_of cs ps top) (component_count cs) v hv in
      let at-w = groups_at (forest_of cs ps top) (component_count cs) w hw in
      (λ e. same.0 (sym at-v ∙ e ∙ at-w), λ j. at-v ∙ same.1 j ∙ sym at-w)

  stays : Stays (forest_of cs ps top) (component_count cs)
  stays = roots_stay (component_count cs) few (joins_of cs ps top) (joins_below cs ps top (connection_count ps))

  pub numbers_below : (v : ℕ) → v < component_count cs → get_or (groups_of (forest_of cs ps top) (component_count cs)) v 0 < roots_below (forest_of cs ps top) (component_count cs)
  numbers_below v h =
      rw (groups_at (forest_of cs ps top) (component_count cs) v h)
      (group_below (forest_of cs ps top) (all_well_formed (joins_of cs ps top) pairs) (component_count cs) v (omega arith) (stays.inside v h))

  pub numbers_onto : (g : ℕ) → g < roots_below (forest_of cs ps top) (component_count cs)
      → (v : ℕ) × (v < component_count cs) × (get_or (groups_of (forest_of cs ps top) (component_count cs)) v 0 ≡ g)
  numbers_onto g h =
      let o = group_onto (forest_of cs ps top) (component_count cs) g h in
      (o.0, o.1, groups_at (forest_of cs ps top) (component_count cs) o.0 o.1 ∙ o.3)

-- ---- nets lie in fragments

pub net_in_fragment : (cs ps : List ℤ) → component_count cs ≤ component_limit → (v w : ℕ) → v < component_count cs → w < component_count cs
    → get_or (nets_of cs ps) v 0 ≡ get_or (nets_of cs ps) w 0 → get_or (fragments_of cs ps) v 0 ≡ get_or (fragments_of cs ps) w 0
net_in_fragment cs ps few v w hv hw e =
    (numbers_joined cs ps few fragment_kinds v w hv hw).1
    (joined_more (joins_of cs ps net_kinds) (joins_of cs ps fragment_kinds) (joins_more cs ps net_kinds fragment_kinds (omega arith) (connection_count ps)) ((numbers_joined cs ps few net_kinds v w hv hw).0 e))
