-- The front of an array that is lent for the nodes or the edges of an accepted plot is as long as they are many.
--     nodes_are, nodes_few, edges_few      as many keys as components; how many nodes and edges there are at most
--     edges_lent, nodes_lent, flags_lent   the front of an array of zeros, or of flags, for the edges or the nodes
-- Assumes nothing.
use mathlib.Core.Path.{◌≡◌}
use mathlib.Core.Bool.{false}
use mathlib.Core.List.{List}
use Prim.Native.Nat.{ℕ, ◌≤◌}
use native.Mathlib.Omega.{arith}
use lib.ListN.{length, take, replicate}
use lib.Seq.{length-take-le}
use lib.IntN.{ℤ}
use Rattle.lists.specs.Limits.{component_limit, connection_limit}
use Rattle.lists.specs.Records.{component_count, port_count}
use Rattle.lists.proofs.Table.{table_long}
use Rattle.liveness.specs.Scene.{Accepted}

module _ {cs ps : List ℤ} {keys sources sinks : List ℕ} (a : Accepted cs ps keys sources sinks) where
  pub nodes_are : length keys ≡ component_count cs
  nodes_are = table_long a.table

  pub nodes_few : length keys ≤ component_limit
  nodes_few = omega (arith, nodes_are, a.scene.components.few)

  pub edges_few : port_count ps ≤ connection_limit
  edges_few = a.scene.connections.few

  pub edges_lent : length {A = ℕ} (take (port_count ps) (replicate connection_limit 0)) ≡ port_count ps
  edges_lent = length-take-le _ _ edges_few

  pub nodes_lent : length {A = ℕ} (take (length keys) (replicate component_limit 0)) ≡ length keys
  nodes_lent = length-take-le _ _ nodes_few

  pub flags_lent : length (take (length keys) (replicate component_limit false)) ≡ length keys
  flags_lent = length-take-le _ _ nodes_few
