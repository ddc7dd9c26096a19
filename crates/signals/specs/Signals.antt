-- Signal edges (document 01, "liveness.rs"): a port connection of transfer 0 to 5 leads from its source to its sink; transfer 6 makes no edge.
-- Nodes are members: member k stands for the component with the k-th smallest id.
-- Assumes nothing: these are definitions.
use Rattle.std.specs.Prelude.{ℕ, Bool, not, ◌&&◌, List, eqb, ℤ}
use Rattle.lists.specs.Records.{port_connection, port_count}
use Rattle.lists.specs.First.{some}
use Rattle.lists.specs.Ids.{support_transfer, smaller_ids}
use Rattle.regions.specs.Graph.{Edges}

-- port connection k carries a signal
abbrev pub is_signal : List ℤ → ℕ → Bool
is_signal ps k = not (eqb (port_connection ps k).transfer support_transfer)

-- the members at its ends
abbrev pub source_member : List ℤ → List ℤ → ℕ → ℕ
source_member cs ps k = smaller_ids cs (port_connection ps k).source

abbrev pub sink_member : List ℤ → List ℤ → ℕ → ℕ
sink_member cs ps k = smaller_ids cs (port_connection ps k).sink

-- some signal connection leads from member a to member b
unfoldable pub signals : List ℤ → List ℤ → Edges
signals cs ps a b = some (λ k. is_signal ps k && (eqb (source_member cs ps k) a && eqb (sink_member cs ps k) b)) (port_count ps)
