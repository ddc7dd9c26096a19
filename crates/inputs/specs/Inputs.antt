-- The ports of an input query, by the tables and rows of a prepared scene.
--     FedScene                  an accepted scene's edges by the port that they feed
--     SlotKeys                  the keys of a port
--     Walkable, UpstreamSet     what one port is asked by, and what a walk from its sources gives
--     Ready, SlotSets           what many ports are asked by, and what the rows of their sources give
-- Assumes nothing: these are definitions.
use Rattle.std.specs.Prelude.{ℕ, ◌*◌, ◌/◌, ◌%◌, ◌≤◌, ◌<◌, ◌≡◌, Bool, true, ◌&&◌, List, length, get_or, ℤ}
use Rattle.tables.specs.Order.{member}
use Rattle.tables.specs.Pairs.{pair, span}
use Rattle.sets.specs.declared.ComponentSet.{ComponentSet}
use Rattle.sets.specs.Members.{member_of}
use Rattle.lists.specs.Limits.{component_limit}
use Rattle.lists.specs.Records.{component_count}
use Rattle.lists.specs.Ids as Ids
use Rattle.lists.specs.Ends.{Settled}
use Rattle.regions.specs.Graph.{Edges, flip, at, marked}
use Rattle.regions.specs.Kosaraju.{reached}
use Rattle.regions.specs.Search.{Zeros}
use Rattle.graph.specs.Rows.{Rows}
use Rattle.signals.specs.Signals.{signals}
use Rattle.signals.specs.Regions.{labels, is_inferred}
use Rattle.signals.specs.Drive.{members_where}
use Rattle.signals.specs.Keys.{slot, ports}
use Rattle.signals.specs.Stages.{FedTable}
use Rattle.assessment.specs.Upstream.{in_row, UpstreamRows}
use Rattle.liveness.specs.Sets.{SetWhere}
use Rattle.liveness.specs.Scene.{Scene}
use Rattle.inputs.specs.declared.InputSources.{InputSources}

-- ---- an accepted scene

-- its edges by the port that they feed
pub record FedScene (cs ps : List ℤ) (fed : List ℕ) : Type 0 where
  pub scene : Scene cs ps
  pub sources : List ℕ
  pub sinks : List ℕ
  pub source_members : Settled cs ps 0 sources
  pub sink_members : Settled cs ps 2 sinks
  pub table : FedTable ps sources sinks fed

-- `number` is the slot of a port of the component at p in that table
pub record SlotOf (cs ps : List ℤ) (p port : ℕ) (fed : List ℕ) (number : ℕ) : Type 0 where
  pub fed_scene : FedScene cs ps fed
  pub place : p < component_count cs
  pub port_small : port < ports
  pub slot_is : number ≡ slot (Ids.member_of cs p) port

-- the keys of a slot in a table, each of them and no other
pub record SlotKeys (keys : List ℕ) (number : ℕ) (cut : List ℕ) : Type 0 where
  pub held : (i : ℕ) → i < length cut → (k : ℕ) × (k < length keys) × (get_or keys k 0 ≡ get_or cut i 0) × (get_or cut i 0 / span ≡ number)
  pub all : (a : ℕ) → a < span → member (pair number a) keys ≡ true → (i : ℕ) × (i < length cut) × (get_or cut i 0 % span ≡ a)

-- ---- one port, by a walk

-- the edges by the port that they feed, the rows of the edges turned round, and the flags of the inferred inputs
pub record Walkable (rules : ℕ) (cs ps fs : List ℤ) (fed ends next : List ℕ) (inferred : List Bool) : Type 0 where
  pub fed_scene : FedScene cs ps fed
  pub turned : Rows (component_count cs) (flip (signals cs ps)) ends next
  pub inferred_are : inferred ≡ members_where cs (is_inferred rules cs ps fs)

-- what a walk from the immediate sources asks
pub record UpstreamRoom (nodes : ℕ) (immediate inferred : List Bool) (stack : List ℕ) : Type 0 where
  pub few : length inferred ≤ component_limit
  pub nodes_are : nodes ≡ length inferred
  pub immediate_room : length immediate ≡ length inferred
  pub stack_room : 2 * length inferred ≤ length stack
  pub stack_zeros : Zeros stack

-- the set of the inferred nodes among those that the flagged ones reach
pub record UpstreamSet (n : ℕ) (edge : Edges) (immediate inferred : List Bool) (stack words : List ℕ) : Type 0 where
  pub set : SetWhere n (λ a. marked (reached n edge immediate) a && marked inferred a) words
  pub stack_zeros : Zeros stack

-- ---- many ports, by the table of what is upstream of each region

-- the edges by the port that they feed, the regions, and their rows
pub record Ready (rules : ℕ) (cs ps fs : List ℤ) (fed labelled : List ℕ) (upstream : List ComponentSet) : Type 0 where
  pub fed_scene : FedScene cs ps fed
  pub labels_are : labelled ≡ labels cs ps
  pub rows : UpstreamRows (component_count cs) (signals cs ps) (members_where cs (is_inferred rules cs ps fs)) upstream
  pub rows_long : length upstream ≡ component_limit

-- the nodes that feed a slot, and all members of the rows of their regions
pub record SlotSets (fed : List ℕ) (number : ℕ) (labelled : List ℕ) (upstream : List ComponentSet) (r : InputSources) : Type 0 where
  pub immediate : SetWhere (length labelled) (λ a. member (pair number a) fed) r.immediate.words
  pub from : (k : ℕ) → member_of r.inferred.words k ≡ true
      → (a : ℕ) × (a < length labelled) × (member (pair number a) fed ≡ true) × (in_row upstream (at labelled a) k ≡ true)
  pub all : (a k : ℕ) → a < length labelled → member (pair number a) fed ≡ true → in_row upstream (at labelled a) k ≡ true → member_of r.inferred.words k ≡ true
