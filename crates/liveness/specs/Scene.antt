-- An accepted scene, and what the stages of its analysis leave in their arrays.
-- Assumes nothing: these are definitions.
use Rattle.std.specs.Prelude.{None}
use Rattle.std.specs.Prelude.{ℕ, ◌*◌, ◌≤◌, ◌<◌, ◌≡◌, Bool, cond, List, length, get_or, ℤ}
use Rattle.sets.specs.Members.{SetOf}
use Rattle.lists.specs.Limits.{component_limit, component_width}
use Rattle.lists.specs.Records.{component_count, port_count}
use Rattle.lists.specs.Ids.{IdTable, member_of, first_repeated, first_end_missing}
use Rattle.lists.specs.Ends.{SettledEnds}
use Rattle.lists.specs.Order.{first_not_ascending, component_order}
use Rattle.lists.specs.Within.{Components, PortConnections}
use Rattle.regions.specs.Graph.{flip}
use Rattle.graph.specs.Rows.{Rows}
use Rattle.signals.specs.Signals.{is_signal, signals}
use Rattle.signals.specs.Sources.{is_on_frontier, is_drive}
use Rattle.signals.specs.Regions.{labels, region_of_place, holds_drive, is_inferred}
use Rattle.signals.specs.Drive.{drive, potential}
use Rattle.signals.specs.Flags.{Flags, Numbers}
use Rattle.liveness.specs.Sets.{SetWhere}
use Rattle.liveness.specs.declared.Analysis.{Analysis}

-- what the checks of the lists have shown
pub record Scene (cs ps : List ℤ) : Type 0 where
  pub components : Components cs
  pub connections : PortConnections ps
  pub ends : first_end_missing cs ps ≡ None
  pub ascending : first_not_ascending component_order component_width cs ≡ None
  pub distinct : first_repeated cs ≡ None

-- with the table of the components' ids, and the ends of the port connections as members
pub record Accepted (cs ps : List ℤ) (keys sources sinks : List ℕ) : Type 0 where
  pub scene : Scene cs ps
  pub table : IdTable cs keys
  pub ends : SettledEnds cs ps sources sinks

-- the rows of its signal edges, and of the same turned round; each member's region; each component's member and region, by list place
pub record Prepared (cs ps : List ℤ) (ends next back_ends back labelled members region_of : List ℕ) : Type 0 where
  pub forward : Rows (component_count cs) (signals cs ps) ends next
  pub backward : Rows (component_count cs) (flip (signals cs ps)) back_ends back
  pub labels_are : labelled ≡ labels cs ps
  pub members_long : length members ≡ component_count cs
  pub members_are : Numbers (component_count cs) (member_of cs) members
  pub regions_long : length region_of ≡ component_count cs
  pub regions_are : Numbers (component_count cs) (region_of_place cs ps) region_of

-- flags of the drive sources, and of those on frontiers
pub record Driven (cs ps fs : List ℤ) (frontier driven hasDriven : List Bool) : Type 0 where
  pub frontier_flags : Flags (component_count cs) (is_on_frontier cs fs) frontier
  pub drive_flags : Flags (component_count cs) (is_drive cs fs) driven
  pub region_flags : Flags component_limit (holds_drive cs ps fs) hasDriven

-- what the drive sources reach, and what these and the inferred inputs reach
pub record Alive (rules : ℕ) (cs ps fs : List ℤ) (driven possible : List Bool) : Type 0 where
  pub drive_is : driven ≡ drive cs ps fs
  pub potential_is : possible ≡ potential rules cs ps fs

-- ---- the ends of port connections, of which rows are built

-- the members, and a number that no node has for the sink of a support
pub record NarrowEnds (ps : List ℤ) (sources sinks froms tos : List ℕ) : Type 0 where
  pub sources_are : (k : ℕ) → k < port_count ps → get_or froms k 0 ≡ get_or sources k 0
  pub sinks_are : (k : ℕ) → k < port_count ps → get_or tos k 0 ≡ cond (is_signal ps k) (get_or sinks k 0) component_limit

-- ---- the marks and the rows of a scene

-- marks of components by list place, of members, and of regions
pub record Marked (rules : ℕ) (cs ps fs : List ℤ) (frontier inferred hasDriven driven possible : List Bool) : Type 0 where
  pub frontier_flags : Flags (component_count cs) (is_on_frontier cs fs) frontier
  pub inferred_flags : Flags (component_count cs) (is_inferred rules cs ps fs) inferred
  pub region_flags : Flags component_limit (holds_drive cs ps fs) hasDriven
  pub drive_is : driven ≡ drive cs ps fs
  pub potential_is : possible ≡ potential rules cs ps fs

-- room for them
pub record MarkRoom (cs : List ℤ) (frontier inferred hasDriven driven possible : List Bool) : Type 0 where
  pub frontier_room : component_count cs ≤ length frontier
  pub inferred_room : component_count cs ≤ length inferred
  pub regions_room : length hasDriven ≡ component_limit
  pub drive_room : length driven ≡ component_count cs
  pub potential_room : length possible ≡ component_count cs

-- room for what n nodes reach, and their marks
pub record AliveRoom (n : ℕ) (hasDriven inferred driven possible : List Bool) : Type 0 where
  pub regions_room : length hasDriven ≡ component_limit
  pub inferred_room : n ≤ length inferred
  pub drive_room : length driven ≡ n
  pub potential_room : length possible ≡ n

-- room for the rows
pub record RowsRoom (cs : List ℤ) (regions sources inputs stack : List ℕ) : Type 0 where
  pub regions_room : component_count cs ≤ length regions
  pub sources_room : 4 * component_count cs ≤ length sources
  pub inputs_room : 12 * component_count cs ≤ length inputs
  pub stack_room : 2 * component_count cs ≤ length stack

-- ---- the answer, by the arrays

-- the counts as given, and the sets of the flags
pub record AnswerBy (n count sources inputs : ℕ) (driven possible hasDriven : List Bool) (cyclic : ℕ → Bool) (r : Analysis) : Type 0 where
  pub regions_is : r.regions ≡ count
  pub sources_is : r.sources ≡ sources
  pub inputs_is : r.inputs ≡ inputs
  pub drive_set : SetOf n driven r.drive.words
  pub potential_set : SetOf n possible r.potential.words
  pub cyclic_set : SetWhere count cyclic r.cyclic.words
  pub has_drive_set : SetOf count hasDriven r.has_drive.words
