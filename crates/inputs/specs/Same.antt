-- Order and repetition of port connections change nothing (document 01, "What the contracts must leave no choice in"): what two lists with the
-- same members share.
--     SameConnections      two lists of port connections with the same members
--     SameAnswer           what the analysis and the input query answer to both
-- Assumes nothing: these are definitions.
use Rattle.std.specs.Prelude.{ℕ, ◌<◌, ◌≡◌, List, ℤ}
use Rattle.lists.specs.Records.{port_connection, port_count}
use Rattle.signals.specs.Regions.{region_count, regions_of, is_cyclic, holds_drive}
use Rattle.signals.specs.Drive.{drive, potential}
use Rattle.assessment.specs.Verdicts.{source_rows, input_rows}
use Rattle.inputs.specs.Query.{is_immediate, is_inferred_for}

-- each port connection of the one list is one of the other
pub record SameConnections (ps qs : List ℤ) : Type 0 where
  pub there : (k : ℕ) → k < port_count ps → (j : ℕ) × (j < port_count qs) × (port_connection ps k ≡ port_connection qs j)
  pub back : (j : ℕ) → j < port_count qs → (k : ℕ) × (k < port_count ps) × (port_connection qs j ≡ port_connection ps k)

-- the analysis and the input query answer the same for both lists: order and repetition of port connections change nothing
pub record SameAnswer (rules : ℕ) (cs ps qs fs : List ℤ) : Type 0 where
  -- the region of each component
  pub regions : regions_of cs ps ≡ regions_of cs qs
  -- how many regions there are
  pub region_count_lem : region_count cs ps ≡ region_count cs qs
  -- the source rows
  pub sources : source_rows rules cs ps fs ≡ source_rows rules cs qs fs
  -- the verdict rows
  pub inputs : input_rows rules cs ps fs ≡ input_rows rules cs qs fs
  -- the members reached from a drive source
  pub driven : drive cs ps fs ≡ drive cs qs fs
  -- the members reached from a drive source or inferred input
  pub possible : potential rules cs ps fs ≡ potential rules cs qs fs
  -- the regions that are cyclic
  pub cyclic : (r : ℕ) → is_cyclic cs ps r ≡ is_cyclic cs qs r
  -- the regions that hold a drive source
  pub has_drive : (r : ℕ) → holds_drive cs ps fs r ≡ holds_drive cs qs fs r
  -- the immediate sources of a port of the component at p
  pub immediate : (p port a : ℕ) → is_immediate cs ps p port a ≡ is_immediate cs qs p port a
  -- the inferred inputs among these and all upstream of them
  pub inferred : (p port a : ℕ) → is_inferred_for rules cs ps fs p port a ≡ is_inferred_for rules cs qs fs p port a
