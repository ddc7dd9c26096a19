-- What numbers 1 and 3 leave: lists within their limits, every field in its range. The later checks and the work of the entries rely on these
-- records and on nothing else of their caller.
-- Assumes nothing: these are definitions.
use Rattle.std.specs.Prelude.{ℕ, ◌+◌, ◌*◌, ◌/◌, ◌≤◌, ◌<◌, ◌≡◌, true, List, length, ℤ}
use Rattle.lists.specs.Limits.{component_limit, connection_limit, frontier_limit}
use Rattle.lists.specs.Signed.{at, in_range}
use Rattle.lists.specs.Ranges.{component_low, component_high, connection_low, connection_high, port_low, port_high, frontier_low, frontier_high}

-- at most `limit` records, each field f of each from low[f] to high[f]
pub record Within (limit : ℕ) (low high list : List ℤ) : Type 0 where
  pub few : length list / length low ≤ limit
  pub field : (k f : ℕ) → k < length list / length low → f < length low → in_range (at low f) (at high f) (at list (k * length low + f)) ≡ true

abbrev pub Components : List ℤ → Type 0
Components cs = Within component_limit component_low component_high cs

abbrev pub Connections : List ℤ → Type 0
Connections ps = Within connection_limit connection_low connection_high ps

abbrev pub PortConnections : List ℤ → Type 0
PortConnections ps = Within connection_limit port_low port_high ps

abbrev pub Frontiers : List ℤ → Type 0
Frontiers fs = Within frontier_limit frontier_low frontier_high fs
