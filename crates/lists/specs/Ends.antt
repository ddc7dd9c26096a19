-- The ends of port connections as members, looked up once: refusal 7 and the signal edges both read them.
-- Assumes nothing: these are definitions.
use Rattle.std.specs.Prelude.{ℕ, ◌+◌, ◌*◌, ◌≤◌, ◌<◌, ◌≡◌, List, map, length, get_or, ℤ}
use Rattle.lists.specs.declared.ends.Ends.{Ends}
use Rattle.lists.specs.Limits.{port_width}
use Rattle.lists.specs.Records.{natural_at, port_count}
use Rattle.lists.specs.Ids.{smaller_ids}

-- the sources and the sinks
abbrev pub sources_of : List Ends → List ℕ
sources_of ends = map (λ e. e.source) ends

abbrev pub sinks_of : List Ends → List ℕ
sinks_of ends = map (λ e. e.sink) ends

-- the member of field f of each port connection
pub record Settled (cs ps : List ℤ) (f : ℕ) (members : List ℕ) : Type 0 where
  pub at : (k : ℕ) → k < port_count ps → get_or members k 0 ≡ smaller_ids cs (natural_at ps (k * port_width + f))

-- the members of the sources and of the sinks
pub record SettledEnds (cs ps : List ℤ) (sources sinks : List ℕ) : Type 0 where
  pub source_members : Settled cs ps 0 sources
  pub sink_members : Settled cs ps 2 sinks
  pub sources_long : port_count ps ≤ length sources
  pub sinks_long : port_count ps ≤ length sinks
