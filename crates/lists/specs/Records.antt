-- The four lists of document 01 ("The scene taken in"), decoded into records. Ids, codes and ports are natural numbers once a list is
-- accepted; coordinates stay signed.
-- Assumes nothing: these are definitions.
use Rattle.std.specs.Prelude.{ℕ, ◌+◌, ◌*◌, ◌/◌, List, length, ℤ, nat_abs}
use Rattle.lists.specs.Limits.{component_width, connection_width, port_width, frontier_width}
use Rattle.lists.specs.Signed.{at}

pub record Component : Type 0 where
  pub id : ℕ
  pub x : ℤ
  pub y : ℤ
  pub z : ℤ
  pub kind : ℕ
  pub facing : ℕ
  pub support : ℕ
  pub conducts : ℕ

-- a grouping connection
pub record Connection : Type 0 where
  pub source : ℕ
  pub sink : ℕ
  pub kind : ℕ

pub record PortConnection : Type 0 where
  pub source : ℕ
  pub source_port_of : ℕ
  pub sink : ℕ
  pub sink_port_of : ℕ
  pub transfer : ℕ

-- a frontier
pub record Position : Type 0 where
  pub x : ℤ
  pub y : ℤ
  pub z : ℤ

-- the natural number at a place
abbrev pub natural_at : List ℤ → ℕ → ℕ
natural_at list i = nat_abs (at list i)

-- ---- record k of each list, from 0

abbrev pub component : List ℤ → ℕ → Component
component cs k = record {
  id = natural_at cs (k * component_width);
  x = at cs (k * component_width + 1);
  y = at cs (k * component_width + 2);
  z = at cs (k * component_width + 3);
  kind = natural_at cs (k * component_width + 4);
  facing = natural_at cs (k * component_width + 5);
  support = natural_at cs (k * component_width + 6);
  conducts = natural_at cs (k * component_width + 7);
}

abbrev pub connection : List ℤ → ℕ → Connection
connection ps k = record {
  source = natural_at ps (k * connection_width);
  sink = natural_at ps (k * connection_width + 1);
  kind = natural_at ps (k * connection_width + 2);
}

abbrev pub port_connection : List ℤ → ℕ → PortConnection
port_connection ps k = record {
  source = natural_at ps (k * port_width);
  source_port_of = natural_at ps (k * port_width + 1);
  sink = natural_at ps (k * port_width + 2);
  sink_port_of = natural_at ps (k * port_width + 3);
  transfer = natural_at ps (k * port_width + 4);
}

abbrev pub frontier : List ℤ → ℕ → Position
frontier fs k = record {
  x = at fs (k * frontier_width);
  y = at fs (k * frontier_width + 1);
  z = at fs (k * frontier_width + 2);
}

-- ---- how many there are

abbrev pub component_count : List ℤ → ℕ
component_count cs = length cs / component_width

abbrev pub connection_count : List ℤ → ℕ
connection_count ps = length ps / connection_width

abbrev pub port_count : List ℤ → ℕ
port_count ps = length ps / port_width

abbrev pub frontier_count : List ℤ → ℕ
frontier_count fs = length fs / frontier_width
