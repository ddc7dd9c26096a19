-- The table of keys of the signal edges by the port that they feed.
-- Assumes nothing: these are definitions.
use Rattle.std.specs.Prelude.{ℕ, ◌+◌, ◌*◌, ◌^◌, ◌≤◌, ◌<◌, ◌≡◌, Bool, cond, List, length, get_or, ℤ}
use Rattle.tables.specs.Order.{Sorted}
use Rattle.tables.specs.Pairs.{pair, span}
use Rattle.lists.specs.Limits.{component_limit}
use Rattle.lists.specs.Records.{port_connection, port_count}
use Rattle.lists.specs.First.{tabulate}
use Rattle.signals.specs.Signals.{is_signal}

-- ports are 0 to 255
abbrev pub ports : ℕ
ports = 2 ^ 8

-- a port of a member as one number
abbrev pub slot : ℕ → ℕ → ℕ
slot member port = member * ports + port

pub record Slots (ps : List ℤ) (sinks slots : List ℕ) : Type 0 where
  pub at : (k : ℕ) → k < port_count ps → get_or slots k 0 ≡ slot (get_or sinks k 0) (port_connection ps k).sink_port_of

-- the pair of two numbers, or one that no node has
abbrev pub signal_key : Bool → ℕ → ℕ → ℕ → ℕ
signal_key signal first second nowhere = cond signal (pair first second) (pair nowhere component_limit)

-- each first number has 32 bits, and each second is below the span
pub record Sortable (m : ℕ) (firsts seconds : List ℕ) (nowhere : ℕ) : Type 0 where
  pub firsts_long : m ≤ length firsts
  pub seconds_long : m ≤ length seconds
  pub first : (k : ℕ) → k < m → get_or firsts k 0 < 2 ^ 32
  pub second : (k : ℕ) → k < m → get_or seconds k 0 < span
  pub nowhere_small : nowhere < 2 ^ 32

-- the keys of the port connections, in their order
abbrev pub signal_keys : List ℤ → List ℕ → List ℕ → ℕ → List ℕ
signal_keys ps firsts seconds nowhere = tabulate (λ k. signal_key (is_signal ps k) (get_or firsts k 0) (get_or seconds k 0) nowhere) (port_count ps)

-- the same sorted
pub record KeysOf (ps : List ℤ) (firsts seconds : List ℕ) (nowhere : ℕ) (keys : List ℕ) : Type 0 where
  pub sorted : Sorted (signal_keys ps firsts seconds nowhere) keys
