-- Demand 3 (document 01, "What the contracts must leave no choice in", 3), on a scene's own port connections and the region numbers answered
-- for its components in list order.
--     Chain                a chain of port connections of transfer 0 to 5, each one's sink the next one's source
--     RegionsOfScene       what holds of the numbers
-- Assumes nothing: these are definitions.
use Rattle.std.specs.Prelude.{ℕ, ◌≤◌, ◌<◌, ◌≡◌, true, List, ◌↔◌, get_or, ℤ}
use Rattle.lists.specs.Records.{component, port_connection, component_count, port_count}
use Rattle.signals.specs.Signals.{is_signal}

-- from the id at its start to the id at its end; the empty chain leads only from an id to itself
pub data Chain (ps : List ℤ) : ℕ → ℕ → Type 0 where
  nil : {a : ℕ} → Chain ps a a
  link : {c : ℕ} (k : ℕ) → k < port_count ps → is_signal ps k ≡ true → Chain ps (port_connection ps k).sink c → Chain ps (port_connection ps k).source c

-- each of two ids reaches the other
abbrev pub Mutual : List ℤ → ℕ → ℕ → Type 0
Mutual ps a b = Chain ps a b × Chain ps b a

-- the component at place v is in region `get_or regions v 0`, one of `count`
pub record RegionsOfScene (cs ps : List ℤ) (regions : List ℕ) (count : ℕ) : Type 0 where
  -- two components, the same one twice included, share a region exactly when each reaches the other
  pub same : (v w : ℕ) → v < component_count cs → w < component_count cs
      → (get_or regions v 0 ≡ get_or regions w 0) ↔ Mutual ps (component cs v).id (component cs w).id
  -- numbers run from 0 without a gap, and no region is empty
  pub below : (v : ℕ) → v < component_count cs → get_or regions v 0 < count
  pub onto : (r : ℕ) → r < count → (v : ℕ) × (v < component_count cs) × (get_or regions v 0 ≡ r)
  -- no such connection leads to a smaller number
  pub rises : (k v w : ℕ) → k < port_count ps → is_signal ps k ≡ true → v < component_count cs → w < component_count cs
      → (component cs v).id ≡ (port_connection ps k).source → (component cs w).id ≡ (port_connection ps k).sink
      → get_or regions v 0 ≤ get_or regions w 0
