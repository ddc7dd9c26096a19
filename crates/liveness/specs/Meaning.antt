-- What `drive` and `potential` mean (document 01, "liveness.rs": "reached from"), in chains of the scene's own port connections.
--     FedFrom     a component is in a set exactly if some source has a chain to it, itself included
-- Assumes nothing: these are definitions.
use Rattle.std.specs.Prelude.{ℕ, ◌<◌, ◌≡◌, Bool, true, List, ◌↔◌, ℤ}
use Rattle.lists.specs.Records.{component, component_count}
use Rattle.liveness.specs.Demand.{Chain}

pub record FedFrom (cs ps : List ℤ) (is_source found : ℕ → Bool) : Type 0 where
  pub exactly : (p : ℕ) → p < component_count cs
      → (found p ≡ true) ↔ ((q : ℕ) × (q < component_count cs) × (is_source q ≡ true) × Chain ps (component cs q).id (component cs p).id)
