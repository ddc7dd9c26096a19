-- The stages of the analysis, and what each leaves in its arrays.
-- Assumes nothing: these are definitions.
use Rattle.std.specs.Prelude.{ℕ, ◌*◌, Bool, not, ◌&&◌, ◌||◌, List, eqb, leb, length, get_or, ℤ}
use Rattle.sets.specs.Members.{count_below}
use Rattle.lists.specs.Limits.{component_limit}
use Rattle.lists.specs.Records.{component}
use Rattle.lists.specs.First.{some}
use Rattle.regions.specs.Graph.{Edges, marked}
use Rattle.signals.specs.Regions.{wire}
use Rattle.signals.specs.Keys.{Slots, KeysOf, ports}
use Rattle.signals.specs.Seen.{few_near}

-- the sorted table of the signal edges by the port that they feed
pub record FedTable (ps : List ℤ) (sources sinks fed : List ℕ) : Type 0 where
  pub slots : List ℕ
  pub slots_are : Slots ps sinks slots
  pub fed_keys : KeysOf ps slots sources (component_limit * ports) fed

-- the component at p is a wire with few neighbours in a quiet region, by the edges and the arrays of the analysis
abbrev pub inferred_by : List ℤ → List ℕ → List ℕ → List Bool → List Bool → Edges → List ℕ → ℕ → Bool
inferred_by cs members region_of_place holds_drive fed edge labels p =
    eqb (component cs p).kind wire
    && ((not (marked holds_drive (get_or region_of_place p 0)) && not (marked fed (get_or region_of_place p 0)))
    && few_near edge labels (get_or members p 0))

-- region r has two nodes or more, or an edge from a node to itself
abbrev pub cyclic_at : Edges → List ℕ → ℕ → Bool
cyclic_at edge labels r =
    leb 2 (count_below (λ m. eqb (get_or labels m 0) r) (length labels)) || some (λ a. edge a a && eqb (get_or labels a 0) r) (length labels)
