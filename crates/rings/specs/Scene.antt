-- Rings of a scene (added beside document 01, whose `cyclic` every straight two-way wire of two members has).
--     Leads                 a port connection of transfer 0 to 5 leads from one id to another
--     RegionHasRing         some component of the region is on a ring: a closed chain through three distinct components or more, or a
--                           component that feeds itself
--     has_ring              the same as a test: at least as many joined pairs of members as members
--     TwoWayTree            what is cyclic and has no ring
-- The theorem is `scene_laws` of proofs/Scenes.antt.
-- Assumes nothing: these are definitions and a statement.
use Rattle.std.specs.Prelude.{ℕ, ◌+◌, ◌≤◌, ◌<◌, ◌≡◌, Bool, true, false, List, ◌↔◌, get_or, ℤ}
use Rattle.sets.specs.Members.{count_below}
use Rattle.tables.specs.Order.{member}
use Rattle.lists.specs.Records.{component, port_connection, component_count, port_count}
use Rattle.signals.specs.Signals.{is_signal, signals}
use Rattle.signals.specs.Regions.{region_count, region_of_place, is_cyclic}
use Rattle.rings.specs.Rings.{RingThrough, OnRing, joined, pair_count, in_region, ring_test}

-- ---- by the scene's own connections

pub record Leads (ps : List ℤ) (a b : ℕ) : Type 0 where
  pub k : ℕ
  pub below : k < port_count ps
  pub signal : is_signal ps k ≡ true
  pub source : (port_connection ps k).source ≡ a
  pub sink : (port_connection ps k).sink ≡ b

-- the component at place p is in region `get_or regions p 0`
pub record RegionHasRing (cs ps : List ℤ) (regions : List ℕ) (r : ℕ) : Type 0 where
  pub place : ℕ
  pub below : place < component_count cs
  pub in_it : get_or regions place 0 ≡ r
  pub on_ring : OnRing (Leads ps) (component cs place).id

-- ---- as a test

abbrev pub members_of_region : List ℤ → List ℤ → ℕ → ℕ → Bool
members_of_region cs ps r = in_region (component_count cs) (signals cs ps) r

abbrev pub has_ring : List ℤ → List ℤ → ℕ → Bool
has_ring cs ps r = ring_test (component_count cs) (signals cs ps) (members_of_region cs ps r)

-- ---- `cyclic` and no ring

-- two members or more, all joined by two-way connections, one pair fewer than members: a tree
pub record TwoWayTree (cs ps : List ℤ) (r : ℕ) : Type 0 where
  pub members : 2 ≤ count_below (members_of_region cs ps r) (component_count cs)
  -- a connection between two of its components has one back
  pub two_way : (v w : ℕ) → v < component_count cs → w < component_count cs → region_of_place cs ps v ≡ r → region_of_place cs ps w ≡ r
      → Leads ps (component cs v).id (component cs w).id → Leads ps (component cs w).id (component cs v).id
  -- none of them feeds itself
  pub no_self : (v : ℕ) → v < component_count cs → region_of_place cs ps v ≡ r → Leads ps (component cs v).id (component cs v).id → ⊥
  pub tree : pair_count (joined (signals cs ps) (members_of_region cs ps r)) (component_count cs) + 1
      ≡ count_below (members_of_region cs ps r) (component_count cs)

pub record RingSceneLaws (cs ps : List ℤ) : Type 0 where
  -- all of a ring is in one region
  pub one_region : (v w : ℕ) (ring : RingThrough (Leads ps) (component cs v).id) → member (component cs w).id ring.rest ≡ true
      → region_of_place cs ps w ≡ region_of_place cs ps v
  -- what `cyclic` tells and a ring does not
  pub cyclic : (r : ℕ) → r < region_count cs ps → ((is_cyclic cs ps r ≡ true) × (has_ring cs ps r ≡ false)) ↔ TwoWayTree cs ps r
  -- a ring makes a region cyclic
  pub ring_cyclic : (r : ℕ) → r < region_count cs ps → has_ring cs ps r ≡ true → is_cyclic cs ps r ≡ true
