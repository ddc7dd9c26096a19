-- The theorems that specs/Theorems.antt states.
-- Assumes nothing.
use mathlib.Core.Bool.{Bool}
use mathlib.Core.List.{List}
use Prim.Native.Nat.{ℕ}
use Rattle.regions.specs.Graph.{Edges, Within}
use Rattle.regions.specs.Theorems.{RegionLaws, ReachLaws}
use Rattle.regions.proofs.Laws.Main as Main
use Rattle.regions.proofs.Laws.Reach as Reach

pub region_laws : (n : ℕ) (edge : Edges) → Within n edge → RegionLaws n edge
region_laws n edge within =
    record {
      same = Main.region_same n edge within;
      below = Main.region_below n edge within;
      onto = Main.region_onto n edge within;
      rises = Main.region_rises n edge within;
      long = Main.region_of_length n edge within;
      few = Main.count_le n edge within;
    }

pub reach_laws : (n : ℕ) (edge : Edges) → Within n edge → (starts : List Bool) → ReachLaws n edge starts
reach_laws n edge within starts =
    record {
      exactly = Reach.reached_exactly n edge within starts;
      includes = Reach.reached_includes n edge within starts;
      long = Reach.reached_length n edge within starts;
    }
