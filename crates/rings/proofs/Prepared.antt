-- The rings of a prepared plot, by its rows.
--     labels_low             its labels are numbers of regions
--     near_joined            the joined pairs by the rows are those of its signals
--     prepared_rings         so are the flags
--     regions_written        the regions that are written
-- Assumes nothing.
use mathlib.Core.Path.{◌≡◌, refl, sym, ap, ap₂, ◌∙◌, subst}
use mathlib.Core.Bool.{Bool, true, false, ◌&&◌, ◌||◌, and-false, or_comm}
use mathlib.Core.List.{List}
use Prim.Native.Nat.{ℕ}
use native.Mathlib.Omega.{arith}
use lib.Dec.{eqb, leb}
use lib.ListN.{length, get_or}
use lib.IntN.{ℤ}
use borrow.Author.Tests.{eqb-true}
use Rattle.sets.specs.Members.{count_below}
use Rattle.lists.specs.First.{tabulate}
use Rattle.regions.specs.Graph.{at}
use Rattle.graph.specs.Rows.{edges_of}
use Rattle.signals.specs.Signals.{signals}
use Rattle.signals.specs.Regions.{labels, region_count, region_of_place, regions_of}
use Rattle.signals.specs.Flags.{Flags, Indices}
use Rattle.signals.proofs.Within.{scene_regions, labels_count}
use Rattle.liveness.specs.Scene.{Scene, Prepared}
use Rattle.liveness.proofs.Answers.{tabulated_same}
use Rattle.liveness.proofs.Inferring.{labels_long, graph}
use Rattle.rings.specs.Rings.{joined, join_count}
use Rattle.rings.specs.Scene.{members_of_region, has_ring}
use Rattle.rings.specs.Counts.{near_in}
use Rattle.rings.proofs.Laws.{joins_same}

-- a test of two labels, and one that each is r
same_region : (a b r : ℕ) (x y : Bool) → (eqb b r && (eqb a b && (x || y))) ≡ (eqb a r && (eqb b r && (y || x)))
same_region a b r x y = go (eqb b r) refl
  where
    go : (t : Bool) → eqb b r ≡ t → (t && (eqb a b && (x || y))) ≡ (eqb a r && (t && (y || x)))
    go true e = ap₂ (λ (k : ℕ) (s : Bool). eqb a k && s) (eqb-true b r e) (or_comm x y)
    go false e = sym (and-false (eqb a r))

module _ {cs ps : List ℤ} (scene : Scene cs ps) {ends next back_ends back labelled members region_at : List ℕ}
    (p : Prepared cs ps ends next back_ends back labelled members region_at) where
  pub labels_low : Indices (length labelled) (region_count cs ps) labelled
  labels_low =
      subst (λ (l : List ℕ). Indices (length l) (region_count cs ps) l) (sym p.labels_are) record {
        long = omega arith;
        below = λ m h. (scene_regions cs ps scene.ends).below m (omega (arith, labels_count cs ps scene.ends));
      }

  pub near_joined : (r a b : ℕ) → near_in (edges_of ends next) labelled r a b ≡ joined (signals cs ps) (members_of_region cs ps r) a b
  near_joined r a b =
      let l = labels cs ps in
      rw (p.labels_are, graph scene p) (same_region (at l a) (at l b) r (signals cs ps b a) (signals cs ps a b))

  pub prepared_rings : {flags : List Bool} {m : ℕ} → m ≡ region_count cs ps
      → Flags m (λ r. leb (count_below (λ a. eqb (at labelled a) r) (length labelled)) (join_count (near_in (edges_of ends next) labelled r) (length labelled))) flags
      → Flags (region_count cs ps) (has_ring cs ps) flags
  prepared_rings e f = record {
    long = omega (arith, e, f.long);
    at = λ r h.
        f.at r (omega (arith, e))
        ∙ ap (leb (count_below (λ a. eqb (at labelled a) r) (length labelled))) (joins_same _ _ (length labelled) (λ a b ha hb. near_joined r a b))
        ∙ ap₂ (λ (l : List ℕ) (k : ℕ). leb (count_below (λ a. eqb (at l a) r) k) (join_count (joined (signals cs ps) (members_of_region cs ps r)) k))
        p.labels_are (labels_long scene p);
  }

-- what is written
pub regions_written : {cs ps : List ℤ} {ends next back_ends back labelled members region_at : List ℕ}
    → Prepared cs ps ends next back_ends back labelled members region_at → tabulate (λ q. get_or region_at q 0) (length region_at) ≡ regions_of cs ps
regions_written {cs} {ps} {region_at = region_at} p =
    tabulated_same (λ q. get_or region_at q 0) (region_of_place cs ps) (length region_at) (λ q h. p.regions_are.at q (omega (arith, p.regions_long)))
    ∙ ap (tabulate (region_of_place cs ps)) p.regions_long
