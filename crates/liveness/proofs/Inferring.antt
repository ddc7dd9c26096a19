-- The inferred inputs, by the arrays of the analysis.
--     labels_long, ends_long       a prepared scene has a label and a row for each component
--     graph, turned                its rows are those of the signal edges, and of the same turned round
--     labels_small, regions_small, members_small      its labels, regions and members as indices
--     cyclic_by                    the cyclic regions by its rows are those of the definition
--     inferred_is                  the test by the arrays is `is_inferred`
-- Assumes nothing.
use mathlib.Core.Path.{◌≡◌, refl, sym, ap, ◌∙◌}
use mathlib.Core.Bool.{Bool, true, false, not, ◌&&◌}
use mathlib.Core.List.{List}
use Prim.Native.Nat.{ℕ, ◌≤◌, ◌<◌}
use native.Mathlib.Omega.{arith}
use lib.Dec.{eqb, leb}
use lib.ListN.{length}
use lib.IntN.{ℤ}
use Rattle.lists.specs.Limits.{component_limit}
use Rattle.lists.specs.Records.{component, component_count}
use Rattle.lists.specs.Ids.{member_of}
use Rattle.lists.proofs.Members.{member_below}
use Rattle.regions.specs.Graph.{Edges, flip}
use Rattle.graph.specs.Rows.{Rows, edges_of}
use Rattle.graph.proofs.Rows.{edges_are}
use Rattle.signals.specs.Signals.{signals}
use Rattle.signals.specs.Regions.{region_of_place, wire, is_cyclic, holds_drive, fed_from_outside, neighbours, is_inferred}
use Rattle.signals.specs.Flags.{Flags, Indices}
use Rattle.liveness.specs.Scene.{Scene, Prepared}
use Rattle.signals.specs.Stages.{inferred_by, cyclic_at}
use Rattle.signals.proofs.Ends.{ends_within}
use Rattle.signals.proofs.Staged.{members_below, cyclic_is}
use Rattle.signals.proofs.Within.{labels_count, label_under, labels_under, places_under}

-- ---- a prepared scene

and_turned : (a b c : Bool) → (a && (b && c)) ≡ (a && (c && b))
and_turned false b c = refl
and_turned true true true = refl
and_turned true true false = refl
and_turned true false true = refl
and_turned true false false = refl

module _ {cs ps : List ℤ} (scene : Scene cs ps) {ends next back_ends back labelled members region_of : List ℕ}
    (p : Prepared cs ps ends next back_ends back labelled members region_of) where
  few : component_count cs ≤ component_limit
  few = scene.components.few

  pub labels_long : length labelled ≡ component_count cs
  labels_long = ap length p.labels_are ∙ labels_count cs ps scene.ends

  pub ends_long : length ends ≡ length labelled
  ends_long = p.forward.rows.nodes ∙ sym labels_long

  pub graph : edges_of ends next ≡ signals cs ps
  graph = edges_are p.forward.rows

  pub turned : Rows (length labelled) (flip (edges_of ends next)) back_ends back
  turned = rw (labels_long, graph) p.backward

  pub labels_small : (m : ℕ) → component_count cs ≤ m → Indices (length labelled) m labelled
  labels_small m h = rw p.labels_are (labels_under cs ps scene.ends m h)

  pub regions_small : (m : ℕ) → component_count cs ≤ m → Indices (length region_of) m region_of
  regions_small m h = rw p.regions_long (places_under cs ps scene.ends m h p.regions_are)

  pub members_small : (m : ℕ) → component_count cs ≤ m → Indices (length members) m members
  members_small m h = rw p.members_long record {
    long = omega (arith, p.members_long);
    below = λ q l. omega (arith, (members_below cs p.members_are).below q l);
  }

  pub cyclic_by : (r : ℕ) → cyclic_at (edges_of ends next) labelled r ≡ is_cyclic cs ps r
  cyclic_by r = ap (λ (e : Edges). cyclic_at e labelled r) graph ∙ ap (λ (l : List ℕ). cyclic_at (signals cs ps) l r) p.labels_are ∙ cyclic_is cs ps (ends_within cs ps scene.ends) r

  module _ (rules : ℕ) (fs : List ℤ) {driven fed : List Bool} (d : Flags component_limit (holds_drive cs ps fs) driven) (f : Flags component_limit (fed_from_outside rules cs ps) fed) where
    pub inferred_is : (q : ℕ) → q < component_count cs → inferred_by cs members region_of driven fed (signals cs ps) labelled q ≡ is_inferred rules cs ps fs q
    unfolding is_inferred neighbours
    inferred_is q h =
        let region = region_of_place cs ps q in
        let below : region < component_limit = omega (arith, label_under cs ps scene.ends (member_of cs q) (member_below cs q h), few) in
        rw (labels_long, p.labels_are, p.members_are.at q h, p.regions_are.at q h, d.at region below, f.at region below)
        (and_turned (eqb (component cs q).kind wire) (not (holds_drive cs ps fs region) && not (fed_from_outside rules cs ps region)) (leb (neighbours cs ps (member_of cs q)) 1))
