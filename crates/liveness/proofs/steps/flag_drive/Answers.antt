-- `liveness::steps::flag_drive` meets its contract: the flags of the drive sources are gathered by region.
-- Assumes nothing.
use mathlib.Core.Path.{◌≡◌, ap, ◌∙◌}
use mathlib.Core.Bool.{Bool, ◌||◌}
use mathlib.Core.List.{List}
use Prim.Native.Nat.{ℕ}
use native.Mathlib.Omega.{arith}
use lib.ListN.{length}
use lib.IntN.{ℤ}
use Rattle.lists.specs.Limits.{component_limit}
use Rattle.lists.specs.Records.{component, component_count}
use Rattle.lists.specs.First.{is_found}
use Rattle.regions.specs.Graph.{marked}
use Rattle.signals.specs.Sources.{source_kind, is_on_frontier, is_drive}
use Rattle.signals.specs.Regions.{region_of_place, holds_drive}
use Rattle.signals.specs.Flags.{Flags, Numbers, Gathered}
use Rattle.signals.proofs.Lent.{gathered_same}
use Rattle.signals.proofs.Tabulated.{first_cong}
use Rattle.liveness.proofs.Inferring.{regions_small}
use Rattle.liveness.proofs.steps.flag_drive.Goals as goal

pub gather-requires-clause-indices : goal.gather-requires-clause-indices
gather-requires-clause-indices c =
    let p = c.args.plot.now in
    regions_small p.plot.accepted.scene p.prepared _ (omega (arith, p.plot.accepted.scene.components.few, c.requires.regions))

-- a component on a frontier is a drive source
drives_too : (cs fs : List ℤ) {frontier driven : List Bool} → Flags (component_count cs) (is_on_frontier cs fs) frontier
    → Flags (component_count cs) (λ p. is_found (source_kind (component cs p).kind) || marked frontier p) driven
    → Flags (component_count cs) (is_drive cs fs) driven
drives_too cs fs f d = record
    { long = d.long; at = λ p h. d.at p h ∙ ap (λ (t : Bool). is_found (source_kind (component cs p).kind) || t) (f.at p h) }

-- a region holds a drive source where one is gathered there
regions_driven : (cs ps fs : List ℤ) {numbers : List ℕ} {driven out : List Bool} → length out ≡ component_limit
    → Numbers (component_count cs) (region_of_place cs ps) numbers
    → Flags (component_count cs) (is_drive cs fs) driven → Gathered (component_count cs) numbers driven out
    → Flags component_limit (holds_drive cs ps fs) out
unfolding holds_drive
regions_driven cs ps fs long at_place driven g = record {
  long = omega arith;
  at = λ r h. g.at r (omega arith)
      ∙ ap is_found (first_cong _ _ 0 (component_count cs) (λ p a b. rw (driven.at p (omega arith), at_place.at p (omega arith))));
}

pub returns : goal.returns
returns c =
    let p = c.args.plot.now in
    let cs = p.plot.components.now in
    let fs = p.plot.frontiers.now in
    let drives = drives_too cs fs c.frontier_flags.ensures (rw c.component_list.ensures at c.drive_flags.ensures) in
    record {
      frontier_flags = c.frontier_flags.ensures;
      drive_flags = drives;
      region_flags = regions_driven cs p.plot.ports.now fs (c.gather.auto.out ∙ c.requires.regions) p.prepared.regions_are drives
          (gathered_same p.prepared.regions_long c.gather.ensures);
    }
