-- `lighting::plot::show` meets its contract: the regions are lit, and the marks become sets.
-- Assumes nothing.
use mathlib.Core.Path.{◌≡◌, refl, sym, ap, ◌∙◌}
use mathlib.Core.Bool.{false}
use mathlib.Core.List.{List}
use Prim.Native.Nat.{ℕ, ◌≤◌}
use native.Mathlib.Omega.{arith}
use lib.ListN.{length}
use Rattle.lists.specs.Limits.{component_limit}
use Rattle.lists.specs.Records.{component_count}
use Rattle.lists.specs.Slices.{laid}
use Rattle.sets.proofs.Flagged.{set_of_front}
use Rattle.signals.proofs.Lent.{indices_same}
use Rattle.liveness.proofs.Answers.{set_where, set_same, set_below}
use Rattle.liveness.proofs.Inferring.{labels_long, labels_small}
use Rattle.lighting.proofs.Handed.{regions_are, driven_at}
use Rattle.lighting.proofs.plot.show.Goals as goal
use Rattle.lighting.proofs.plot.show.Goals.{Start}

-- ---- the prepared scene

all : (s : Start) → length s.args.plot.now.labels.now ≡ component_count s.args.plot.now.plot.components.now
all s = labels_long s.args.plot.now.plot.accepted.scene s.args.plot.now.prepared

few : (s : Start) → component_count s.args.plot.now.plot.components.now ≤ component_limit
few s = s.args.plot.now.plot.accepted.scene.components.few

-- ---- the calls

pub spread-requires : goal.spread-requires
spread-requires c =
    let s = (goal.at.spread-requires c).Start in
    (indices_same (sym c.light.auto.lit) (labels_small c.args.plot.now.plot.accepted.scene c.args.plot.now.prepared component_limit (few s)), omega (arith, all s, few s))

pub put_regions-requires : goal.put_regions-requires
put_regions-requires c =
    omega (arith, c.args.plot.now.prepared.regions_long, c.requires)

-- ---- the answer

pub returns-clause-written : goal.returns-clause-written
returns-clause-written c =
    c.put_regions.ensures ∙ ap (λ (l : List ℕ). laid l c.args.regions.now) (regions_are c.args.plot.now.plot.accepted.scene c.args.plot.now.prepared)

pub returns-clause-answer : goal.returns-clause-answer
returns-clause-answer c =
    let s = (goal.at.returns-clause-answer c).Start in
    let p = c.args.plot.now in
    let cs = p.plot.components.now in
    let ps = p.plot.ports.now in
    let fs = p.plot.frontiers.now in
    let lights = c.light.ensures in
    record {
      count_is = p.counted;
      lit_set = set_same p.counted (λ r. refl)
          (set_where (omega (arith, p.counted)) (set_of_front _ _ _ (omega (arith, p.counted, lights.long)) c.of_flags.ensures) lights);
      driven_set = set_below (all s) (λ m h. driven_at cs ps fs p.plot.accepted.scene p.prepared.labels_are lights m h)
          (set_where (omega arith) (set_of_front _ _ _ c.spread.ensures.long c.of_flags-2.ensures)
          record { long = c.spread.ensures.long; at = λ m h. c.spread.ensures.values m false h });
    }
