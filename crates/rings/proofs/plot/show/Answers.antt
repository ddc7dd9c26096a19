-- `rings::plot::show` meets its contract: the regions with a ring are flagged, and the flags become a set.
-- Assumes nothing.
use mathlib.Core.Path.{◌≡◌, refl, sym, ap, ◌∙◌}
use mathlib.Core.List.{List}
use Prim.Native.Nat.{ℕ, ◌≤◌}
use native.Mathlib.Omega.{arith}
use lib.ListN.{length}
use lib.Seq.{length-take-le}
use Rattle.lists.specs.Limits.{component_limit}
use Rattle.lists.specs.Records.{component_count}
use Rattle.lists.specs.Slices.{laid}
use Rattle.signals.proofs.Within.{scene_regions}
use Rattle.liveness.proofs.Answers.{set_where, set_same}
use Rattle.liveness.proofs.Inferring.{labels_long}
use Rattle.rings.proofs.Prepared.{regions_written}
use Rattle.rings.proofs.plot.show.Goals as goal
use Rattle.rings.proofs.plot.show.Goals.{Start}

-- ---- the prepared scene

all : (s : Start) → length s.args.plot.now.labels.now ≡ component_count s.args.plot.now.plot.components.now
all s = labels_long s.args.plot.now.plot.accepted.scene s.args.plot.now.prepared

-- at most as many regions as components
few : (s : Start) → s.args.plot.now.count ≤ component_limit
few s =
    let p = s.args.plot.now in
    let scene = p.plot.accepted.scene in
    omega (arith, p.counted, (scene_regions p.plot.components.now p.plot.ports.now scene.ends).few, scene.components.few)

-- ---- the calls

pub slice_bounds-flag_at-end : goal.slice_bounds-flag_at-end
slice_bounds-flag_at-end c = few (goal.at.slice_bounds-flag_at-end c).Start

pub slice_bounds-flags-end : goal.slice_bounds-flags-end
slice_bounds-flags-end c = sym (length-take-le _ _ (few (goal.at.slice_bounds-flags-end c).Start))

pub flag_plot-requires : goal.flag_plot-requires
flag_plot-requires c = length-take-le _ _ (few (goal.at.flag_plot-requires c).Start) ∙ c.args.plot.now.counted

pub put_regions-requires : goal.put_regions-requires
put_regions-requires c =
    omega (arith, c.args.plot.now.prepared.regions_long, c.requires)

-- ---- the answer

pub returns-clause-written : goal.returns-clause-written
returns-clause-written c =
    c.put_regions.ensures ∙ ap (λ (l : List ℕ). laid l c.args.regions.now) (regions_written c.args.plot.now.prepared)

pub returns-clause-answer : goal.returns-clause-answer
returns-clause-answer c =
    let s = (goal.at.returns-clause-answer c).Start in
    let p = c.args.plot.now in
    let long = c.flag_plot.auto.flags ∙ length-take-le _ _ (few s) ∙ p.counted in
    record { count_is = p.counted; rings_set = set_same long (λ r. refl) (set_where (omega (arith, long)) c.of_flags.ensures c.flag_plot.ensures) }
