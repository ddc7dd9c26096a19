-- `liveness::steps::answer` meets its contract: the sets of the flags, and that of the cyclic regions.
-- Assumes nothing.
use mathlib.Core.Path.{refl}
use mathlib.Core.Bool.{Bool}
use mathlib.Core.List.{List}
use Prim.Native.Nat.{ℕ, ◌≤◌}
use native.Mathlib.Omega.{arith}
use lib.ListN.{length, take, length-take}
use Rattle.lists.specs.Limits.{component_limit}
use Rattle.liveness.proofs.Inferring.{labels_long, ends_long, labels_small, cyclic_by}
use Rattle.sets.proofs.Flagged.{set_of_front}
use Rattle.liveness.proofs.Answers.{set_where, set_same}
use Rattle.liveness.proofs.steps.answer.Goals as goal
use Rattle.liveness.proofs.steps.answer.Goals.{Start}

-- the lent flags are as many as regions can be
pub find_cyclic-requires : goal.find_cyclic-requires
find_cyclic-requires c =
    let p = c.args.plot.now in
    let scene = p.plot.accepted.scene in
    record {
      nodes = ends_long scene p.prepared;
      indices = (labels_small scene p.prepared component_limit scene.components.few, omega arith);
    }

few : (s : Start) → length s.args.plot.now.labels.now ≤ component_limit
few s =
    let p = s.args.plot.now in
    omega (arith, labels_long p.plot.accepted.scene p.prepared, p.plot.accepted.scene.components.few)

-- a front is no longer than it was asked for
front_few : (n : ℕ) (flags : List Bool) → n ≤ component_limit → length (take n flags) ≤ component_limit
front_few n flags h = omega (arith, length-take n flags)

pub of_flags-requires : goal.of_flags-requires
of_flags-requires c = front_few _ _ (few (goal.at.of_flags-requires c).Start)

pub of_flags-requires-2 : goal.of_flags-requires-2
of_flags-requires-2 c = front_few _ _ (few (goal.at.of_flags-requires-2 c).Start)

pub returns : goal.returns
returns c =
    record {
      regions_is = refl;
      sources_is = refl;
      inputs_is = refl;
      drive_set = set_of_front _ _ _ c.requires.labels_in_bounds.0 c.of_flags.ensures;
      potential_set = set_of_front _ _ _ c.requires.labels_in_bounds.1 c.of_flags-2.ensures;
      cyclic_set = set_same refl (cyclic_by c.args.plot.now.plot.accepted.scene c.args.plot.now.prepared)
          (set_where c.requires.count.0 (set_of_front _ _ _ (omega (arith, c.find_cyclic.auto.flags, c.requires.count.0)) c.of_flags-3.ensures) c.find_cyclic.ensures);
      has_drive_set = set_of_front _ _ _ c.requires.count.1 c.of_flags-4.ensures;
    }
