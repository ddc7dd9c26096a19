-- Answers for the goals that the search leaves.
use mathlib.Core.Path.{◌≡◌, ◌∙◌}
use Prim.Native.Nat.{ℕ, ◌<◌}
use native.Mathlib.Omega.{arith}
use lib.ListN.{length, get_or}
use Rattle.lists.specs.Records.{component_count}
use Rattle.lists.specs.Ids.{id_key}
use Rattle.lists.proofs.Table.{keys_rise, keys_small, table_of}
use Rattle.lists.proofs.ids.id_table.Goals as goal
use Rattle.lists.proofs.ids.id_table.Goals.{After-loop-k}

-- where the loop ends there is a key for each component: the pair of its id and its place
module _ (c : After-loop-k) where
  long : length c.loop-k.keys ≡ component_count c.args.components.numbers.now
  long = c.loop-k.auto.keys ∙ c.requires.0

  each : (k : ℕ) → k < component_count c.args.components.numbers.now → get_or c.loop-k.keys k 0 ≡ id_key c.args.components.numbers.now k
  each k h = c.loop-k.invariant k (omega (arith, c.loop-k-test.false, long))

pub sort_pairs-requires-clause-rising_by : goal.sort_pairs-requires-clause-rising_by
sort_pairs-requires-clause-rising_by c =
    let made = (goal.at.sort_pairs-requires-clause-rising_by c).After-loop-k in
    let within = c.args.components.within in
    (keys_rise _ _ within (long made) (each made), keys_small _ _ within (long made) (each made))

pub returns : goal.returns
returns c =
    let made = (goal.at.returns c).After-loop-k in
    table_of _ (omega (arith, c.args.components.within.few)) (long made) (each made) c.sort_pairs.ensures
