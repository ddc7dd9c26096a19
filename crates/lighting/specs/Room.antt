-- Room in the two slices that are lent to the pass.
-- Assumes nothing: these are definitions.
use Rattle.std.specs.Prelude.{ℕ, ◌*◌, ◌≤◌, List, length, ℤ}
use Rattle.lists.specs.Records.{component_count}

pub record LitRoom (cs : List ℤ) (regions stack : List ℕ) : Type 0 where
  pub regions_room : component_count cs ≤ length regions
  pub stack_room : 2 * component_count cs ≤ length stack
