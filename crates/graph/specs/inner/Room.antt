-- What a walk over rows asks of the arrays that it is lent. What it leaves in them is said in the crate `regions` (Search).
-- Assumes nothing: these are definitions.
use Rattle.std.specs.Prelude.{◌≡◌, Bool, List, ℕ, ◌*◌, ◌^◌, ◌≤◌, length}
use Rattle.regions.specs.Search.{Zeros}

-- a node, a place of a row and a region's number have 16 bits
abbrev pub narrow : ℕ
narrow = 2 ^ 16

-- a flag and a place of the order for each node, and two numbers of the stack, which is zero
pub record Room (n : ℕ) (visited : List Bool) (order stack : List ℕ) : Type 0 where
  pub nodes : n ≤ narrow
  pub visited_length : length visited ≡ n
  pub order_room : n ≤ length order
  pub stack_room : 2 * n ≤ length stack
  pub stack_zeros : Zeros stack
