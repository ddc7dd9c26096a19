-- What the contracts say of a search: what it asks of the arrays that it is lent, and how they hold the states of `Seek`. The stack is the one
-- that the caller lends, n pairs of a node and a place of its row; it is zero before and after.
-- Assumes nothing: these are definitions.
use Rattle.std.specs.Prelude.{◌≡◌, Bool, List, ℕ, ◌*◌, ◌≤◌, length}
use Rattle.regions.specs.Graph.{Edges}
use Rattle.regions.specs.Search.{Zeros}
use Rattle.driven.specs.Seek as Seek
use Rattle.driven.specs.Seek.{seek, sought, seeking}

-- the state that the flags and the answer hold
abbrev pub search_of : List Bool → Bool → Seek.Search
search_of met stopped = record { met = met; stopped = stopped }

-- what a search asks: the arrays that it is lent are large enough, and the stack is zero
pub record SeekRoom (n : ℕ) (goals met : List Bool) (stack : List ℕ) : Type 0 where
  pub goals_length : length goals ≡ n
  pub met_length : length met ≡ n
  pub stack_room : 2 * n ≤ length stack
  pub stack_zeros : Zeros stack

-- what a search from x does: it is `seek` of a walk that goes on, and it leaves the stack zero
pub record SeeksFrom (n : ℕ) (edge : Edges) (goals : List Bool) (x : ℕ) (met₀ met : List Bool) (stopped : Bool) (stack : List ℕ) : Type 0 where
  pub seeks : search_of met stopped ≡ seek n edge goals n x (seeking met₀)
  pub stack_zeros : Zeros stack

-- what the searches from the starts do
pub record Seeks (n : ℕ) (edge : Edges) (goals starts met : List Bool) (stopped : Bool) (stack : List ℕ) : Type 0 where
  pub seeks : search_of met stopped ≡ sought n edge goals starts
  pub stack_zeros : Zeros stack
