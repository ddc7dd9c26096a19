-- What the contracts of the stages say: what each leaves in its arrays.
-- Assumes nothing: these are definitions.
use Rattle.std.specs.Prelude.{ℕ, ◌*◌, ◌≤◌, ◌≡◌, Bool, List, length}
use Rattle.lists.specs.Limits.{component_limit}
use Rattle.regions.specs.Graph.{Edges, marked}
use Rattle.regions.specs.Search.{Zeros}
use Rattle.liveness.specs.Sets.{SetWhere}
use Rattle.driven.specs.Seek.{sought}
use Rattle.driven.specs.declared.DrivenInput.{DrivenInput}

-- what a search asks of the arrays, of n nodes
pub record SearchRoom (n : ℕ) (starts goals : List Bool) (stack : List ℕ) : Type 0 where
  pub few : n ≤ component_limit
  pub starts_room : length starts ≡ n
  pub goals_room : length goals ≡ n
  pub stack_room : 2 * n ≤ length stack
  pub stack_zeros : Zeros stack

-- the answer of a search; the stack is zero again
pub record Upstream (n : ℕ) (edge : Edges) (goals starts : List Bool) (stack : List ℕ) (r : DrivenInput) : Type 0 where
  pub driven_is : r.driven ≡ (sought n edge goals starts).stopped
  pub met_set : SetWhere n (marked (sought n edge goals starts).met) r.met.words
  pub stack_zeros : Zeros stack
