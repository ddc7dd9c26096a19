-- "Components that shared a net or fragment in either half share one in the whole" (R-9). Places shift when plots are joined, so components
-- are named by their ids.
--     Stands            place v' of the whole has the component at place v of the half
--     Kept              each component of the half stands in the whole, and those of one net or fragment are of one there
-- Theorem `join_keeps` (proofs/Kept.antt).
-- Assumes nothing: these are definitions.
use Rattle.std.specs.Prelude.{ℕ, ◌<◌, ◌≡◌, get_or}
use Rattle.lists.specs.Records.{component, component_count}
use Rattle.circuit.specs.Topology.{nets_of, fragments_of}
use Rattle.joining.specs.Plot.{Plot}

-- the numbers of the net and of the fragment of the component at a place
abbrev pub net_at : Plot → ℕ → ℕ
net_at p v = get_or (nets_of p.components p.connections) v 0

abbrev pub fragment_at : Plot → ℕ → ℕ
fragment_at p v = get_or (fragments_of p.components p.connections) v 0

-- v is a place of the half, v' one of the whole, and their components have one id
pub record Stands (half whole : Plot) (v v' : ℕ) : Type 0 where
  pub in_half : v < component_count half.components
  pub in_whole : v' < component_count whole.components
  pub id : (component whole.components v').id ≡ (component half.components v).id

pub record Kept (half whole : Plot) : Type 0 where
  -- each component stands in the whole, with all its fields
  pub place : (v : ℕ) → v < component_count half.components → (v' : ℕ) × Stands half whole v v'
  pub fields : (v v' : ℕ) → Stands half whole v v' → component whole.components v' ≡ component half.components v
  -- what shared a net or a fragment shares one
  pub nets : (v v' w w' : ℕ) → Stands half whole v v' → Stands half whole w w' → net_at half v ≡ net_at half w → net_at whole v' ≡ net_at whole w'
  pub fragments : (v v' w w' : ℕ) → Stands half whole v v' → Stands half whole w w' → fragment_at half v ≡ fragment_at half w → fragment_at whole v' ≡ fragment_at whole w'
