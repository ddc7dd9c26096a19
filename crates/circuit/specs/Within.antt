-- Nets lie in fragments: the second of a connection's two unions may be left out where the first finds one root.
--     RootsShared     what has one root in the one forest has one root in the other
-- Assumes nothing: these are definitions.
use Rattle.std.specs.Prelude.{ℕ, ◌<◌, ◌≡◌}
use Rattle.lists.specs.Limits.{component_limit}
use Rattle.circuit.specs.Forest.{Forest, root}

abbrev pub RootsShared : Forest → Forest → Type 0
RootsShared f g = (v w : ℕ) → v < component_limit → w < component_limit → root f v ≡ root f w → root g v ≡ root g w
