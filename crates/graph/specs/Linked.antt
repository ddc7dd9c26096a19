-- The graph of a list of connections, by the nodes at their ends.
-- Assumes nothing: these are definitions.
use Rattle.std.specs.Prelude.{◌&&◌, List, ℕ, ltb, eqb, length, get_or}
use Rattle.lists.specs.First.{some}
use Rattle.regions.specs.Graph.{Edges}

-- some connection leads from a to b, both below n: one that makes no edge, as a support, has an end of n or more
unfoldable pub linked : ℕ → List ℕ → List ℕ → Edges
linked n sources sinks a b = ltb a n && (ltb b n && some (λ k. eqb (get_or sources k 0) a && eqb (get_or sinks k 0) b) (length sources))
