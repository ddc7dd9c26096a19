-- The strict orders of components (refusal 4) and of grouping connections (refusal 6).
-- Assumes nothing: these are definitions.
use Rattle.std.specs.Prelude.{Option}
use Rattle.std.specs.Prelude.{ℕ, ◌+◌, ◌*◌, ◌-◌, ◌/◌, Bool, false, not, List, ◌∷◌, [], length, ℤ}
use Rattle.lists.specs.Signed.{at, less_then}
use Rattle.lists.specs.First.{first_from}

-- the record at `a` comes strictly before the one at `b`, by the named fields, the first that differs deciding
unfoldable pub record_before : List ℕ → List ℤ → ℕ → ℕ → Bool
record_before [] list a b = false
record_before (f ∷ fields) list a b = less_then (at list (a + f)) (at list (b + f)) (record_before fields list a b)

-- the first record that does not come strictly after the one before it
unfoldable pub first_not_ascending : List ℕ → ℕ → List ℤ → Option ℕ
first_not_ascending fields width list =
    first_from (λ k. not (record_before fields list ((k - 1) * width) (k * width))) 1 (length list / width - 1)

-- components by x, y, z, id
abbrev pub component_order : List ℕ
component_order = 1 ∷ 2 ∷ 3 ∷ 0 ∷ []

-- grouping connections by source, sink, kind
abbrev pub connection_order : List ℕ
connection_order = 0 ∷ 1 ∷ 2 ∷ []
