-- The order of the source rows (document 01, "liveness.rs"): on every list of components that refusal 4 accepts they ascend by position of
-- the component, then its id, then source kind.
--     Rises               of rows, each with a component that has its id
--     SourcesAscend       the statement
-- The theorem is `sources_ascend` of proofs/Ascends.antt. No contract rests on it.
-- Assumes nothing: these are statements.
use Rattle.std.specs.Prelude.{Option, Some, None, ℕ, ◌*◌, ◌<◌, ◌≡◌, ◌⊎◌, true, List, [], ◌∷◌, ℤ}
use Rattle.lists.specs.Limits.{component_width}
use Rattle.lists.specs.Records.{component, component_count}
use Rattle.lists.specs.Order.{record_before, first_not_ascending, component_order}
use Rattle.assessment.specs.Verdicts.{source_rows}

-- a row of the component at q and a kind may stand behind another: one of a component that comes before it by x, y, z and id, or one of its
-- own with a smaller kind; or at the front
abbrev pub MayFollow : List ℤ → Option (ℕ × ℕ) → ℕ → ℕ → Type 0
MayFollow cs (Some (p, earlier)) q kind =
    (record_before component_order cs (p * component_width) (q * component_width) ≡ true) ⊎ ((p ≡ q) × (earlier < kind))
MayFollow cs None q kind = Unit

-- rows behind one of a component's place and a kind, or all rows
pub data Rises (cs : List ℤ) : Option (ℕ × ℕ) → List ℕ → Type 0 where
  none : {last : Option (ℕ × ℕ)} → Rises cs last []
  row : {last : Option (ℕ × ℕ)} {rows : List ℕ} (q kind : ℕ) → q < component_count cs → MayFollow cs last q kind → Rises cs (Some (q, kind)) rows
      → Rises cs last ((component cs q).id ∷ kind ∷ rows)

abbrev pub SourcesAscend : Type 0
SourcesAscend = (rules : ℕ) (cs ps fs : List ℤ) → first_not_ascending component_order component_width cs ≡ None → Rises cs None (source_rows rules cs ps fs)
