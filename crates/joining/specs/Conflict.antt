-- 14: one id has unequal fields (R-9, A-116): "the earliest component of the second sheet whose id the first has with other fields".
-- Assumes nothing: these are definitions.
use Rattle.std.specs.Prelude.{Option, Some, None, ℕ, ◌+◌, ◌*◌, Bool, false, not, List, ℤ}
use Rattle.lists.specs.Limits.{component_width}
use Rattle.lists.specs.Signed.{at, eq_z}
use Rattle.lists.specs.First.{first_from, all_from}
use Rattle.lists.specs.Records.{component, component_count}
use Rattle.lists.specs.Ids.{place_of}

-- record i of list a and record j of list b have the same number in each field
unfoldable pub same_record : ℕ → List ℤ → ℕ → List ℤ → ℕ → Bool
same_record width a i b j = all_from (λ f. eq_z (at a (i * width + f)) (at b (j * width + f))) 0 width

-- component k of the second list differs from the component of the first that was found
abbrev pub differs_from : List ℤ → List ℤ → ℕ → Option ℕ → Bool
differs_from first second k (Some p) = not (same_record component_width first p second k)
differs_from first second k None = false

-- the first list has its id, with other fields
abbrev pub conflicts : List ℤ → List ℤ → ℕ → Bool
conflicts first second k = differs_from first second k (place_of first (component second k).id)

-- the earliest such component of the second list
unfoldable pub first_conflict : List ℤ → List ℤ → Option ℕ
first_conflict first second = first_from (conflicts first second) 0 (component_count second)
