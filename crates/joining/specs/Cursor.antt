-- A merge a record at a time: which list has the next record, so that a writer can print the joined list without a copy of it.
--     merged_from     what is left of the merge after i records of the one list and j of the other
--     side_at         which list has its next record
--     Next            what that says of the merge (theorem `side_next`, proofs/Steps.antt)
--     Moved, StepOf   a step of the merge: the next record, and where the one behind it is
-- Assumes nothing: these are definitions.
use Rattle.std.specs.Prelude.{Option, Some, None, ℕ, ◌+◌, ◌/◌, ◌≤◌, ◌<◌, ◌≡◌, Bool, false, cond, List, [], ◌∷◌, length, get_or, drop, ℤ}
use Rattle.lists.specs.Signed.{at, less_then}
use Rattle.joining.specs.Split.{records_of}
use Rattle.joining.specs.Merge.{comes_before, merge_by}
use Rattle.joining.specs.declared.merging.Side.{Side}
use Rattle.joining.specs.declared.merging.Step.{Step}
use Rattle.joining.specs.declared.merging.Side.TheVariants.{First, Second, Both, Neither}

-- each named field lies within a record of the width
unfoldable pub FieldsBelow : ℕ → List ℕ → Type 0
FieldsBelow width [] = Unit
FieldsBelow width (f ∷ fields) = (f < width) × FieldsBelow width fields

-- the record that starts at i of list a comes strictly before the one that starts at j of list b: `record_before` of two lists
unfoldable pub starts_before : List ℕ → List ℤ → ℕ → List ℤ → ℕ → Bool
starts_before [] a i b j = false
starts_before (f ∷ fields) a i b j = less_then (at a (i + f)) (at b (j + f)) (starts_before fields a i b j)

unfoldable pub merged_from : List ℕ → ℕ → List ℤ → ℕ → List ℤ → ℕ → List (List ℤ)
merged_from fields width a i b j = merge_by (comes_before fields) (drop i (records_of width a)) (drop j (records_of width b))

-- which of two lists has the next record of their merge
abbrev pub side_of : {A : Type 0} → (A → A → Bool) → List A → List A → Side
side_of before [] [] = Neither
side_of before [] (y ∷ ys) = Second
side_of before (x ∷ xs) [] = First
side_of before (x ∷ xs) (y ∷ ys) = cond (before x y) First (cond (before y x) Second Both)

unfoldable pub side_at : List ℕ → ℕ → List ℤ → ℕ → List ℤ → ℕ → Side
side_at fields width a i b j = side_of (comes_before fields) (drop i (records_of width a)) (drop j (records_of width b))

-- what the answer says: which lists have a record left, and what is left of the merge behind its next record
abbrev pub Next : List ℕ → ℕ → List ℤ → ℕ → List ℤ → ℕ → Side → Type 0
Next fields width a i b j First =
    (i < length a / width) × (merged_from fields width a i b j ≡ get_or (records_of width a) i [] ∷ merged_from fields width a (i + 1) b j)
Next fields width a i b j Second =
    (j < length b / width) × (merged_from fields width a i b j ≡ get_or (records_of width b) j [] ∷ merged_from fields width a i b (j + 1))
Next fields width a i b j Both =
    ((i < length a / width) × (j < length b / width))
    × (merged_from fields width a i b j ≡ get_or (records_of width a) i [] ∷ merged_from fields width a (i + 1) b (j + 1))
Next fields width a i b j Neither = merged_from fields width a i b j ≡ []

-- from (i, j) to (i', j') one record of the merge is passed, r
pub record Moved (fields : List ℕ) (w : ℕ) (a : List ℤ) (i : ℕ) (b : List ℤ) (j i' j' : ℕ) (r : List ℤ) : Type 0 where
  pub first_on : i ≤ i'
  pub second_on : j ≤ j'
  pub first_in : i' ≤ length a / w
  pub second_in : j' ≤ length b / w
  pub onward : i + j < i' + j'
  pub wide : length r ≡ w
  pub left : merged_from fields w a i b j ≡ r ∷ merged_from fields w a i' b j'

-- the next record of a merge, or none is left
abbrev pub StepOf : List ℕ → ℕ → List ℤ → ℕ → List ℤ → ℕ → Option Step → Type 0
StepOf fields width a i b j (Some s) = Moved fields width a i b j s.i s.j s.record.now
StepOf fields width a i b j None = merged_from fields width a i b j ≡ []
