-- The union of two ascending lists of records (R-9: "A component given in both with equal fields stands once. Connections are united").
--     Union           what it is: an ascending list whose records are exactly those of either list
--     merged          the list: a merge, which takes the record that comes first, and one of two that neither comes before the other
-- Theorems (proofs/Unions.antt): `merged` is a Union wherever two records of which neither comes first are the same (`merged_union`), and
-- no other list is (`union_unique`).
-- Assumes nothing: these are definitions.
use Rattle.std.specs.Prelude.{None, ℕ, ◌%◌, ◌≡◌, Bool, false, cond, ◌⊎◌, length, ℤ}
use mathlib.Core.List.{List, [], ◌∷◌, Memᴰ}
use Rattle.lists.specs.Signed.{at, less_then}
use Rattle.lists.specs.Order.{first_not_ascending}
use Rattle.joining.specs.Split.{records_of, flat}

-- the list has the record
abbrev pub Has : ℕ → List ℤ → List ℤ → Type 0
Has width list r = Memᴰ r (records_of width list)

-- u is the union of a and b: whole records, each strictly after the one before it, those of a, those of b and no others
pub record Union (fields : List ℕ) (width : ℕ) (a b u : List ℤ) : Type 0 where
  pub whole : length u % width ≡ 0
  pub ascending : first_not_ascending fields width u ≡ None
  pub of_first : (r : List ℤ) → Has width a r → Has width u r
  pub of_second : (r : List ℤ) → Has width b r → Has width u r
  pub of_either : (r : List ℤ) → Has width u r → Has width a r ⊎ Has width b r

-- ---- the list

-- record r comes strictly before record s, by the named fields, the first that differs deciding: `record_before` of two records
unfoldable pub comes_before : List ℕ → List ℤ → List ℤ → Bool
comes_before [] r s = false
comes_before (f ∷ fields) r s = less_then (at r f) (at s f) (comes_before fields r s)

-- the first list is x and then xs; `rest` merges xs with what is left of the second
unfoldable pub weave : {A : Type 0} → (A → A → Bool) → A → List A → (List A → List A) → List A → List A
weave before x xs rest [] = x ∷ xs
weave before x xs rest (y ∷ ys) =
    cond (before x y) (x ∷ rest (y ∷ ys))
    (cond (before y x) (y ∷ weave before x xs rest ys)
    (x ∷ rest ys))

-- a merge: of the two first records the one that comes before the other goes first; where neither does, it goes once
unfoldable pub merge_by : {A : Type 0} → (A → A → Bool) → List A → List A → List A
merge_by before [] ys = ys
merge_by before (x ∷ xs) ys = weave before x xs (λ zs. merge_by before xs zs) ys

-- the merge of two lists of numbers, by the records' order
unfoldable pub merged : List ℕ → ℕ → List ℤ → List ℤ → List ℤ
merged fields width a b = flat (merge_by (comes_before fields) (records_of width a) (records_of width b))
