-- The union of two lists of records.
--     merged_records        the records of a merge are the merge of the records
--     merged_union          a merge is the union, where two records of which neither comes first are the same
--     union_unique          there is no other
--     union_distinct        no record stands twice
--     merged_most, merged_least     it has at most as many records as both together, and at least as many as either
--     union_swap            it does not matter which list is the first
--     merged_self, merged_none, none_merged     with itself, and with no records
-- Assumes nothing.
use Rattle.std.specs.Prelude.{None}
use Prim.Native.Nat.{ℕ, ◌+◌, ◌/◌, ◌%◌, ◌≤◌, ◌<◌}
use native.Mathlib.Nat.{zero-div}
use native.Mathlib.Omega.{arith}
use mathlib.Core.Path.{◌≡◌, refl, sym, ap, ◌∙◌, subst}
use mathlib.Core.Bool.{Bool, false}
use mathlib.Core.List.{List, [], ◌∷◌, Memᴰ}
use mathlib.Core.Logic.{inl, inr, ⊎_elim}
use lib.ListN.{length, get_or}
use lib.IntN.{ℤ}
use Rattle.joining.specs.Cursor.{FieldsBelow}
use Rattle.lists.specs.Order.{first_not_ascending}
use Rattle.joining.specs.Split.{records, records_of, flat}
use Rattle.joining.specs.Merge.{Union, comes_before, merge_by, merged}
use Rattle.lists.proofs.Search.{never}
use Rattle.joining.proofs.Merges.{Agree, rising_at, merge_most, merge_least, Rising, merge_nil, merge_one, has_first, has_second, has_either, merge_rising, rising_unique}
use Rattle.joining.proofs.Splits.{Wide, records_length, has_width, flat_whole, records_flat, flat_records}
use Rattle.joining.proofs.Orders.{before_self, before_step, ascending_rising, rising_ascending}

module _ (fields : List ℕ) (w : ℕ) (positive : 0 < w) (inside : FieldsBelow w fields) where
  pub merged_wide : (a b : List ℤ) → Wide w (merge_by (comes_before fields) (records_of w a) (records_of w b))
  merged_wide a b = record {
    each = λ m. ⊎_elim (λ l. has_width w a l) (λ l. has_width w b l) (has_either (comes_before fields) (records_of w a) (records_of w b) m);
  }

  pub merged_records : (a b : List ℤ) → records_of w (merged fields w a b) ≡ merge_by (comes_before fields) (records_of w a) (records_of w b)
  unfolding merged
  merged_records a b = records_flat w positive (merge_by (comes_before fields) (records_of w a) (records_of w b)) (merged_wide a b)

  pub merged_whole : (a b : List ℤ) → length (merged fields w a b) % w ≡ 0
  unfolding merged
  merged_whole a b = flat_whole w positive (merge_by (comes_before fields) (records_of w a) (records_of w b)) (merged_wide a b)

  pub merged_union : (a b : List ℤ) → first_not_ascending fields w a ≡ None → first_not_ascending fields w b ≡ None
      → Agree (comes_before fields) (records_of w a) (records_of w b) → Union fields w a b (merged fields w a b)
  merged_union a b ea eb g =
      let before = comes_before fields in
      let same = sym (merged_records a b) in
      let u = merged fields w a b in
      record {
        whole = merged_whole a b;
        ascending = rising_ascending w u fields inside
            (subst (Rising before) same (merge_rising before (before_step fields) (records_of w a) (records_of w b) g
            (ascending_rising w a fields inside ea) (ascending_rising w b fields inside eb)));
        of_first = λ r m. subst (Memᴰ r) same (has_first before (records_of w a) (records_of w b) m);
        of_second = λ r m. subst (Memᴰ r) same (has_second before (records_of w a) (records_of w b) g m);
        of_either = λ r m. has_either before (records_of w a) (records_of w b) (subst (Memᴰ r) (sym same) m);
      }

  pub union_unique : {a b u v : List ℤ} → Union fields w a b u → Union fields w a b v → u ≡ v
  union_unique {a} {b} {u} {v} p q =
      let same : records_of w u ≡ records_of w v =
      rising_unique (comes_before fields) (before_step fields) (before_self fields) (records_of w u) (records_of w v)
      (ascending_rising w u fields inside p.ascending) (ascending_rising w v fields inside q.ascending)
      (λ r m. ⊎_elim (q.of_first r) (q.of_second r) (p.of_either r m))
      (λ r m. ⊎_elim (p.of_first r) (p.of_second r) (q.of_either r m)) in
      sym (flat_records w u p.whole) ∙ ap flat same ∙ flat_records w v q.whole

  -- no record stands twice
  pub union_distinct : {a b u : List ℤ} → Union fields w a b u → (j k : ℕ) → j < k → k < length u / w → get_or (records_of w u) j [] ≡ get_or (records_of w u) k [] → ⊥
  union_distinct {a} {b} {u} p j k l h same =
      let less = rising_at (comes_before fields) [] (records_of w u) (ascending_rising w u fields inside p.ascending) j k l (omega (arith, records_length w (length u / w) u)) in
      never (sym (before_self fields (get_or (records_of w u) k [])) ∙ (rw same at less))

  -- how many records there are
  pub merged_most : (a b : List ℤ) → length (merged fields w a b) / w ≤ length a / w + length b / w
  merged_most a b =
      let before = comes_before fields in
      omega (
        arith,
        merge_most before (records_of w a) (records_of w b),
        ap (λ (l : List (List ℤ)). length l) (merged_records a b),
        records_length w (length (merged fields w a b) / w) (merged fields w a b),
        records_length w (length a / w) a,
        records_length w (length b / w) b,
      )

  pub merged_least : (a b : List ℤ) → (length a / w ≤ length (merged fields w a b) / w) × (length b / w ≤ length (merged fields w a b) / w)
  merged_least a b =
      let least = merge_least (comes_before fields) (records_of w a) (records_of w b) in
      let count = ap (λ (l : List (List ℤ)). length l) (merged_records a b) in
      let whole = records_length w (length (merged fields w a b) / w) (merged fields w a b) in
      (omega (arith, least.0, count, whole, records_length w (length a / w) a), omega (arith, least.1, count, whole, records_length w (length b / w) b))

  pub union_swap : {a b u : List ℤ} → Union fields w a b u → Union fields w b a u
  union_swap p = record {
    whole = p.whole;
    ascending = p.ascending;
    of_first = p.of_second;
    of_second = p.of_first;
    of_either = λ r m. ⊎_elim inr inl (p.of_either r m);
  }

-- ---- with itself, and with nothing

merge_self : {A : Type 0} (before : A → A → Bool) → ((x : A) → before x x ≡ false) → (xs : List A) → merge_by before xs xs ≡ xs
merge_self before irreflexive [] = unfold merge_by in refl
merge_self {A} before irreflexive (x ∷ xs) =
    merge_one before x xs x xs (irreflexive x) (irreflexive x) ∙ ap (λ (l : List A). x ∷ l) (merge_self before irreflexive xs)

no_records : (w : ℕ) → records_of w [] ≡ []
unfolding records
no_records w = rw (zero-div w)

module _ (fields : List ℕ) (w : ℕ) (a : List ℤ) (whole : length a % w ≡ 0) where
  pub merged_self : merged fields w a a ≡ a
  unfolding merged
  merged_self = ap flat (merge_self (comes_before fields) (before_self fields) (records_of w a)) ∙ flat_records w a whole

  pub merged_none : merged fields w a [] ≡ a
  unfolding merged
  merged_none = rw (no_records w, merge_nil (comes_before fields) (records_of w a)) (flat_records w a whole)

  pub none_merged : merged fields w [] a ≡ a
  unfolding merged merge_by
  none_merged = rw (no_records w) (flat_records w a whole)
