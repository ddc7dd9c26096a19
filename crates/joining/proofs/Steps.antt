-- A merge a record at a time.
--     field_below                                        a named field lies within a record
--     start_less, start_more, start_same, start_done     the order of two records, the fields from k on
--     starts_records                                     it is that of the records
--     side_next                                          what the cursor's answer says of the merge
--     finds_first, finds_second, finds_both              which answer the code finds
--     moved_first, moved_second, moved_both              what a turn of a loop passes
--     lent_first, lent_second, lent_both                 the same, of the record as it is lent
--     moved_flat                                         and what is left as numbers
--     none_left, done_neither                               and when it is done
--     merged_from_start, count_start                     the merge from its start, and how many records it has
-- Assumes nothing.
use Prim.Native.Nat.{ℕ, zero, suc, ◌+◌, ◌-◌, ◌*◌, ◌/◌, ◌≤◌, ◌<◌}
use native.Mathlib.Numerals.{add-one}
use native.Mathlib.Omega.{arith}
use mathlib.Core.Path.{◌≡◌, refl, sym, ap, ◌∙◌, subst}
use mathlib.Core.Bool.{Bool, true, false, cond}
use mathlib.Core.List.{List, [], ◌∷◌, ◌++◌}
use lib.ListN.{length, get_or, take, drop, drop_of_length-le}
use lib.Seq.{drop-cons, drop-length}
use lib.IntN.{ℤ}
use lib.Signed.{lt_z}
use lib.Dec.{ltb}
use borrow.Author.Tests.{ltb-true, ltb-false}
use Rattle.lists.specs.Signed.{at, less_then}
use Rattle.joining.specs.Cursor.{FieldsBelow}
use Rattle.joining.specs.Split.{records_of, flat}
use Rattle.joining.specs.Merge.{comes_before, merge_by, merged}
use Rattle.joining.specs.Cursor.{starts_before, merged_from, side_at, Next, Moved, StepOf}
use Rattle.joining.specs.declared.merging.Step.{Step}
use Rattle.std.specs.Prelude.{Option, Some, None}
use Rattle.joining.specs.declared.merging.Side.TheVariants.{First, Second, Both, Neither}
use Rattle.joining.proofs.Merges.{merge_nil, merge_first, merge_second, merge_one}
use Rattle.joining.proofs.Splits.{records_length, record_at, field_at, record_width, flat_count}
use Rattle.joining.proofs.Unions.{merged_wide}

-- ---- the order of two records

-- a named field lies within a record
pub field_below : (w : ℕ) (fields : List ℕ) → FieldsBelow w fields → (k : ℕ) → k < length fields → get_or fields k 0 < w
unfolding FieldsBelow
field_below w [] inside k h = absurd (omega arith)
field_below w (f ∷ fields) inside zero h = inside.0
field_below w (f ∷ fields) inside (suc k) h = field_below w fields inside.1 k (omega arith)

module _ (fields : List ℕ) (a : List ℤ) (i : ℕ) (b : List ℤ) (j k : ℕ) where
  turn : k < length fields
      → starts_before (drop k fields) a i b j ≡ less_then (at a (i + get_or fields k 0)) (at b (j + get_or fields k 0)) (starts_before (drop (k + 1) fields) a i b j)
  unfolding starts_before
  turn h = rw (add-one k, drop-cons fields k 0 h)

  pub start_less : k < length fields → lt_z (at a (i + get_or fields k 0)) (at b (j + get_or fields k 0)) ≡ true → starts_before (drop k fields) a i b j ≡ true
  start_less h e = turn h ∙ rw e

  pub start_more : k < length fields → lt_z (at a (i + get_or fields k 0)) (at b (j + get_or fields k 0)) ≡ false
      → lt_z (at b (j + get_or fields k 0)) (at a (i + get_or fields k 0)) ≡ true → starts_before (drop k fields) a i b j ≡ false
  start_more h e g = turn h ∙ rw (e, g)

  pub start_same : k < length fields → lt_z (at a (i + get_or fields k 0)) (at b (j + get_or fields k 0)) ≡ false
      → lt_z (at b (j + get_or fields k 0)) (at a (i + get_or fields k 0)) ≡ false → starts_before (drop k fields) a i b j ≡ starts_before (drop (k + 1) fields) a i b j
  start_same h e g = turn h ∙ rw (e, g)

  pub start_done : k ≡ length fields → starts_before (drop k fields) a i b j ≡ false
  unfolding starts_before
  start_done e = rw (e, drop-length)

pub starts_records : (w : ℕ) (a : List ℤ) (i : ℕ) (b : List ℤ) (j : ℕ) → i < length a / w → j < length b / w
    → (fields : List ℕ) → FieldsBelow w fields
    → starts_before fields a (i * w) b (j * w) ≡ comes_before fields (get_or (records_of w a) i []) (get_or (records_of w b) j [])
unfolding FieldsBelow starts_before comes_before
starts_records w a i b j hi hj [] inside = refl
starts_records w a i b j hi hj (f ∷ fields) inside =
    rw (field_at w a i f hi inside.0, field_at w b j f hj inside.0)
    (ap (λ (t : Bool). less_then (at a (i * w + f)) (at b (j * w + f)) t) (starts_records w a i b j hi hj fields inside.1))

-- ---- the records that are left

module _ (w : ℕ) (list : List ℤ) (i : ℕ) where
  left_more : i < length list / w → drop i (records_of w list) ≡ get_or (records_of w list) i [] ∷ drop (i + 1) (records_of w list)
  left_more h = rw (add-one i) (drop-cons (records_of w list) i [] (omega (arith, records_length w (length list / w) list)))

  left_none : length list / w ≤ i → drop i (records_of w list) ≡ []
  left_none h = drop_of_length-le (records_of w list) {i = i} (omega (arith, records_length w (length list / w) list))

-- ---- the cursor

module _ (fields : List ℕ) (w : ℕ) (a : List ℤ) (i : ℕ) (b : List ℤ) (j : ℕ) where
  -- both have a record left
  module _ (hi : i < length a / w) (hj : j < length b / w) where
    pub side_two : side_at fields w a i b j
        ≡ cond (comes_before fields (get_or (records_of w a) i []) (get_or (records_of w b) j [])) First
        (cond (comes_before fields (get_or (records_of w b) j []) (get_or (records_of w a) i [])) Second Both)
    unfolding side_at
    side_two = rw (left_more w a i hi, left_more w b j hj)

    next_two : Next fields w a i b j (side_at fields w a i b j)
    next_two = go (before x y) refl (before y x) refl
      where
        before : List ℤ → List ℤ → Bool
        before = comes_before fields

        x : List ℤ
        x = get_or (records_of w a) i []

        y : List ℤ
        y = get_or (records_of w b) j []

        whole : merged_from fields w a i b j ≡ merge_by before (x ∷ drop (i + 1) (records_of w a)) (y ∷ drop (j + 1) (records_of w b))
        whole = unfold merged_from in rw (left_more w a i hi, left_more w b j hj)

        go : (s : Bool) → before x y ≡ s → (t : Bool) → before y x ≡ t → Next fields w a i b j (side_at fields w a i b j)
        go true e t f =
            subst (Next fields w a i b j) (sym (side_two ∙ ap (λ (u : Bool). cond u First (cond (before y x) Second Both)) e))
            (hi, whole ∙ merge_first before x (drop (i + 1) (records_of w a)) y (drop (j + 1) (records_of w b)) e ∙ (unfold merged_from in rw (left_more w b j hj)))
        go false e true f =
            subst (Next fields w a i b j) (sym (side_two ∙ ap (λ (u : Bool). cond u First (cond (before y x) Second Both)) e ∙ ap (λ (u : Bool). cond u Second Both) f))
            (hj, whole ∙ merge_second before x (drop (i + 1) (records_of w a)) y (drop (j + 1) (records_of w b)) e f ∙ (unfold merged_from in rw (left_more w a i hi)))
        go false e false f =
            subst (Next fields w a i b j) (sym (side_two ∙ ap (λ (u : Bool). cond u First (cond (before y x) Second Both)) e ∙ ap (λ (u : Bool). cond u Second Both) f))
            ((hi, hj), whole ∙ merge_one before x (drop (i + 1) (records_of w a)) y (drop (j + 1) (records_of w b)) e f ∙ (unfold merged_from in refl))

  pub side_left : i < length a / w → length b / w ≤ j → side_at fields w a i b j ≡ First
  unfolding side_at
  side_left hi hj = rw (left_more w a i hi, left_none w b j hj)

  next_left : i < length a / w → length b / w ≤ j → Next fields w a i b j First
  unfolding merged_from
  next_left hi hj =
      (hi, rw (left_none w b j hj, merge_nil (comes_before fields) (drop i (records_of w a)), merge_nil (comes_before fields) (drop (i + 1) (records_of w a))) (left_more w a i hi))

  pub side_right : length a / w ≤ i → j < length b / w → side_at fields w a i b j ≡ Second
  unfolding side_at
  side_right hi hj = rw (left_none w a i hi, left_more w b j hj)

  next_right : length a / w ≤ i → j < length b / w → Next fields w a i b j Second
  unfolding merged_from merge_by
  next_right hi hj = (hj, rw (left_none w a i hi) (left_more w b j hj))

  pub side_done : length a / w ≤ i → length b / w ≤ j → side_at fields w a i b j ≡ Neither
  unfolding side_at
  side_done hi hj = rw (left_none w a i hi, left_none w b j hj)

  next_done : length a / w ≤ i → length b / w ≤ j → Next fields w a i b j Neither
  unfolding merged_from merge_by
  next_done hi hj = rw (left_none w a i hi, left_none w b j hj)

  pub side_next : Next fields w a i b j (side_at fields w a i b j)
  side_next = go (ltb i (length a / w)) refl (ltb j (length b / w)) refl
    where
      go : (s : Bool) → ltb i (length a / w) ≡ s → (t : Bool) → ltb j (length b / w) ≡ t → Next fields w a i b j (side_at fields w a i b j)
      go true e true f = next_two (ltb-true _ _ e) (ltb-true _ _ f)
      go true e false f = subst (Next fields w a i b j) (sym (side_left (ltb-true _ _ e) (ltb-false _ _ f))) (next_left (ltb-true _ _ e) (ltb-false _ _ f))
      go false e true f = subst (Next fields w a i b j) (sym (side_right (ltb-false _ _ e) (ltb-true _ _ f))) (next_right (ltb-false _ _ e) (ltb-true _ _ f))
      go false e false f = subst (Next fields w a i b j) (sym (side_done (ltb-false _ _ e) (ltb-false _ _ f))) (next_done (ltb-false _ _ e) (ltb-false _ _ f))

-- ---- as the code finds it

module _ (fields : List ℕ) (w : ℕ) (inside : FieldsBelow w fields) (a : List ℤ) (i : ℕ) (b : List ℤ) (j : ℕ) (hi : i < length a / w) (hj : j < length b / w) where
  pub finds_first : starts_before fields a (i * w) b (j * w) ≡ true → First ≡ side_at fields w a i b j
  finds_first e =
      let p = sym (starts_records w a i b j hi hj fields inside) ∙ e in
      sym (side_two fields w a i b j hi hj ∙ rw p)

  pub finds_second : starts_before fields a (i * w) b (j * w) ≡ false → starts_before fields b (j * w) a (i * w) ≡ true → Second ≡ side_at fields w a i b j
  finds_second e f =
      let p = sym (starts_records w a i b j hi hj fields inside) ∙ e in
      let q = sym (starts_records w b j a i hj hi fields inside) ∙ f in
      sym (side_two fields w a i b j hi hj ∙ rw (p, q))

  pub finds_both : starts_before fields a (i * w) b (j * w) ≡ false → starts_before fields b (j * w) a (i * w) ≡ false → Both ≡ side_at fields w a i b j
  finds_both e f =
      let p = sym (starts_records w a i b j hi hj fields inside) ∙ e in
      let q = sym (starts_records w b j a i hj hi fields inside) ∙ f in
      sym (side_two fields w a i b j hi hj ∙ rw (p, q))

-- ---- a turn of a loop over the merge

module _ (fields : List ℕ) (w : ℕ) (a : List ℤ) (i : ℕ) (b : List ℤ) (j i' j' : ℕ) (hi : i ≤ length a / w) (hj : j ≤ length b / w) where
  pub moved_first : First ≡ side_at fields w a i b j → i' ≡ i + 1 → j' ≡ j → Moved fields w a i b j i' j' (get_or (records_of w a) i [])
  moved_first e ei ej =
      let n : Next fields w a i b j First = subst (Next fields w a i b j) (sym e) (side_next fields w a i b j) in
      record {
        first_on = omega arith;
        second_on = omega arith;
        first_in = omega (arith, n.0);
        second_in = omega arith;
        onward = omega arith;
        wide = record_width w a i n.0;
        left = rw (ei, ej) n.1;
      }

  pub moved_second : Second ≡ side_at fields w a i b j → i' ≡ i → j' ≡ j + 1 → Moved fields w a i b j i' j' (get_or (records_of w b) j [])
  moved_second e ei ej =
      let n : Next fields w a i b j Second = subst (Next fields w a i b j) (sym e) (side_next fields w a i b j) in
      record {
        first_on = omega arith;
        second_on = omega arith;
        first_in = omega arith;
        second_in = omega (arith, n.0);
        onward = omega arith;
        wide = record_width w b j n.0;
        left = rw (ei, ej) n.1;
      }

  pub moved_both : Both ≡ side_at fields w a i b j → i' ≡ i + 1 → j' ≡ j + 1 → Moved fields w a i b j i' j' (get_or (records_of w a) i [])
  moved_both e ei ej =
      let n : Next fields w a i b j Both = subst (Next fields w a i b j) (sym e) (side_next fields w a i b j) in
      record {
        first_on = omega arith;
        second_on = omega arith;
        first_in = omega (arith, n.0.0);
        second_in = omega (arith, n.0.1);
        onward = omega arith;
        wide = record_width w a i n.0.0;
        left = rw (ei, ej) n.1;
      }

-- the records that an answer names lie within their lists
pub first_within : (fields : List ℕ) (w : ℕ) (a : List ℤ) (i : ℕ) (b : List ℤ) (j : ℕ) → First ≡ side_at fields w a i b j → i < length a / w
first_within fields w a i b j e = let n : Next fields w a i b j First = subst (Next fields w a i b j) (sym e) (side_next fields w a i b j) in n.0

pub second_within : (fields : List ℕ) (w : ℕ) (a : List ℤ) (i : ℕ) (b : List ℤ) (j : ℕ) → Second ≡ side_at fields w a i b j → j < length b / w
second_within fields w a i b j e = let n : Next fields w a i b j Second = subst (Next fields w a i b j) (sym e) (side_next fields w a i b j) in n.0

pub both_within : (fields : List ℕ) (w : ℕ) (a : List ℤ) (i : ℕ) (b : List ℤ) (j : ℕ) → Both ≡ side_at fields w a i b j → (i < length a / w) × (j < length b / w)
both_within fields w a i b j e = let n : Next fields w a i b j Both = subst (Next fields w a i b j) (sym e) (side_next fields w a i b j) in n.0

-- the record as the code lends it
pub lent_record : (w : ℕ) (a : List ℤ) (i : ℕ) → i < length a / w → get_or (records_of w a) i [] ≡ take (i * w + w - i * w) (drop (i * w) a)
lent_record w a i h =
    let e : i * w + w - i * w ≡ w = omega arith in
    rw e (record_at w (length a / w) a i h)

module _ (fields : List ℕ) (w : ℕ) (a : List ℤ) (i : ℕ) (b : List ℤ) (j : ℕ) (hi : i ≤ length a / w) (hj : j ≤ length b / w) where
  pub lent_first : First ≡ side_at fields w a i b j → Moved fields w a i b j (i + 1) j (take (i * w + w - i * w) (drop (i * w) a))
  lent_first e =
      subst (Moved fields w a i b j (i + 1) j) (lent_record w a i (first_within fields w a i b j e)) (moved_first fields w a i b j (i + 1) j hi hj e refl refl)

  pub lent_second : Second ≡ side_at fields w a i b j → Moved fields w a i b j i (j + 1) (take (j * w + w - j * w) (drop (j * w) b))
  lent_second e =
      subst (Moved fields w a i b j i (j + 1)) (lent_record w b j (second_within fields w a i b j e)) (moved_second fields w a i b j i (j + 1) hi hj e refl refl)

  pub lent_both : Both ≡ side_at fields w a i b j → Moved fields w a i b j (i + 1) (j + 1) (take (i * w + w - i * w) (drop (i * w) a))
  lent_both e =
      subst (Moved fields w a i b j (i + 1) (j + 1)) (lent_record w a i (both_within fields w a i b j e).0) (moved_both fields w a i b j (i + 1) (j + 1) hi hj e refl refl)

-- the numbers that are left: those of the record that is passed, and then the rest
pub moved_flat : {fields : List ℕ} {w : ℕ} {a : List ℤ} {i : ℕ} {b : List ℤ} {j i' j' : ℕ} {r : List ℤ} → Moved fields w a i b j i' j' r
    → flat (merged_from fields w a i b j) ≡ r ++ flat (merged_from fields w a i' b j')
unfolding flat
moved_flat m = ap flat m.left

pub done_neither : (fields : List ℕ) (w : ℕ) (a : List ℤ) (i : ℕ) (b : List ℤ) (j : ℕ) → Neither ≡ side_at fields w a i b j → merged_from fields w a i b j ≡ []
done_neither fields w a i b j e = subst (Next fields w a i b j) (sym e) (side_next fields w a i b j)

-- where no step is left, no record is
pub none_left : (fields : List ℕ) (w : ℕ) (a : List ℤ) (i : ℕ) (b : List ℤ) (j : ℕ) (r : Option Step) → StepOf fields w a i b j r → r ≡ None
    → merged_from fields w a i b j ≡ []
none_left fields w a i b j None e f = e
none_left fields w a i b j (Some s) m f = cc

-- ---- from the start

pub merged_from_start : (fields : List ℕ) (w : ℕ) (a b : List ℤ) → merged fields w a b ≡ flat (merged_from fields w a 0 b 0)
unfolding merged merged_from
merged_from_start fields w a b = refl

pub count_start : (fields : List ℕ) (w : ℕ) → 0 < w → FieldsBelow w fields → (a b : List ℤ)
    → length (merged_from fields w a 0 b 0) ≡ length (merged fields w a b) / w
unfolding merged merged_from
count_start fields w positive inside a b = sym (flat_count w positive (merge_by (comes_before fields) (records_of w a) (records_of w b)) (merged_wide fields w positive inside a b))
