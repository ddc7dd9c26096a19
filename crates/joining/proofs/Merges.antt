-- Laws of a merge, for elements of any type in any order.
--     both_lists                       induction over two lists
--     merge_nil, merge_first, merge_second, merge_one      the merge, an element at a time
--     has_first, has_second, has_either                    its elements are those of either list
--     merge_most, merge_least          how many elements it has at most and at least
--     Rising, merge_rising             it ascends where both lists do
--     rising_unique                    ascending lists with the same elements are the same list
--     has_at, at_has                   an element of a list, and its place
--     rising_at, neighbours_rising     ascending at any two places, and at neighbours
-- Assumes nothing.
use Prim.Native.Nat.{ℕ, zero, suc, ◌+◌, ◌≤◌, ◌<◌}
use native.Mathlib.Nat.{le_of_suc-le-suc, not-suc-le-zero}
use native.Mathlib.Omega.{arith}
use mathlib.Core.Path.{◌≡◌, refl, sym, ◌∙◌, subst}
use mathlib.Core.Bool.{Bool, true, false}
use mathlib.Core.List.Memᴰ
use mathlib.Core.List.{List, [], ◌∷◌, Memᴰ}
use mathlib.Core.Logic.{◌⊎◌, inl, inr, ⊎_elim}
use lib.ListN.{length, get_or}
use Rattle.lists.proofs.Search.{never}
use Rattle.joining.specs.Merge.{weave, merge_by}

-- ---- elements and places

module _ {A : Type 0} (d : A) where
  later : {x y : A} (l : List A) → (k : ℕ) × (k < length l) × (get_or l k d ≡ x) → (k : ℕ) × (k < length (y ∷ l)) × (get_or (y ∷ l) k d ≡ x)
  later l (k, h, e) = (suc k, omega arith, e)

  pub has_at : {x : A} (l : List A) → Memᴰ x l → (k : ℕ) × (k < length l) × (get_or l k d ≡ x)
  has_at {x} [] m = absurd (Memᴰ.not-nil m)
  has_at {x} (y ∷ l) m =
      ⊎_elim
      (λ (e : x ≡ y). (zero, omega arith, sym e))
      (λ n. later l (has_at l n))
      (Memᴰ.cases_cons m)

  pub at_has : (l : List A) (k : ℕ) → k < length l → Memᴰ (get_or l k d) l
  at_has [] k h = absurd (not-suc-le-zero h)
  at_has (y ∷ l) zero h = Memᴰ.head refl
  at_has (y ∷ l) (suc k) h = Memᴰ.tail (at_has l k (le_of_suc-le-suc h))

-- ---- two lists

pub both_lists : {A : Type 0} (P : List A → List A → Type 0) → ((ys : List A) → P [] ys) → ((x : A) (xs : List A) → P (x ∷ xs) [])
    → ((x : A) (xs : List A) (y : A) (ys : List A) → P xs (y ∷ ys) → P (x ∷ xs) ys → P xs ys → P (x ∷ xs) (y ∷ ys))
    → (xs ys : List A) → P xs ys
both_lists P none left step [] ys = none ys
both_lists {A} P none left step (x ∷ xs) ys = go (λ zs. both_lists P none left step xs zs) ys
  where
    go : ((zs : List A) → P xs zs) → (zs : List A) → P (x ∷ xs) zs
    go rest [] = left x xs
    go rest (z ∷ zs) = step x xs z zs (rest (z ∷ zs)) (go rest zs) (rest zs)

-- ---- a merge

module _ {A : Type 0} (before : A → A → Bool) where
  pub merge_nil : (xs : List A) → merge_by before xs [] ≡ xs
  unfolding merge_by weave
  merge_nil [] = refl
  merge_nil (x ∷ xs) = refl

  module _ (x : A) (xs : List A) (y : A) (ys : List A) where
    pub merge_first : before x y ≡ true → merge_by before (x ∷ xs) (y ∷ ys) ≡ x ∷ merge_by before xs (y ∷ ys)
    unfolding merge_by weave
    merge_first e = rw e

    pub merge_second : before x y ≡ false → before y x ≡ true → merge_by before (x ∷ xs) (y ∷ ys) ≡ y ∷ merge_by before (x ∷ xs) ys
    unfolding merge_by weave
    merge_second e f = rw (e, f)

    pub merge_one : before x y ≡ false → before y x ≡ false → merge_by before (x ∷ xs) (y ∷ ys) ≡ x ∷ merge_by before xs ys
    unfolding merge_by weave
    merge_one e f = rw (e, f)

  -- the three ways of one step
  pub record Step (x : A) (xs : List A) (y : A) (ys : List A) (P : List A → Type 0) : Type 0 where
    pub first : before x y ≡ true → P (x ∷ merge_by before xs (y ∷ ys))
    pub second : before x y ≡ false → before y x ≡ true → P (y ∷ merge_by before (x ∷ xs) ys)
    pub one : before x y ≡ false → before y x ≡ false → P (x ∷ merge_by before xs ys)

  pub by_step : {x : A} {xs : List A} {y : A} {ys : List A} (P : List A → Type 0) → Step x xs y ys P → P (merge_by before (x ∷ xs) (y ∷ ys))
  by_step {x} {xs} {y} {ys} P s = go (before x y) refl (before y x) refl
    where
      go : (t : Bool) → before x y ≡ t → (u : Bool) → before y x ≡ u → P (merge_by before (x ∷ xs) (y ∷ ys))
      go true e u f = subst P (sym (merge_first x xs y ys e)) (s.first e)
      go false e true f = subst P (sym (merge_second x xs y ys e f)) (s.second e f)
      go false e false f = subst P (sym (merge_one x xs y ys e f)) (s.one e f)

  -- ---- its elements

  pub has_first : {z : A} (xs ys : List A) → Memᴰ z xs → Memᴰ z (merge_by before xs ys)
  has_first {z} = both_lists (λ xs ys. Memᴰ z xs → Memᴰ z (merge_by before xs ys))
      (λ ys m. absurd (Memᴰ.not-nil m))
      (λ x xs m. rw (merge_nil (x ∷ xs)) m)
      (λ x xs y ys left right both m.
      by_step (λ l. Memᴰ z l) (record {
        first = λ e. ⊎_elim (λ (s : z ≡ x). Memᴰ.head s) (λ n. Memᴰ.tail (left n)) (Memᴰ.cases_cons m);
        second = λ e f. Memᴰ.tail (right m);
        one = λ e f. ⊎_elim (λ (s : z ≡ x). Memᴰ.head s) (λ n. Memᴰ.tail (both n)) (Memᴰ.cases_cons m);
      }))

  -- of each element of the one list and each of the other, one comes before the other, or they are the same
  pub record Agree (xs ys : List A) : Type 0 where
    pub same : {x y : A} → Memᴰ x xs → Memᴰ y ys → before x y ≡ false → before y x ≡ false → x ≡ y

  agree_left : {x : A} {xs ys : List A} → Agree (x ∷ xs) ys → Agree xs ys
  agree_left g = record { same = λ m n. g.same (Memᴰ.tail m) n }

  agree_right : {y : A} {xs ys : List A} → Agree xs (y ∷ ys) → Agree xs ys
  agree_right g = record { same = λ m n. g.same m (Memᴰ.tail n) }

  pub has_second : {z : A} (xs ys : List A) → Agree xs ys → Memᴰ z ys → Memᴰ z (merge_by before xs ys)
  has_second {z} = both_lists (λ xs ys. Agree xs ys → Memᴰ z ys → Memᴰ z (merge_by before xs ys))
      (λ ys g m. unfold merge_by in m)
      (λ x xs g m. absurd (Memᴰ.not-nil m))
      (λ x xs y ys left right both g m.
      by_step (λ l. Memᴰ z l) (record {
        first = λ e. Memᴰ.tail (left (agree_left g) m);
        second = λ e f. ⊎_elim (λ (s : z ≡ y). Memᴰ.head s) (λ n. Memᴰ.tail (right (agree_right g) n)) (Memᴰ.cases_cons m);
        one = λ e f.
            ⊎_elim
            (λ (s : z ≡ y). Memᴰ.head (s ∙ sym (g.same (Memᴰ.head refl) (Memᴰ.head refl) e f)))
            (λ n. Memᴰ.tail (both (agree_left (agree_right g)) n))
            (Memᴰ.cases_cons m);
      }))

  pub has_either : {z : A} (xs ys : List A) → Memᴰ z (merge_by before xs ys) → Memᴰ z xs ⊎ Memᴰ z ys
  has_either {z} = both_lists (λ xs ys. Memᴰ z (merge_by before xs ys) → Memᴰ z xs ⊎ Memᴰ z ys)
      (λ ys m. inr (unfold merge_by in m))
      (λ x xs m. inl (rw (merge_nil (x ∷ xs)) at m))
      (λ x xs y ys left right both.
      by_step (λ l. Memᴰ z l → Memᴰ z (x ∷ xs) ⊎ Memᴰ z (y ∷ ys)) (record {
        first = λ e m. ⊎_elim (λ (s : z ≡ x). inl (Memᴰ.head s)) (λ n. ⊎_elim (λ a. inl (Memᴰ.tail a)) (λ b. inr b) (left n)) (Memᴰ.cases_cons m);
        second = λ e f m. ⊎_elim (λ (s : z ≡ y). inr (Memᴰ.head s)) (λ n. ⊎_elim (λ a. inl a) (λ b. inr (Memᴰ.tail b)) (right n)) (Memᴰ.cases_cons m);
        one = λ e f m. ⊎_elim (λ (s : z ≡ x). inl (Memᴰ.head s)) (λ n. ⊎_elim (λ a. inl (Memᴰ.tail a)) (λ b. inr (Memᴰ.tail b)) (both n)) (Memᴰ.cases_cons m);
      }))

  -- ---- how many there are

  pub merge_most : (xs ys : List A) → length (merge_by before xs ys) ≤ length xs + length ys
  merge_most = both_lists (λ xs ys. length (merge_by before xs ys) ≤ length xs + length ys)
      (λ ys. unfold merge_by in omega arith)
      (λ x xs. rw (merge_nil (x ∷ xs)) (omega arith))
      (λ x xs y ys left right both.
      by_step (λ l. length l ≤ length (x ∷ xs) + length (y ∷ ys)) (record {
        first = λ e. omega arith;
        second = λ e f. omega arith;
        one = λ e f. omega arith;
      }))

  pub merge_least : (xs ys : List A) → (length xs ≤ length (merge_by before xs ys)) × (length ys ≤ length (merge_by before xs ys))
  merge_least = both_lists (λ xs ys. (length xs ≤ length (merge_by before xs ys)) × (length ys ≤ length (merge_by before xs ys)))
      (λ ys. unfold merge_by in (omega arith, omega arith))
      (λ x xs. rw (merge_nil (x ∷ xs)) (omega arith, omega arith))
      (λ x xs y ys left right both.
      by_step (λ l. (length (x ∷ xs) ≤ length l) × (length (y ∷ ys) ≤ length l)) (record {
        first = λ e. (omega arith, omega arith);
        second = λ e f. (omega arith, omega arith);
        one = λ e f. (omega arith, omega arith);
      }))

  -- ---- ascending lists

  -- x comes before every element
  pub record Under (x : A) (l : List A) : Type 0 where
    pub all : {z : A} → Memᴰ z l → before x z ≡ true

  pub data Rising : List A → Type 0 where
    none : Rising []
    more : {x : A} {l : List A} → Under x l → Rising l → Rising (x ∷ l)

  pub rising_head : {x : A} {l : List A} → Rising (x ∷ l) → Under x l
  rising_head (more u r) = u

  pub rising_tail : {x : A} {l : List A} → Rising (x ∷ l) → Rising l
  rising_tail (more u r) = r

  pub rising_at : (d : A) (l : List A) → Rising l → (j k : ℕ) → j < k → k < length l → before (get_or l j d) (get_or l k d) ≡ true
  rising_at d [] r j k p q = absurd (not-suc-le-zero q)
  rising_at d (x ∷ l) r zero zero p q = absurd (not-suc-le-zero p)
  rising_at d (x ∷ l) r zero (suc k) p q = (rising_head r).all (at_has d l k (le_of_suc-le-suc q))
  rising_at d (x ∷ l) r (suc j) zero p q = absurd (not-suc-le-zero p)
  rising_at d (x ∷ l) r (suc j) (suc k) p q = rising_at d l (rising_tail r) j k (le_of_suc-le-suc p) (le_of_suc-le-suc q)

  module _ (step : (x y z : A) → before x y ≡ true → before y z ≡ true → before x z ≡ true) where
    pub neighbours_rising : (d : A) (l : List A) → ((k : ℕ) → suc k < length l → before (get_or l k d) (get_or l (suc k) d) ≡ true) → Rising l
    neighbours_rising d [] h = none
    neighbours_rising d (x ∷ []) h = more (record { all = λ m. absurd (Memᴰ.not-nil m) }) none
    neighbours_rising d (x ∷ (y ∷ l)) h =
        let r = neighbours_rising d (y ∷ l) (λ k q. h (suc k) (omega arith)) in
        let e = h zero (omega arith) in
        more (record {
          all = λ {z} m. ⊎_elim (λ (s : z ≡ y). rw s e) (λ n. step x y z e ((rising_head r).all n)) (Memᴰ.cases_cons m);
        }) r

    pub merge_rising : (xs ys : List A) → Agree xs ys → Rising xs → Rising ys → Rising (merge_by before xs ys)
    merge_rising = both_lists (λ xs ys. Agree xs ys → Rising xs → Rising ys → Rising (merge_by before xs ys))
        (λ ys g r s. unfold merge_by in s)
        (λ x xs g r s. rw (merge_nil (x ∷ xs)) r)
        (λ x xs y ys left right both g r s.
        by_step (λ l. Rising l) (record {
          first = λ e. more (record {
            all = λ {z} m.
                ⊎_elim
                (λ a. (rising_head r).all a)
                (λ b. ⊎_elim (λ (t : z ≡ y). rw t e) (λ n. step x y z e ((rising_head s).all n)) (Memᴰ.cases_cons b))
                (has_either xs (y ∷ ys) m);
          }) (left (agree_left g) (rising_tail r) s);
          second = λ e f. more (record {
            all = λ {z} m.
                ⊎_elim
                (λ a. ⊎_elim (λ (t : z ≡ x). rw t f) (λ n. step y x z f ((rising_head r).all n)) (Memᴰ.cases_cons a))
                (λ b. (rising_head s).all b)
                (has_either (x ∷ xs) ys m);
          }) (right (agree_right g) r (rising_tail s));
          one = λ e f. more (record {
            all = λ {z} m.
                let t = g.same (Memᴰ.head refl) (Memᴰ.head refl) e f in
                ⊎_elim
                (λ a. (rising_head r).all a)
                (λ b. rw t ((rising_head s).all b))
                (has_either xs ys m);
          }) (both (agree_left (agree_right g)) (rising_tail r) (rising_tail s));
        }))

    module _ (irreflexive : (x : A) → before x x ≡ false) where
      not_both : {X : Type 0} (x y : A) → before x y ≡ true → before y x ≡ true → X
      not_both x y e f = never (sym (irreflexive x) ∙ step x y x e f)

      not_self : {X : Type 0} {x y : A} → x ≡ y → before x y ≡ true → X
      not_self {X} {x} {y} s e = never (sym (irreflexive y) ∙ (rw s at e))

      -- two ascending lists with the same elements are the same list
      pub rising_unique : (xs ys : List A) → Rising xs → Rising ys
          → ((z : A) → Memᴰ z xs → Memᴰ z ys) → ((z : A) → Memᴰ z ys → Memᴰ z xs) → xs ≡ ys
      rising_unique [] [] r s to from = refl
      rising_unique [] (y ∷ ys) r s to from = absurd (Memᴰ.not-nil (from y (Memᴰ.head refl)))
      rising_unique (x ∷ xs) [] r s to from = absurd (Memᴰ.not-nil (to x (Memᴰ.head refl)))
      rising_unique (x ∷ xs) (y ∷ ys) r s to from =
          let same : x ≡ y =
          ⊎_elim
          (λ (e : x ≡ y). e)
          (λ m. ⊎_elim (λ (e : y ≡ x). sym e) (λ n. not_both x y ((rising_head r).all n) ((rising_head s).all m)) (Memᴰ.cases_cons (from y (Memᴰ.head refl))))
          (Memᴰ.cases_cons (to x (Memᴰ.head refl))) in
          let rest = rising_unique xs ys (rising_tail r) (rising_tail s)
          (λ z m. ⊎_elim (λ (e : z ≡ y). not_self (same ∙ sym e) ((rising_head r).all m)) (λ n. n) (Memᴰ.cases_cons (to z (Memᴰ.tail m))))
          (λ z m. ⊎_elim (λ (e : z ≡ x). not_self (sym same ∙ sym e) ((rising_head s).all m)) (λ n. n) (Memᴰ.cases_cons (from z (Memᴰ.tail m)))) in
          cc
