-- The items below n that pass a test, in order.
--     items_yes, items_no           one item more
--     build                         what holds of none and of one more holds of all
--     Passes, passes                each is below n and passes, and they are no more than n
--     times_once                    each that passes stands among them once
--     same_items, none_pass         by equal tests; where none passes
--     first_passing                 the first that passes stands first
--     interleaved                   those that pass and those that do not
-- Assumes nothing.
use mathlib.Core.Path.{◌≡◌, refl, sym, ap, subst, ◌∙◌}
use mathlib.Core.Bool.{Bool, true, false, not, cond, ◌&&◌}
use mathlib.Core.List.{List, [], append-nil, ◌∷◌, ◌++◌}
use mathlib.Core.Logic.{⊎_elim}
use Prim.Native.Nat.{ℕ, zero, suc, ◌+◌, ◌≤◌, ◌<◌}
use native.Mathlib.Nat.{zero-add, add-zero, eq-or-lt_of_le}
use native.Mathlib.Numerals.{add-one}
use native.Mathlib.Omega.{arith}
use lib.Dec.{eqb, ltb}
use lib.ListN.{length, get_or, length-append, get_or-append}
use lib.Seq.{get_or-append-add}
use borrow.Author.Tests.{eq-eqb, ne_eqb, lt-ltb, le-ltb}
use Rattle.std.specs.List.{filter, range_with_len}
use Rattle.std.proofs.lemmas.List.{map-id}
use Rattle.std.proofs.lemmas.List.FromFn.{filter_of_map_range_with_len_more}
use Rattle.std.proofs.lemmas.List.Sums.{sum_by-append}
use Rattle.tables.specs.Laws.{order?}
use Rattle.sets.specs.Members.{as_nat}
use Rattle.clearing.specs.Promises.{times, Interleaved, none, left, right}

abbrev pub items_below : (ℕ → Bool) → ℕ → List ℕ
items_below test n = filter test (range_with_len 0 n)

module _ (test : ℕ → Bool) (n : ℕ) where
  items_more : items_below test (suc n) ≡ items_below test n ++ cond (test n) (n ∷ []) []
  items_more =
      ap (items_below test) (sym (add-one n))
      ∙ rw (map-id (range_with_len 0 (n + 1)), map-id (range_with_len 0 n)) at (filter_of_map_range_with_len_more test (λ (x : ℕ). x) 0 n n (zero-add n))

  pub items_yes : test n ≡ true → items_below test (suc n) ≡ items_below test n ++ (n ∷ [])
  items_yes e = rw e at items_more

  pub items_no : test n ≡ false → items_below test (suc n) ≡ items_below test n
  items_no e = rw (e, append-nil) at items_more

pub build : (test : ℕ → Bool) (P : ℕ → List ℕ → Type 0) → P 0 []
    → ((n : ℕ) (items : List ℕ) → test n ≡ true → P n items → P (suc n) (items ++ (n ∷ [])))
    → ((n : ℕ) (items : List ℕ) → test n ≡ false → P n items → P (suc n) items)
    → (n : ℕ) → P n (items_below test n)
build test P start one other zero = start
build test P start one other (suc n) = go (test n) refl (build test P start one other n)
  where
    go : (t : Bool) → test n ≡ t → P n (items_below test n) → P (suc n) (items_below test (suc n))
    go true e p = subst (P (suc n)) (sym (items_yes test n e)) (one n (items_below test n) e p)
    go false e p = subst (P (suc n)) (sym (items_no test n e)) (other n (items_below test n) e p)

-- ---- each of them

pub record Passes (test : ℕ → Bool) (n : ℕ) (items : List ℕ) : Type 0 where
  pub few : length items ≤ n
  pub below : (i : ℕ) → i < length items → get_or items i 0 < n
  pub each : (i : ℕ) → i < length items → test (get_or items i 0) ≡ true

-- an item at the end of some
module _ (items : List ℕ) (n i : ℕ) where
  pub before_end : i < length items → get_or (items ++ (n ∷ [])) i 0 ≡ get_or items i 0
  before_end h = get_or-append items (n ∷ []) 0 i h

  pub at_end : i ≡ length items → get_or (items ++ (n ∷ [])) i 0 ≡ n
  at_end e =
      let last : i ≡ length items + 0 = omega (arith, e) in
      ap (λ (k : ℕ). get_or (items ++ (n ∷ [])) k 0) last ∙ get_or-append-add items (n ∷ []) 0 0

  pub in_order : {X : Type 0} → i < length (items ++ (n ∷ [])) → (i < length items → X) → (i ≡ length items → X) → X
  in_order h before last =
      let l : i ≤ length items = omega (arith, h, length-append items (n ∷ [])) in
      ⊎_elim last before (eq-or-lt_of_le l)

module _ (test : ℕ → Bool) where
  pub passes : (n : ℕ) → Passes test n (items_below test n)
  passes = build test (Passes test)
      (record { few = omega arith; below = λ i h. absurd (omega arith); each = λ i h. absurd (omega arith) })
      (λ n items e p. record {
        few = omega (arith, length-append items (n ∷ []), p.few);
        below = λ i h. in_order items n i h
            (λ b. rw (before_end items n i b) (omega (arith, p.below i b)))
            (λ l. rw (at_end items n i l) (omega arith));
        each = λ i h. in_order items n i h
            (λ b. rw (before_end items n i b) (p.each i b))
            (λ l. rw (at_end items n i l) e);
      })
      (λ n items e p. record { few = omega (arith, p.few); below = λ i h. omega (arith, p.below i h); each = p.each })

-- ---- once

times_end : (k n : ℕ) (items : List ℕ) → times k (items ++ (n ∷ [])) ≡ times k items + cond (eqb k n) 1 0
times_end k n items = sum_by-append (λ x. cond (eqb k x) 1 0) items (n ∷ []) ∙ ap (λ (m : ℕ). times k items + m) (zero-add (cond (eqb k n) 1 0))

-- whether k is below one more
module _ (k n : ℕ) (b : Bool) where
  one_below : (k ≡ n → b ≡ true) → as_nat (ltb k n && b) + cond (eqb k n) 1 0 ≡ as_nat (ltb k (suc n) && b)
  one_below h =
      ⊎_elim
      (λ (l : n ≤ k). ⊎_elim
      (λ (same : n ≡ k). rw (h (sym same), le-ltb k n l, eq-eqb k n (sym same), lt-ltb k (suc n) (omega arith)))
      (λ (less : n < k). rw (le-ltb k n l, ne_eqb k n (λ e. omega arith), le-ltb k (suc n) less))
      (eq-or-lt_of_le l))
      (λ (l : k < n). rw (lt-ltb k n l, ne_eqb k n (λ e. omega arith), lt-ltb k (suc n) (omega arith)) (add-zero (as_nat b)))
      (order? n k)

  none_below : (k ≡ n → b ≡ false) → as_nat (ltb k n && b) ≡ as_nat (ltb k (suc n) && b)
  none_below h =
      ⊎_elim
      (λ (l : n ≤ k). ⊎_elim
      (λ (same : n ≡ k). rw (h (sym same), le-ltb k n l, lt-ltb k (suc n) (omega arith)))
      (λ (less : n < k). rw (le-ltb k n l, le-ltb k (suc n) less))
      (eq-or-lt_of_le l))
      (λ (l : k < n). rw (lt-ltb k n l, lt-ltb k (suc n) (omega arith)))
      (order? n k)

pub times_once : (test : ℕ → Bool) (k n : ℕ) → times k (items_below test n) ≡ as_nat (ltb k n && test k)
times_once test k =
    build test (λ n items. times k items ≡ as_nat (ltb k n && test k))
    (rw (le-ltb k 0 (omega arith)))
    (λ n items e p. times_end k n items ∙ ap (λ (m : ℕ). m + cond (eqb k n) 1 0) p ∙ one_below k n (test k) (λ same. ap test same ∙ e))
    (λ n items e p. p ∙ none_below k n (test k) (λ same. ap test same ∙ e))

-- ---- by other tests

pub same_items : (p q : ℕ → Bool) (n : ℕ) → ((k : ℕ) → k < n → p k ≡ q k) → items_below p n ≡ items_below q n
same_items p q zero e = refl
same_items p q (suc n) e =
    items_more p n ∙ rw (same_items p q n (λ k h. e k (omega arith)), e n (omega arith)) (sym (items_more q n))

pub none_pass : (p : ℕ → Bool) (n : ℕ) → ((k : ℕ) → k < n → p k ≡ false) → items_below p n ≡ []
none_pass p zero e = refl
none_pass p (suc n) e = items_no p n (e n (omega arith)) ∙ none_pass p n (λ k h. e k (omega arith))

pub first_passing : (p : ℕ → Bool) (i n : ℕ) → i < n → p i ≡ true → ((k : ℕ) → k < i → p k ≡ false) → (rest : List ℕ) × (items_below p n ≡ i ∷ rest)
first_passing p i zero h e before = absurd (omega arith)
first_passing p i (suc n) h e before =
    ⊎_elim
    (λ (same : i ≡ n).
    ([], rw (← same) (items_yes p i e ∙ ap (λ (l : List ℕ). l ++ (i ∷ [])) (none_pass p i before))))
    (λ (later : i < n).
    let r = first_passing p i n later e before in
    (r.0 ++ cond (p n) (n ∷ []) [], items_more p n ∙ ap (λ (l : List ℕ). l ++ cond (p n) (n ∷ []) []) r.1))
    (eq-or-lt_of_le (let l : i ≤ n = omega arith in l))

-- ---- those that do not pass, and those that pass

pub interleaved : (p : ℕ → Bool) (n : ℕ) → Interleaved (items_below (λ k. not (p k)) n) (items_below p n) n
interleaved p zero = none
interleaved p (suc n) = go (p n) refl (interleaved p n)
  where
    go : (t : Bool) → p n ≡ t → Interleaved (items_below (λ k. not (p k)) n) (items_below p n) n
        → Interleaved (items_below (λ k. not (p k)) (suc n)) (items_below p (suc n)) (suc n)
    go true e i = rw (items_no (λ k. not (p k)) n (ap not e), items_yes p n e) (right i)
    go false e i = rw (items_yes (λ k. not (p k)) n (ap not e), items_no p n e) (left i)
