-- What the functions that look for number 18 use.
--     zero_turn, counts_turn                 a run of zeros, a number at a time
--     seen_more, fails_below, fails_twice    freed places, one at a time
--     blocks-snoc                            one place more
-- Assumes nothing.
use mathlib.Core.Path.{◌≡◌, refl, sym, ap, ◌∙◌, subst}
use mathlib.Core.Bool.{Bool, true, false, ◌&&◌, ◌||◌}
use mathlib.Core.List.{List, [], ◌∷◌, ◌++◌, reverse, reverse-append}
use Prim.Native.Nat.{ℕ, suc, ◌+◌, ◌-◌, ◌≤◌, ◌<◌}
use native.Mathlib.Omega.{arith}
use native.Mathlib.Numerals.{add-one}
use lib.ListN.{length, get_or, take, drop, length-drop, take-append-drop, drop_of_length-le}
use lib.Seq.{drop-cons, take-suc, get_or-take, get_or-drop, length-take-le, take_all, take-length}
use lib.Dec.{eqb, ltb}
use lib.IntN.{ℤ, pos}
use borrow.Author.Tests.{ltb-true}
use Rattle.tables.specs.Order.{member}
use Rattle.lists.specs.Signed.{at}
use Rattle.lists.proofs.Search.{both}
use Rattle.held.specs.Tests.{any, every, distinct}
use Rattle.held.specs.Plot.{Record, Place, free, taken, blocks}
use Rattle.held.specs.Lent.{is_zero, counts_width, freed_count_in, freed_places_in}
use Rattle.held.proofs.Lists.{true_not_false, every_front, distinct_head, distinct_tail}

pub not_true_false : (b : Bool) → (b ≡ true → ⊥) → b ≡ false
not_true_false true n = absurd (n refl)
not_true_false false n = refl

-- ---- zeros

pub zero_turn : (list : List ℤ) (from n f : ℕ) → f < n → from + n ≤ length list
    → every is_zero (take (n - f) (drop (from + f) list)) ≡ (is_zero (at list (from + f)) && every is_zero (take (n - (f + 1)) (drop (from + (f + 1)) list)))
unfolding every
zero_turn list from n f h l =
    let size : n - f ≡ suc (n - (f + 1)) = omega arith in
    let next : from + (f + 1) ≡ suc (from + f) = omega arith in
    rw (size, next, drop-cons list (from + f) (pos 0) (omega arith))

pub zero_done : (list : List ℤ) (from n f : ℕ) → n ≤ f → every is_zero (take (n - f) (drop (from + f) list)) ≡ true
unfolding every
zero_done list from n f h = let none : n - f ≡ 0 = omega arith in rw none

pub counts_turn : (state : List ℕ) (k : ℕ) → k < length state → every (eqb 0) (drop k state) ≡ (eqb 0 (get_or state k 0) && every (eqb 0) (drop (k + 1) state))
unfolding every
counts_turn state k h = rw (add-one, drop-cons state k 0 h)

pub counts_done : (state : List ℕ) (k : ℕ) → length state ≤ k → every (eqb 0) (drop k state) ≡ true
unfolding every
counts_done state k h = rw (drop_of_length-le state h)

-- ---- freed places

-- the first i of them, the latest first
abbrev pub seen : List ℕ → ℕ → List ℕ
seen state i = reverse (take i (take (freed_count_in state) (drop counts_width state)))

module _ (state : List ℕ) (room : counts_width + freed_count_in state ≤ length state) where
  freed_size : length (take (freed_count_in state) (drop counts_width state)) ≡ freed_count_in state
  freed_size = length-take-le (freed_count_in state) (drop counts_width state) (omega (arith, length-drop counts_width state))

  pub seen_more : (i : ℕ) → i < freed_count_in state → seen state (suc i) ≡ get_or state (counts_width + i) 0 ∷ seen state i
  seen_more i h =
      let fs : List ℕ = take (freed_count_in state) (drop counts_width state) in
      let x : get_or fs i 0 ≡ get_or state (counts_width + i) 0 = get_or-take (freed_count_in state) (drop counts_width state) i 0 h ∙ get_or-drop counts_width state i 0 in
      ap reverse (take-suc fs i 0 (omega (arith, freed_size))) ∙ (reverse-append (take i fs) (get_or fs i 0 ∷ []) ∙ ap (λ (v : ℕ). v ∷ reverse (take i fs)) x)

  pub seen_all : (i : ℕ) → freed_count_in state ≤ i → seen state i ≡ freed_places_in state
  unfolding freed_places_in
  seen_all i h = ap reverse (take_all i (take (freed_count_in state) (drop counts_width state)) (omega (arith, freed_size)))

  -- those freed later stand in front
  pub later : (i : ℕ) → freed_places_in state ≡ reverse (drop i (take (freed_count_in state) (drop counts_width state))) ++ seen state i
  unfolding freed_places_in
  later i =
      let fs : List ℕ = take (freed_count_in state) (drop counts_width state) in
      ap reverse (sym (take-append-drop i fs)) ∙ reverse-append (take i fs) (drop i fs)

  -- place i is not below, or stands among those before it: the test fails
  pub fails_below : (used i : ℕ) → i < freed_count_in state → used ≤ get_or state (counts_width + i) 0 → (distinct eqb (freed_places_in state) && every (λ k. ltb k used) (freed_places_in state)) ≡ false
  unfolding every
  fails_below used i h b =
      not_true_false (distinct eqb (freed_places_in state) && every (λ k. ltb k used) (freed_places_in state))
      (λ t.
      let all = (both (distinct eqb (freed_places_in state)) (every (λ k. ltb k used) (freed_places_in state)) t).1 in
      let parts : every (λ k. ltb k used) (reverse (drop (suc i) (take (freed_count_in state) (drop counts_width state))) ++ (get_or state (counts_width + i) 0 ∷ seen state i)) ≡ true =
      subst (λ (l : List ℕ). every (λ k. ltb k used) l ≡ true) (later (suc i) ∙ ap (λ (l : List ℕ). reverse (drop (suc i) (take (freed_count_in state) (drop counts_width state))) ++ l) (seen_more i h)) all in
      let here = (both (ltb (get_or state (counts_width + i) 0) used) _ (every_front (λ k. ltb k used) (reverse (drop (suc i) (take (freed_count_in state) (drop counts_width state)))) _ parts)).0 in
      omega (arith, ltb-true (get_or state (counts_width + i) 0) used here))

  pub fails_twice : (used i : ℕ) → i < freed_count_in state → member (get_or state (counts_width + i) 0) (seen state i) ≡ true
      → (distinct eqb (freed_places_in state) && every (λ k. ltb k used) (freed_places_in state)) ≡ false
  fails_twice used i h m =
      not_true_false (distinct eqb (freed_places_in state) && every (λ k. ltb k used) (freed_places_in state))
      (λ t.
      let all = (both (distinct eqb (freed_places_in state)) (every (λ k. ltb k used) (freed_places_in state)) t).0 in
      let parts : distinct eqb (reverse (drop (suc i) (take (freed_count_in state) (drop counts_width state))) ++ (get_or state (counts_width + i) 0 ∷ seen state i)) ≡ true =
      subst (λ (l : List ℕ). distinct eqb l ≡ true) (later (suc i) ∙ ap (λ (l : List ℕ). reverse (drop (suc i) (take (freed_count_in state) (drop counts_width state))) ++ l) (seen_more i h)) all in
      let here = distinct_back (reverse (drop (suc i) (take (freed_count_in state) (drop counts_width state)))) (get_or state (counts_width + i) 0 ∷ seen state i) parts in
      true_not_false (sym m ∙ distinct_head (get_or state (counts_width + i) 0) (seen state i) here))
    where
      distinct_back : (xs ys : List ℕ) → distinct eqb (xs ++ ys) ≡ true → distinct eqb ys ≡ true
      distinct_back [] ys e = e
      distinct_back (x ∷ xs) ys e = distinct_back xs ys (distinct_tail eqb x (xs ++ ys) e)

-- ---- blocks

pub blocks_snoc_free : (ps : List Place) → blocks (ps ++ (free ∷ [])) ≡ blocks ps
unfolding blocks
blocks_snoc_free [] = refl
blocks_snoc_free (free ∷ ps) = blocks_snoc_free ps
blocks_snoc_free (taken s ∷ ps) = ap (λ (l : List Record). s ∷ l) (blocks_snoc_free ps)

pub blocks_snoc_taken : (ps : List Place) (r : Record) → blocks (ps ++ (taken r ∷ [])) ≡ blocks ps ++ (r ∷ [])
unfolding blocks
blocks_snoc_taken [] r = refl
blocks_snoc_taken (free ∷ ps) r = blocks_snoc_taken ps r
blocks_snoc_taken (taken s ∷ ps) r = ap (λ (l : List Record). s ∷ l) (blocks_snoc_taken ps r)

-- ---- each freed place passes a test

module _ (state : List ℕ) (room : counts_width + freed_count_in state ≤ length state) where
  pub every_freed : (test : ℕ → Bool) → every test (freed_places_in state) ≡ true → (i : ℕ) → i < freed_count_in state → test (get_or state (counts_width + i) 0) ≡ true
  unfolding every
  every_freed test e i h =
      let parts : every test (reverse (drop (suc i) (take (freed_count_in state) (drop counts_width state))) ++ (get_or state (counts_width + i) 0 ∷ seen state i)) ≡ true =
      subst (λ (l : List ℕ). every test l ≡ true)
      (later state room (suc i) ∙ ap (λ (l : List ℕ). reverse (drop (suc i) (take (freed_count_in state) (drop counts_width state))) ++ l) (seen_more state room i h)) e in
      (both (test (get_or state (counts_width + i) 0)) _ (every_front test (reverse (drop (suc i) (take (freed_count_in state) (drop counts_width state)))) _ parts)).0

-- the whole rest of a list
pub zeros_rest : (list : List ℤ) (n : ℕ) → n ≤ length list → every is_zero (take (length list - n) (drop n list)) ≡ every is_zero (drop n list)
zeros_rest list n h = ap (every is_zero) (take_all (length list - n) (drop n list) (omega (arith, length-drop n list)))

-- ---- records of five numbers

pub five_numbers : (list : List ℤ) (i : ℕ) → i + 5 ≤ length list
    → take 5 (drop i list) ≡ at list i ∷ at list (i + 1) ∷ at list (i + 2) ∷ at list (i + 3) ∷ at list (i + 4) ∷ []
five_numbers list i h =
    let a : i + 1 ≡ suc i = omega arith in
    let b : i + 2 ≡ suc (suc i) = omega arith in
    let c : i + 3 ≡ suc (suc (suc i)) = omega arith in
    let d : i + 4 ≡ suc (suc (suc (suc i))) = omega arith in
    rw (
      a,
      b,
      c,
      d,
      drop-cons list i (pos 0) (omega arith),
      drop-cons list (suc i) (pos 0) (omega arith),
      drop-cons list (suc (suc i)) (pos 0) (omega arith),
      drop-cons list (suc (suc (suc i))) (pos 0) (omega arith),
      drop-cons list (suc (suc (suc (suc i)))) (pos 0) (omega arith),
    )

pub and_last : (b : Bool) → (b && true) ≡ b
and_last true = refl
and_last false = refl

-- ---- tests over the tail of a list

pub any_turn : {A : Type 0} (test : A → Bool) (l : List A) (j : ℕ) (d : A) → j < length l → any test (drop j l) ≡ (test (get_or l j d) || any test (drop (j + 1) l))
unfolding any
any_turn test l j d h = rw (add-one, drop-cons l j d h)

pub any_done : {A : Type 0} (test : A → Bool) (l : List A) (j : ℕ) → length l ≤ j → any test (drop j l) ≡ false
unfolding any
any_done test l j h = rw (drop_of_length-le l h)

pub five_only : (l : List ℤ) → length l ≡ 5 → l ≡ at l 0 ∷ at l 1 ∷ at l 2 ∷ at l 3 ∷ at l 4 ∷ []
five_only l e = sym (subst (λ (n : ℕ). take n l ≡ l) e (take-length l)) ∙ five_numbers l 0 (omega arith)
