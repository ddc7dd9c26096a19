-- Lemmas on the lists of a forest.
--     same_or_not, three_ways         two numbers are equal or not; the one is less than, equal to or greater than the other
--     get_or_map, get_or_range            what stands at a place below the length
--     length_range                    the length of 0, 1, …, n - 1
--     own_range                       a list whose every place holds its own number
--     redirect_hit, redirect_miss     `redirect` at the loser, and at any other place
--     count-≤-length, count_pos       a count is at most the length, and above 0 at what the list holds
--     count_winner, count_other       what a `redirect` does to the counts
-- Assumes nothing.
use Prim.Native.Nat.{ℕ, zero, suc, ◌+◌, ◌≤◌, ◌<◌, zero-le}
use native.Mathlib.Nat.{le_of_suc-le-suc, not-suc-le-zero, eq-or-lt_of_le}
use native.Mathlib.Numerals.{add-one}
use native.Mathlib.Omega.{arith}
use mathlib.Core.Path.{◌≡◌, refl, sym, ap, ◌∙◌}
use mathlib.Core.Bool.{Bool, true, false}
use mathlib.Core.List.{List, [], ◌∷◌, map}
use mathlib.Core.Logic.{◌⊎◌, inl, inr, ⊎_elim, ◌≢◌}
use lib.Dec.{eqb, ltb}
use lib.ListN.{length, get_or, length-append, get_or-append}
use lib.Seq.{get_or_at, ext_get_or}
use borrow.Author.Tests.{eqb-true, eqb-false, ltb-true, ltb-false, eq-eqb, ne_eqb}
use Rattle.circuit.specs.Forest.{range, count, redirect}

pub same_or_not : (a b : ℕ) → (a ≡ b) ⊎ (a ≢ b)
same_or_not a b = go (eqb a b) refl
  where
    go : (t : Bool) → eqb a b ≡ t → (a ≡ b) ⊎ (a ≢ b)
    go true e = inl (eqb-true a b e)
    go false e = inr (eqb-false a b e)

pub three_ways : (a b : ℕ) → (a < b) ⊎ ((a ≡ b) ⊎ (b < a))
three_ways a b = go (ltb a b) refl
  where
    go : (t : Bool) → ltb a b ≡ t → (a < b) ⊎ ((a ≡ b) ⊎ (b < a))
    go true e = inl (ltb-true a b e)
    go false e = inr (⊎_elim (λ q. inl (sym q)) inr (eq-or-lt_of_le (ltb-false a b e)))

pub get_or_map : (g : ℕ → ℕ) (l : List ℕ) (i : ℕ) → i < length l → get_or (map g l) i 0 ≡ g (get_or l i 0)
get_or_map g [] i h = absurd (not-suc-le-zero h)
get_or_map g (x ∷ l) zero h = refl
get_or_map g (x ∷ l) (suc i) h = get_or_map g l i (le_of_suc-le-suc h)

pub length_range : (n : ℕ) → length (range n) ≡ n
unfolding range
length_range zero = refl
length_range (suc n) = length-append (range n) (n ∷ []) ∙ add-one (length (range n)) ∙ ap suc (length_range n)

pub get_or_range : (n i : ℕ) → i < n → get_or (range n) i 0 ≡ i
unfolding range
get_or_range zero i h = absurd (not-suc-le-zero h)
get_or_range (suc n) i h =
    ⊎_elim
    (λ e. get_or_at (range n) n [] 0 i (length_range n ∙ sym e) ∙ sym e)
    (λ lt. get_or-append (range n) (n ∷ []) 0 i (rw length_range lt) ∙ get_or_range n i lt)
    (eq-or-lt_of_le (le_of_suc-le-suc h))

-- a list whose every place holds its own number
pub own_range : (n : ℕ) (l : List ℕ) → length l ≡ n → ((k : ℕ) → k < n → get_or l k 0 ≡ k) → l ≡ range n
own_range n l e own =
    ext_get_or 0 l (range n) (e ∙ sym (length_range n)) (λ k h. let lt : k < n = omega arith in own k lt ∙ sym (get_or_range n k lt))

pub redirect_hit : (loser winner : ℕ) → redirect loser winner loser ≡ winner
unfolding redirect
redirect_hit loser winner = rw (eq-eqb loser loser refl)

pub redirect_miss : (loser winner x : ℕ) → x ≢ loser → redirect loser winner x ≡ x
unfolding redirect
redirect_miss loser winner x h = rw (ne_eqb x loser h)

pub redirect_winner : (loser winner : ℕ) → redirect loser winner winner ≡ winner
redirect_winner loser winner =
    ⊎_elim (λ e. ap (redirect loser winner) e ∙ redirect_hit loser winner) (redirect_miss loser winner winner) (same_or_not winner loser)

-- one element more: it counts where it is x
count_hit : (x y : ℕ) (l : List ℕ) → y ≡ x → count x (y ∷ l) ≡ suc (count x l)
unfolding count
count_hit x y l e = rw (eq-eqb y x e)

count_miss : (x y : ℕ) (l : List ℕ) → y ≢ x → count x (y ∷ l) ≡ count x l
unfolding count
count_miss x y l h = rw (ne_eqb y x h)

pub count-≤-length : (x : ℕ) (l : List ℕ) → count x l ≤ length l
unfolding count
count-≤-length x [] = zero-le
count-≤-length x (y ∷ l) = go (count-≤-length x l) (same_or_not y x)
  where
    go : count x l ≤ length l → (y ≡ x) ⊎ (y ≢ x) → count x (y ∷ l) ≤ suc (length l)
    go ih (inl e) = omega (arith, count_hit x y l e)
    go ih (inr h) = omega (arith, count_miss x y l h)

pub count_pos : (x : ℕ) (l : List ℕ) (i : ℕ) → i < length l → get_or l i 0 ≡ x → 0 < count x l
count_pos x [] i h e = absurd (not-suc-le-zero h)
count_pos x (y ∷ l) zero h e = omega (arith, count_hit x y l e)
count_pos x (y ∷ l) (suc i) h e = go (count_pos x l i (le_of_suc-le-suc h) e) (same_or_not y x)
  where
    go : 0 < count x l → (y ≡ x) ⊎ (y ≢ x) → 0 < count x (y ∷ l)
    go ih (inl q) = omega (arith, count_hit x y l q)
    go ih (inr q) = omega (arith, count_miss x y l q)

module _ (loser winner : ℕ) (apart : loser ≢ winner) where
  -- the winner has its own places, and the loser's
  pub count_winner : (l : List ℕ) → count winner (map (redirect loser winner) l) ≡ count winner l + count loser l
  unfolding count
  count_winner [] = refl
  count_winner (y ∷ l) = go (count_winner l) (same_or_not y loser) (same_or_not y winner)
    where
      rest : List ℕ
      rest = map (redirect loser winner) l

      go : count winner rest ≡ count winner l + count loser l → (y ≡ loser) ⊎ (y ≢ loser) → (y ≡ winner) ⊎ (y ≢ winner)
          → count winner (redirect loser winner y ∷ rest) ≡ count winner (y ∷ l) + count loser (y ∷ l)
      go ih (inl p) (inl q) = absurd (apart (sym p ∙ q))
      go ih (inl p) (inr q) = omega (arith, count_hit winner (redirect loser winner y) rest (ap (redirect loser winner) p ∙ redirect_hit loser winner), count_miss winner y l q, count_hit loser y l p)
      go ih (inr p) (inl q) = omega (arith, count_hit winner (redirect loser winner y) rest (redirect_miss loser winner y p ∙ q), count_hit winner y l q, count_miss loser y l p)
      go ih (inr p) (inr q) = omega (arith, count_miss winner (redirect loser winner y) rest (λ e. q (sym (redirect_miss loser winner y p) ∙ e)), count_miss winner y l q, count_miss loser y l p)

  -- every other root has the places that it had
  pub count_other : (x : ℕ) → x ≢ loser → x ≢ winner → (l : List ℕ) → count x (map (redirect loser winner) l) ≡ count x l
  unfolding count
  count_other x hl hw [] = refl
  count_other x hl hw (y ∷ l) = go (count_other x hl hw l) (same_or_not y loser) (same_or_not y x)
    where
      rest : List ℕ
      rest = map (redirect loser winner) l

      go : count x rest ≡ count x l → (y ≡ loser) ⊎ (y ≢ loser) → (y ≡ x) ⊎ (y ≢ x) → count x (redirect loser winner y ∷ rest) ≡ count x (y ∷ l)
      go ih (inl p) (inl q) = absurd (hl (sym q ∙ p))
      go ih (inl p) (inr q) = omega (arith, count_miss x (redirect loser winner y) rest (λ e. hw (sym e ∙ ap (redirect loser winner) p ∙ redirect_hit loser winner)), count_miss x y l q)
      go ih (inr p) (inl q) = omega (arith, count_hit x (redirect loser winner y) rest (redirect_miss loser winner y p ∙ q), count_hit x y l q)
      go ih (inr p) (inr q) = omega (arith, count_miss x (redirect loser winner y) rest (λ e. q (sym (redirect_miss loser winner y p) ∙ e)), count_miss x y l q)
