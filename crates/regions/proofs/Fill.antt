-- A loop that fills a list from the front, one store a turn (`borrow.Author.Fill`, for lists of any type), and lists of zeros.
-- Assumes nothing.
use mathlib.Core.Path.{◌≡◌, refl, ap, subst, sym, ◌∙◌}
use mathlib.Core.List.{List, [], ◌∷◌, ◌++◌, append-nil}
use Prim.Native.Nat.{ℕ, zero, suc, ◌+◌, ◌≤◌, ◌<◌}
use native.Mathlib.Nat.{not-suc-le-zero, le_of_suc-le-suc}
use native.Mathlib.Numerals.{add-one}
use native.Mathlib.Omega.{arith}
use lib.ListN.{length, set, drop, replicate, drop_of_length-le, length-replicate, get_or-replicate}
use lib.Seq.{ext_get_or}
use Rattle.regions.specs.Search.{Zeros}

module _ {A : Type 0} where
  fill_suc : (v : A) (n : ℕ) (d : List A) → n < length d → set (replicate n v ++ drop n d) n v ≡ replicate (suc n) v ++ drop (suc n) d
  fill_suc v n [] l = absurd (not-suc-le-zero l)
  fill_suc v zero (x ∷ d) l = refl
  fill_suc v (suc n) (x ∷ d) l = ap (λ (t : List A). v ∷ t) (fill_suc v n d (le_of_suc-le-suc l))

  pub fill_more : (v : A) (n : ℕ) (d : List A) → n < length d → set (replicate n v ++ drop n d) n v ≡ replicate (n + 1) v ++ drop (n + 1) d
  fill_more v n d l = subst (λ (k : ℕ). set (replicate n v ++ drop n d) n v ≡ replicate k v ++ drop k d) (sym (add-one n)) (fill_suc v n d l)

  pub fill_all : (v : A) (n : ℕ) (d : List A) → n ≤ length d → length d ≤ n → replicate n v ++ drop n d ≡ replicate (length d) v
  fill_all v n d le ge =
      let e : n ≡ length d = omega arith in
      ap (λ (t : List A). replicate n v ++ t) (drop_of_length-le d ge) ∙ append-nil (replicate n v) ∙ ap (λ (k : ℕ). replicate k v) e

-- ---- a list of zeros

pub zeros_cleared : (l : List ℕ) → Zeros l → l ≡ replicate (length l) 0
zeros_cleared l z =
    ext_get_or 0 l (replicate (length l) 0) (sym (length-replicate (length l) 0)) (λ i h. z i ∙ sym (get_or-replicate (length l) i 0 0 h))

pub cleared_zeros : (n : ℕ) → Zeros (replicate n 0)
cleared_zeros zero i = refl
cleared_zeros (suc n) zero = refl
cleared_zeros (suc n) (suc i) = cleared_zeros n i
