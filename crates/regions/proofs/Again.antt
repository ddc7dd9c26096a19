-- A walk passes a visited node over, and visits a node once.
-- Assumes nothing.
use mathlib.Core.Path.{◌≡◌, refl, ◌∙◌}
use mathlib.Core.Bool.{Bool, true, false, cond}
use mathlib.Core.List.{List, [], ◌∷◌}
use Prim.Native.Nat.{ℕ, zero, suc, ◌<◌}
use lib.ListN.{length, set, length-set}
use lib.Seq.{get_or-set_same}
use Rattle.regions.specs.Graph.{Edges, marked, each, next}
use Rattle.regions.specs.Kosaraju.{Walk, mark, push, visit}
use Rattle.regions.proofs.Laws.Loops.{each_keeps}

marked_set : (v : List Bool) (x k : ℕ) → marked v k ≡ true → marked (set v x true) k ≡ true
marked_set [] x k p = p
marked_set (b ∷ v) zero zero p = refl
marked_set (b ∷ v) zero (suc k) p = p
marked_set (b ∷ v) (suc x) zero p = p
marked_set (b ∷ v) (suc x) (suc k) p = marked_set v x k p

module _ (n : ℕ) (edge : Edges) where
  pub visit_new : (fuel k : ℕ) (s : Walk) → marked s.visited k ≡ false
      → visit n edge (suc fuel) k s ≡ push k (each (visit n edge fuel) (next n edge k) (mark k s))
  unfolding visit
  visit_new fuel k s e = rw e

  pub visit_old : (fuel k : ℕ) (s : Walk) → marked s.visited k ≡ true → visit n edge fuel k s ≡ s
  unfolding visit
  visit_old zero k s e = refl
  visit_old (suc fuel) k s e = rw e

  -- what marking a node keeps, a walk keeps
  module _ (P : List Bool → Type 0) (keeps : (v : List Bool) (x : ℕ) → P v → P (set v x true)) where
    visit_keeps : (fuel x : ℕ) (s : Walk) → P s.visited → P (visit n edge fuel x s).visited
    unfolding visit
    visit_keeps zero x s p = p
    visit_keeps (suc fuel) x s p = go (marked s.visited x) (visit_keeps fuel)
      where
        go : (b : Bool) → ((y : ℕ) (t : Walk) → P t.visited → P (visit n edge fuel y t).visited)
            → P (cond b s (push x (each (λ k t. visit n edge fuel k t) (next n edge x) (mark x s)))).visited
        go true ih = p
        go false ih =
            each_keeps (λ t. P t.visited) (λ k t. visit n edge fuel k t) (next n edge x) (λ y m t q. ih y t q) (mark x s) (keeps s.visited x p)

  pub visit_long : (fuel x : ℕ) (s : Walk) → length s.visited ≡ n → length (visit n edge fuel x s).visited ≡ n
  visit_long = visit_keeps (λ v. length v ≡ n) (λ v x e. length-set v x true ∙ e)

  module _ (k : ℕ) where
    still_marked : (fuel x : ℕ) (s : Walk) → marked s.visited k ≡ true → marked (visit n edge fuel x s).visited k ≡ true
    still_marked = visit_keeps (λ v. marked v k ≡ true) (λ v x e. marked_set v x k e)

    visit_marks : (fuel : ℕ) (s : Walk) → k < length s.visited → marked (visit n edge (suc fuel) k s).visited k ≡ true
    unfolding visit
    visit_marks fuel s h = go (marked s.visited k) refl
      where
        go : (b : Bool) → marked s.visited k ≡ b
            → marked (cond b s (push k (each (λ j t. visit n edge fuel j t) (next n edge k) (mark k s)))).visited k ≡ true
        go true e = e
        go false e =
            each_keeps (λ t. marked t.visited k ≡ true) (λ j t. visit n edge fuel j t) (next n edge k) (λ y m t q. still_marked fuel y t q) (mark k s)
            (get_or-set_same s.visited k true false h)

    pub visit_again : (fuel : ℕ) (s : Walk) → k < length s.visited → visit n edge fuel k (visit n edge fuel k s) ≡ visit n edge fuel k s
    unfolding visit
    visit_again zero s h = refl
    visit_again (suc fuel) s h = visit_old (suc fuel) k (visit n edge (suc fuel) k s) (visit_marks fuel s h)
