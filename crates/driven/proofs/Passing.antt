-- A walk does nothing once it has stopped, passes a met node over, and meets a node once.
-- Assumes nothing.
use mathlib.Core.Path.{◌≡◌, refl, ap, ◌∙◌}
use mathlib.Core.Bool.{Bool, true, false, cond, ◌||◌}
use mathlib.Core.List.{List, [], ◌∷◌}
use Prim.Native.Nat.{ℕ, zero, suc, ◌<◌}
use lib.ListN.{length, set, length-set}
use lib.Seq.{get_or-set_same}
use Rattle.regions.specs.Graph.{Edges, marked, each, next}
use Rattle.regions.proofs.Laws.Loops.{each_keeps}
use Rattle.driven.specs.Seek.{Search, meet, stop, seek}

pub or_true : (b : Bool) → (b || true) ≡ true
or_true true = refl
or_true false = refl

pub marked_set : (v : List Bool) (x k : ℕ) → marked v k ≡ true → marked (set v x true) k ≡ true
marked_set [] x k p = p
marked_set (b ∷ v) zero zero p = refl
marked_set (b ∷ v) zero (suc k) p = p
marked_set (b ∷ v) (suc x) zero p = p
marked_set (b ∷ v) (suc x) (suc k) p = marked_set v x k p

module _ (n : ℕ) (edge : Edges) (goals : List Bool) where
  -- ---- the cases of a call

  pub seek_done : (fuel x : ℕ) (s : Search) → (s.stopped || marked s.met x) ≡ true → seek n edge goals fuel x s ≡ s
  unfolding seek
  seek_done zero x s e = refl
  seek_done (suc fuel) x s e = rw e

  pub seek_stopped : (fuel x : ℕ) (s : Search) → s.stopped ≡ true → seek n edge goals fuel x s ≡ s
  seek_stopped fuel x s e = seek_done fuel x s (ap (λ (b : Bool). b || marked s.met x) e)

  pub seek_met : (fuel x : ℕ) (s : Search) → marked s.met x ≡ true → seek n edge goals fuel x s ≡ s
  seek_met fuel x s e = seek_done fuel x s (ap (λ (b : Bool). s.stopped || b) e ∙ or_true s.stopped)

  pub seek_goal : (fuel x : ℕ) (s : Search) → s.stopped ≡ false → marked s.met x ≡ false → marked goals x ≡ true
      → seek n edge goals (suc fuel) x s ≡ stop (meet x s)
  unfolding seek
  seek_goal fuel x s e m g = rw (e, m, g)

  pub seek_on : (fuel x : ℕ) (s : Search) → s.stopped ≡ false → marked s.met x ≡ false → marked goals x ≡ false
      → seek n edge goals (suc fuel) x s ≡ each (seek n edge goals fuel) (next n edge x) (meet x s)
  unfolding seek
  seek_on fuel x s e m g =
      ap (λ (b : Bool). cond b s (cond (marked goals x) (stop (meet x s)) (each (λ k t. seek n edge goals fuel k t) (next n edge x) (meet x s))))
      (ap (λ (b : Bool). b || marked s.met x) e ∙ m)
      ∙ ap (λ (b : Bool). cond b (stop (meet x s)) (each (λ k t. seek n edge goals fuel k t) (next n edge x) (meet x s))) g

  -- nodes after the walk has stopped
  pub each_stopped : (fuel : ℕ) (l : List ℕ) (s : Search) → s.stopped ≡ true → each (seek n edge goals fuel) l s ≡ s
  unfolding each
  each_stopped fuel [] s e = refl
  each_stopped fuel (x ∷ l) s e =
      ap (each (seek n edge goals fuel) l) (seek_stopped fuel x s e) ∙ each_stopped fuel l s e

  -- ---- what meeting a node keeps, a walk keeps

  module _ (P : List Bool → Type 0) (keeps : (v : List Bool) (x : ℕ) → P v → P (set v x true)) where
    seek_keeps : (fuel x : ℕ) (s : Search) → P s.met → P (seek n edge goals fuel x s).met
    unfolding seek
    seek_keeps zero x s p = p
    seek_keeps (suc fuel) x s p = go (s.stopped || marked s.met x) (marked goals x) (seek_keeps fuel)
      where
        go : (b g : Bool) → ((y : ℕ) (t : Search) → P t.met → P (seek n edge goals fuel y t).met)
            → P (cond b s (cond g (stop (meet x s)) (each (λ k t. seek n edge goals fuel k t) (next n edge x) (meet x s)))).met
        go true g ih = p
        go false true ih = keeps s.met x p
        go false false ih =
            each_keeps (λ t. P t.met) (λ k t. seek n edge goals fuel k t) (next n edge x) (λ y m t q. ih y t q) (meet x s) (keeps s.met x p)

  pub seek_long : (fuel x : ℕ) (s : Search) → length s.met ≡ n → length (seek n edge goals fuel x s).met ≡ n
  seek_long = seek_keeps (λ v. length v ≡ n) (λ v x e. length-set v x true ∙ e)

  -- ---- a node is met once

  module _ (k : ℕ) where
    still_met : (fuel x : ℕ) (s : Search) → marked s.met k ≡ true → marked (seek n edge goals fuel x s).met k ≡ true
    still_met = seek_keeps (λ v. marked v k ≡ true) (λ v x e. marked_set v x k e)

    -- after a call the walk has stopped, or the node is met
    settled : (fuel : ℕ) (s : Search) → k < length s.met
        → ((seek n edge goals (suc fuel) k s).stopped || marked (seek n edge goals (suc fuel) k s).met k) ≡ true
    unfolding seek
    settled fuel s h = go (s.stopped || marked s.met k) refl (marked goals k)
      where
        on : Search
        on = each (λ j t. seek n edge goals fuel j t) (next n edge k) (meet k s)

        on_met : marked on.met k ≡ true
        on_met =
            each_keeps (λ t. marked t.met k ≡ true) (λ j t. seek n edge goals fuel j t) (next n edge k) (λ y m t q. still_met fuel y t q) (meet k s)
            (get_or-set_same s.met k true false h)

        go : (b : Bool) → (s.stopped || marked s.met k) ≡ b → (g : Bool)
            → ((cond b s (cond g (stop (meet k s)) on)).stopped || marked (cond b s (cond g (stop (meet k s)) on)).met k) ≡ true
        go true e g = e
        go false e true = refl
        go false e false = ap (λ (b : Bool). on.stopped || b) on_met ∙ or_true on.stopped

    pub seek_again : (fuel : ℕ) (s : Search) → k < length s.met
        → seek n edge goals fuel k (seek n edge goals fuel k s) ≡ seek n edge goals fuel k s
    unfolding seek
    seek_again zero s h = refl
    seek_again (suc fuel) s h = seek_done (suc fuel) k (seek n edge goals (suc fuel) k s) (settled fuel s h)
