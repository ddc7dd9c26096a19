-- The open calls of `seek` as a stack of frames, and what one turn of the search along rows does to it. No array is spoken of here but the
-- rows.
-- Assumes nothing.
use mathlib.Core.Path.{◌≡◌, refl, sym, ap, ◌∙◌}
use mathlib.Core.Bool.{Bool, true, false}
use mathlib.Core.List.{List, [], ◌∷◌}
use Prim.Native.Nat.{ℕ, suc, ◌≤◌, ◌<◌}
use native.Mathlib.Omega.{arith}
use lib.ListN.{length, get_or, length-set}
use Rattle.regions.specs.Graph.{Edges, marked, each}
use Rattle.regions.proofs.Frames.{Frame, frame}
use Rattle.graph.specs.Rows.{begin_of, end_of, cut, row_of, Rows}
use Rattle.graph.proofs.Rows.{cut_end, cut_cons, row_each}
use Rattle.driven.specs.Seek.{Search, meet, stop, seek}
use Rattle.driven.proofs.Passing.{seek_met, seek_goal, seek_on, each_stopped, seek_long, seek_again}

-- what is left to do: for each frame, the top first, the neighbours from its place on
unfoldable pub finish : ℕ → Edges → List ℕ → List ℕ → List Bool → ℕ → List Frame → Search → Search
finish n edge ends row goals fuel [] s = s
finish n edge ends row goals fuel (f ∷ fs) s =
    finish n edge ends row goals (suc fuel) fs (each (seek n edge goals fuel) (cut row f.place (end_of ends f.node)) s)

-- once the walk has stopped nothing is done
finish_stopped : (n : ℕ) (edge : Edges) (ends row : List ℕ) (goals : List Bool) (fuel : ℕ) (fs : List Frame) (s : Search) → s.stopped ≡ true
    → finish n edge ends row goals fuel fs s ≡ s
unfolding finish
finish_stopped n edge ends row goals fuel [] s e = refl
finish_stopped n edge ends row goals fuel (f ∷ fs) s e =
    ap (finish n edge ends row goals (suc fuel) fs) (each_stopped n edge goals fuel (cut row f.place (end_of ends f.node)) s e)
    ∙ finish_stopped n edge ends row goals (suc fuel) fs s e

module _ {n : ℕ} {edge : Edges} {ends row : List ℕ} (r : Rows n edge ends row) (goals : List Bool) where
  -- a call is opened where the row of its node begins
  opened : (fuel k : ℕ) (s : Search) → k < n → length s.met ≡ n → s.stopped ≡ false → marked s.met k ≡ false → marked goals k ≡ false
      → each (seek n edge goals fuel) (row_of ends row k) (meet k s) ≡ seek n edge goals (suc fuel) k s
  opened fuel k s lt len on new other =
      row_each (seek n edge goals fuel) (λ t. length t.met ≡ n) (seek_long n edge goals fuel) n
      (λ j t h long. seek_again n edge goals j fuel t (omega arith)) r k lt (meet k s) (length-set s.met k true ∙ len)
      ∙ sym (seek_on n edge goals fuel k s on new other)

  pub finish_start : (fuel x : ℕ) (s : Search) → x < n → length s.met ≡ n → s.stopped ≡ false → marked s.met x ≡ false → marked goals x ≡ false
      → finish n edge ends row goals fuel (frame x (begin_of ends x) ∷ []) (meet x s) ≡ seek n edge goals (suc fuel) x s
  unfolding finish
  finish_start fuel x s lt len on new other = opened fuel x s lt len on new other

  module _ (x place : ℕ) (fs : List Frame) (s : Search) where
    -- no neighbour is left
    pub finish_leave : (fuel : ℕ) → end_of ends x ≤ place
        → finish n edge ends row goals (suc fuel) fs s ≡ finish n edge ends row goals fuel (frame x place ∷ fs) s
    unfolding finish each
    finish_leave fuel h = ap (λ m. finish n edge ends row goals (suc fuel) fs (each (seek n edge goals fuel) m s)) (sym (cut_end row place (end_of ends x) h))

    module _ (lt : x < n) (h : place < end_of ends x) where
      -- the next neighbour
      turn : (fuel : ℕ) → finish n edge ends row goals fuel (frame x (suc place) ∷ fs) (seek n edge goals fuel (get_or row place 0) s)
          ≡ finish n edge ends row goals fuel (frame x place ∷ fs) s
      unfolding finish each
      turn fuel =
          ap (λ m. finish n edge ends row goals (suc fuel) fs (each (seek n edge goals fuel) m s))
          (sym (cut_cons row place (end_of ends x) h (r.rows.inside x lt)))

      -- it is met
      pub finish_pass : (fuel : ℕ) → marked s.met (get_or row place 0) ≡ true
          → finish n edge ends row goals fuel (frame x (suc place) ∷ fs) s ≡ finish n edge ends row goals fuel (frame x place ∷ fs) s
      finish_pass fuel e =
          ap (finish n edge ends row goals fuel (frame x (suc place) ∷ fs)) (sym (seek_met n edge goals fuel (get_or row place 0) s e)) ∙ turn fuel

      module _ (fuel k : ℕ) (e : k ≡ get_or row place 0) (on : s.stopped ≡ false) (new : marked s.met k ≡ false) where
        -- the same from the neighbour by its name
        turn_at : finish n edge ends row goals (suc fuel) (frame x (suc place) ∷ fs) (seek n edge goals (suc fuel) k s)
            ≡ finish n edge ends row goals (suc fuel) (frame x place ∷ fs) s
        turn_at = ap (λ (j : ℕ). finish n edge ends row goals (suc fuel) (frame x (suc place) ∷ fs) (seek n edge goals (suc fuel) j s)) e ∙ turn (suc fuel)

        -- it is not met, and is no goal: its call is opened
        pub finish_enter : k < n → length s.met ≡ n → marked goals k ≡ false
            → finish n edge ends row goals fuel (frame k (begin_of ends k) ∷ frame x (suc place) ∷ fs) (meet k s)
            ≡ finish n edge ends row goals (suc fuel) (frame x place ∷ fs) s
        unfolding finish
        finish_enter low len other =
            ap (finish n edge ends row goals (suc fuel) (frame x (suc place) ∷ fs)) (opened fuel k s low len on new other) ∙ turn_at

        -- it is a goal: the walk stops
        pub finish_goal : marked goals k ≡ true → stop (meet k s) ≡ finish n edge ends row goals (suc fuel) (frame x place ∷ fs) s
        finish_goal g =
            sym (finish_stopped n edge ends row goals (suc fuel) (frame x (suc place) ∷ fs) (stop (meet k s)) refl)
            ∙ ap (finish n edge ends row goals (suc fuel) (frame x (suc place) ∷ fs)) (sym (seek_goal n edge goals fuel k s on new g))
            ∙ turn_at
