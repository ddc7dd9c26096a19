-- The open calls of `visit` as a stack of frames, and what one turn of a walk along rows does to it. No array is spoken of here but the
-- rows.
-- Assumes nothing.
use mathlib.Core.Path.{◌≡◌, sym, ap, ◌∙◌}
use mathlib.Core.Bool.{true, false}
use mathlib.Core.List.{List, [], ◌∷◌}
use Prim.Native.Nat.{ℕ, suc, ◌≤◌, ◌<◌}
use native.Mathlib.Omega.{arith}
use lib.ListN.{length, get_or, length-set}
use Rattle.regions.specs.Graph.{Edges, marked, each}
use Rattle.regions.specs.Kosaraju.{Walk, mark, push, visit}
use Rattle.regions.proofs.Again.{visit_old, visit_new, visit_long, visit_again}
use Rattle.regions.proofs.Frames.{Frame, frame}
use Rattle.graph.specs.Rows.{begin_of, end_of, cut, row_of, Rows}
use Rattle.graph.proofs.Rows.{cut_end, cut_cons, row_each}

-- the place lies in the row of the node, or at its end
pub record Placed (n : ℕ) (ends : List ℕ) (x place : ℕ) : Type 0 where
  pub node_below : x < n
  pub from_begin : begin_of ends x ≤ place
  pub to_end : place ≤ end_of ends x

abbrev pub AllPlaced : ℕ → List ℕ → List Frame → Type 0
AllPlaced n ends [] = Unit {0}
AllPlaced n ends (f ∷ fs) = Placed n ends f.node f.place × AllPlaced n ends fs

-- what is left to do: for each frame, the top first, the neighbours from its place on, and then the node goes into the order
unfoldable pub finish : ℕ → Edges → List ℕ → List ℕ → ℕ → List Frame → Walk → Walk
finish n edge ends row fuel [] s = s
finish n edge ends row fuel (f ∷ fs) s =
    finish n edge ends row (suc fuel) fs (push f.node (each (visit n edge fuel) (cut row f.place (end_of ends f.node)) s))

module _ {n : ℕ} {edge : Edges} {ends row : List ℕ} (r : Rows n edge ends row) where
  -- a call is opened where the row of its node begins
  opened : (fuel k : ℕ) (s : Walk) → k < n → length s.visited ≡ n → marked s.visited k ≡ false
      → push k (each (visit n edge fuel) (row_of ends row k) (mark k s)) ≡ visit n edge (suc fuel) k s
  opened fuel k s lt len new =
      ap (push k)
      (row_each (visit n edge fuel) (λ t. length t.visited ≡ n) (visit_long n edge fuel) n (λ j t h long. visit_again n edge j fuel t (omega arith)) r k lt
      (mark k s) (length-set s.visited k true ∙ len))
      ∙ sym (visit_new n edge fuel k s new)

  pub finish_start : (fuel x : ℕ) (s : Walk) → x < n → length s.visited ≡ n → marked s.visited x ≡ false
      → finish n edge ends row fuel (frame x (begin_of ends x) ∷ []) (mark x s) ≡ visit n edge (suc fuel) x s
  unfolding finish
  finish_start fuel x s lt len new = opened fuel x s lt len new

  module _ (x place : ℕ) (fs : List Frame) (s : Walk) where
    -- no neighbour is left: the node goes into the order
    pub finish_leave : (fuel : ℕ) → end_of ends x ≤ place → finish n edge ends row (suc fuel) fs (push x s) ≡ finish n edge ends row fuel (frame x place ∷ fs) s
    unfolding finish each
    finish_leave fuel h = ap (λ m. finish n edge ends row (suc fuel) fs (push x (each (visit n edge fuel) m s))) (sym (cut_end row place (end_of ends x) h))

    module _ (lt : x < n) (h : place < end_of ends x) where
      -- the next neighbour
      turn : (fuel : ℕ) → finish n edge ends row fuel (frame x (suc place) ∷ fs) (visit n edge fuel (get_or row place 0) s)
          ≡ finish n edge ends row fuel (frame x place ∷ fs) s
      unfolding finish each
      turn fuel =
          ap (λ m. finish n edge ends row (suc fuel) fs (push x (each (visit n edge fuel) m s)))
          (sym (cut_cons row place (end_of ends x) h (r.rows.inside x lt)))

      -- it is visited
      pub finish_pass : (fuel : ℕ) → marked s.visited (get_or row place 0) ≡ true
          → finish n edge ends row fuel (frame x (suc place) ∷ fs) s ≡ finish n edge ends row fuel (frame x place ∷ fs) s
      finish_pass fuel e =
          ap (finish n edge ends row fuel (frame x (suc place) ∷ fs)) (sym (visit_old n edge fuel (get_or row place 0) s e)) ∙ turn fuel

      -- it is not: its call is opened
      pub finish_enter : (fuel k : ℕ) → k ≡ get_or row place 0 → k < n → length s.visited ≡ n → marked s.visited k ≡ false
          → finish n edge ends row fuel (frame k (begin_of ends k) ∷ frame x (suc place) ∷ fs) (mark k s)
          ≡ finish n edge ends row (suc fuel) (frame x place ∷ fs) s
      unfolding finish
      finish_enter fuel k e low len new =
          ap (finish n edge ends row (suc fuel) (frame x (suc place) ∷ fs)) (opened fuel k s low len new ∙ ap (λ (j : ℕ). visit n edge (suc fuel) j s) e)
          ∙ turn (suc fuel)
