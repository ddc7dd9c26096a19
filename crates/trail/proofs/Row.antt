-- The row of a node holds its neighbours, by rising number.
-- Assumes nothing.
use Prim.Native.Nat.{ℕ, ◌≤◌, ◌<◌}
use mathlib.Core.Path.{◌≡◌, sym, subst}
use mathlib.Core.Bool.{true}
use mathlib.Core.List.{List}
use lib.ListN.{length}
use Rattle.regions.specs.Graph.{Edges, at}
use Rattle.graph.specs.Rows.{row_of, Rows}
use Rattle.graph.proofs.Rows.{at_row, row_low, in_row}

pub record Neighbours (n : ℕ) (edge : Edges) (x : ℕ) (row : List ℕ) : Type 0 where
  pub rising : (i j : ℕ) → i ≤ j → j < length row → at row i ≤ at row j
  pub low : (i : ℕ) → i < length row → at row i < n
  pub held : (i : ℕ) → i < length row → edge x (at row i) ≡ true
  pub all : (y : ℕ) → edge x y ≡ true → (i : ℕ) × (i < length row) × (at row i ≡ y)

pub neighbours : {n : ℕ} {edge : Edges} {ends next : List ℕ} → Rows n edge ends next → (x : ℕ) → x < n → {row : List ℕ} → row ≡ row_of ends next x → Neighbours n edge x row
neighbours {n} {edge} r x lt is =
    subst (Neighbours n edge x) (sym is)
    (record {
      rising = λ i j le h. (r.rising x lt).at i j le h;
      low = λ i h. row_low r x lt i h;
      held = λ i h. at_row r x lt i h;
      all = λ y e. in_row r x lt y e;
    })
