-- The walks from the starts visit exactly what the starts reach.
-- Assumes nothing.
use mathlib.Core.Path.{◌≡◌, sym, ap, ◌∙◌}
use mathlib.Core.Bool.{Bool, true, false, false≢true}
use mathlib.Core.List.{List, []}
use mathlib.Core.Logic.{⊎_elim, ◌↔◌}
use Prim.Native.Nat.{ℕ, zero, ◌<◌, zero-le}
use native.Mathlib.Omega.{arith}
use lib.ListN.{length, get_or-eq_default}
use Rattle.tables.specs.Order.{member}
use Rattle.tables.specs.Laws.{order?}
use Rattle.regions.specs.Graph.{Edges, Within, Reach, here, step, marked, range, each}
use Rattle.regions.specs.Kosaraju.{visit, starts_of, reached}
use Rattle.regions.proofs.Laws.Lists.{◌∈◌, mem-∈, ∈-mem, ∈-range, range-∈, ∈-filter, filter-∈, table, length_table, get_or_table}
use Rattle.regions.proofs.Laws.Model.{Trace, begin, explore}
use Rattle.regions.proofs.Laws.Refine.{cells_begin, each_visit_refines}
use Rattle.regions.proofs.Laws.Walks.{Visits, each_visits, visits, starts, unstacked}

reach_below : {n : ℕ} {edge : Edges} → Within n edge → {a b : ℕ} → Reach edge a b → a < n → b < n
reach_below within here h = h
reach_below within (step {a} {b} e p) h = reach_below within p (within a b e).1

module _ (n : ℕ) (edge : Edges) (within : Within n edge) (marks : List Bool) where
  start_of : (s : ℕ) → s ∈ starts_of n marks → (s < n) × (marked marks s ≡ true)
  start_of s h =
      let f = ∈-filter (marked marks) s (range zero n) h in
      let p = ∈-range s zero n f.0 in
      (omega arith, f.1)

  of_start : (s : ℕ) → s < n → marked marks s ≡ true → s ∈ starts_of n marks
  of_start s h m = filter-∈ (marked marks) s (range zero n) (range-∈ s zero n zero-le (omega arith)) m

  trace : Trace
  trace = each (explore n edge n) (starts_of n marks) (begin [])

  walks : Visits n edge [] [] (starts_of n marks) (begin []) trace
  unfolding trace
  walks =
      each_visits n edge [] (explore n edge n) [] (starts_of n marks)
      (λ x h s i. visits n edge [] within n x [] s (start_of x h).0 (unstacked n edge x) i)
      (begin []) (starts n edge [])

  reached_is : reached n edge marks ≡ table n (λ y. member y trace.visited)
  unfolding reached trace
  reached_is =
      ap (λ s. s.visited)
      (ap (each (visit n edge n) (starts_of n marks)) (cells_begin n)
      ∙ sym (each_visit_refines n edge n (starts_of n marks) (λ y h. (start_of y h).0) (begin [])))

  finished : (y : ℕ) → y ∈ trace.visited → y ∈ trace.finished
  finished y h = ⊎_elim absurd (⊎_elim absurd (λ f. f)) (walks.inv.seen y h)

  -- what is visited is reached from a start
  sound : (y : ℕ) → y ∈ trace.visited → (s : ℕ) × (s < n) × (marked marks s ≡ true) × Reach edge s y
  sound y h =
      ⊎_elim absurd (λ r. let p = start_of r.0 r.1 in (r.0, p.0, p.1, r.2)) (walks.from y (finished y h))

  -- a chain that begins at a visited node ends at one
  complete : {a b : ℕ} → Reach edge a b → a ∈ trace.visited → b ∈ trace.visited
  complete here h = h
  complete (step {a} {b} e p) h = complete p (walks.inv.closed a b (finished a h) e)

  pub reached_length : length (reached n edge marks) ≡ n
  reached_length = ap length reached_is ∙ length_table n (λ y. member y trace.visited)

  reached_at : (k : ℕ) → k < n → marked (reached n edge marks) k ≡ member k trace.visited
  reached_at k h = ap (λ l. marked l k) reached_is ∙ get_or_table n (λ y. member y trace.visited) k false h

  reached_low : (k : ℕ) → marked (reached n edge marks) k ≡ true → k < n
  reached_low k e =
      ⊎_elim
      (λ h. absurd (false≢true (sym (get_or-eq_default (reached n edge marks) false (let l = reached_length in omega arith)) ∙ e)))
      (λ h. h)
      (order? n k)

  pub reached_exactly : (k : ℕ) → (marked (reached n edge marks) k ≡ true) ↔ ((s : ℕ) × (s < n) × (marked marks s ≡ true) × Reach edge s k)
  reached_exactly k = (
    λ e. sound k (mem-∈ k trace.visited (sym (reached_at k (reached_low k e)) ∙ e)),
    λ r. reached_at k (reach_below within r.3 r.1) ∙ ∈-mem k trace.visited (complete r.3 (walks.done r.0 (of_start r.0 r.1 r.2))),
  )

  pub reached_includes : (s : ℕ) → s < n → marked marks s ≡ true → marked (reached n edge marks) s ≡ true
  reached_includes s h m = (reached_exactly s).1 (s, h, m, here)
