-- The order in which the quick walk finishes, by list place.
--     order_low     its nodes are members
--     finished      each one's list place
-- Assumes nothing.
use Rattle.std.specs.Prelude.{None}
use mathlib.Core.Path.{◌≡◌, sym, ap, subst, ◌∙◌}
use mathlib.Core.List.{List}
use Prim.Native.Nat.{ℕ, ◌≤◌, ◌<◌}
use native.Mathlib.Omega.{arith}
use lib.IntN.{ℤ}
use lib.ListN.{length, get_or}
use Rattle.std.proofs.lemmas.List.{take_all}
use Rattle.lists.specs.Ids.{first_repeated, MemberPlace}
use Rattle.lists.specs.Records.{component_count}
use Rattle.regions.specs.Graph.{Edges, at}
use Rattle.regions.specs.Kosaraju.{order}
use Rattle.regions.specs.Search.{Ordered}
use Rattle.regions.proofs.Laws.Lists.{get_or-∈}
use Rattle.regions.proofs.Laws.Main.{order_nodes, order_length}
use Rattle.graph.specs.Rows.{Rows, edges_of}
use Rattle.graph.proofs.Rows.{edges_are}
use Rattle.reach_table.specs.Square.{Finished}

module _ {n : ℕ} {edge : Edges} {ends next nodes₀ nodes stack : List ℕ} (r : Rows n edge ends next)
    (w : Ordered (length ends) (edges_of ends next) nodes₀ nodes stack) (room : length nodes ≡ n) where
  -- the array holds the order
  order_is : nodes ≡ order n edge
  order_is =
      let v : Ordered n edge nodes₀ nodes stack =
      subst (λ (g : Edges). Ordered n g nodes₀ nodes stack) (edges_are r.rows) (subst (λ (k : ℕ). Ordered k (edges_of ends next) nodes₀ nodes stack) r.rows.nodes w) in
      sym (take_all n nodes (omega arith)) ∙ v.order_is

  pub order_low : (k : ℕ) → k < n → get_or nodes k 0 < n
  order_low k h =
      let within = r.rows.within in
      let l : k < length (order n edge) = omega (arith, order_length n edge within) in
      subst (λ (x : ℕ). x < n) (sym (ap (λ (l : List ℕ). get_or l k 0) order_is))
      ((order_nodes n edge within (get_or (order n edge) k 0)).0 (get_or-∈ (order n edge) k 0 l))

  pub order_at : (k : ℕ) → get_or nodes k 0 ≡ at (order n edge) k
  order_at k = ap (λ (l : List ℕ). get_or l k 0) order_is

pub finished : {cs : List ℤ} {i : ℕ} {edge : Edges} {ends next nodes₀ nodes places stack : List ℕ} → first_repeated cs ≡ None → Rows (component_count cs) edge ends next
    → Ordered (length ends) (edges_of ends next) nodes₀ nodes stack → length nodes ≡ component_count cs → length places ≡ component_count cs → component_count cs ≤ i
    → ((k : ℕ) → k < i → MemberPlace cs (get_or nodes k 0) (get_or places k 0))
    → Finished cs edge places stack
finished {i = i} once r w room kept past place = record {
  places_in = record { long = kept; below = λ k h. (place k (omega arith)).below };
  nodes = λ k h. (place k (omega arith)).member once ∙ order_at r w room k;
  stack_zeros = w.stack_zeros;
}
