-- The walk back: what `label_from` asks and does, the loop of `label_all` with its invariant `Labelling`, and the two walks of `regions`.
-- Assumes nothing.
use mathlib.Core.Path.{◌≡◌, refl, sym, ap, ap₂, ◌∙◌, subst}
use mathlib.Core.Bool.{Bool, false}
use mathlib.Core.List.{List, [], ◌∷◌, ◌++◌, reverse, reverse-cons, append-nil, append_assoc}
use mathlib.Core.Logic.{inl}
use Prim.Native.Nat.{ℕ, ◌+◌, ◌≤◌, ◌<◌}
use native.Mathlib.Omega.{arith}
use lib.ListN.{length, replicate, length-replicate, length-append}
use Rattle.regions.specs.Graph.{Edges, Within, flip, each}
use Rattle.regions.specs.Kosaraju as Kosaraju
use Rattle.regions.specs.Kosaraju.{label, unlabelled}
use Rattle.regions.specs.Search.{fresh, Searched, labels_of, Labelled, Regions}
use Rattle.regions.proofs.Laws.Main as Main
use Rattle.regions.proofs.Laws.Lists.{◌∈◌, ∈-right}
use Rattle.regions.proofs.Laws.Loops.{each_append}
use Rattle.regions.proofs.Label.{fresh_le, label_count}
use Rattle.graph.specs.Rows.{Rows, edges_of}
use Rattle.graph.specs.inner.Room.{Room}
use Rattle.graph.proofs.Rows.{edges_are}
use Rattle.graph.proofs.Order.{room_kept}

pub within_flip : {n : ℕ} {edge : Edges} → Within n edge → Within n (flip edge)
within_flip w a b h = let p = w b a h in (p.1, p.0)

-- ---- label_from

-- an empty order has room for every node that is not visited
pub fresh_room : {n : ℕ} {visited : List Bool} {order stack : List ℕ} → Room n visited order stack → fresh visited ≤ n
fresh_room {visited = visited} r = let f = fresh_le visited in omega arith

-- and no more are added
pub members_few : {n : ℕ} {edge : Edges} {x : ℕ} {visited₀ visited : List Bool} {members₀ members stack₀ stack : List ℕ} {size : ℕ}
    → Room n visited₀ members₀ stack₀ → Searched n edge x visited₀ members₀ 0 visited members size stack → length members ≡ length members₀
    → size ≤ length members
members_few r s long = let f = fresh_room r in let room = r.order_room in let a = s.adds in omega arith

-- ---- label_all

-- In the loop: `rest` is left of the order, and the nodes after it are dealt with, the last first
pub record Labelling (n : ℕ) (edge : Edges) (visited : List Bool) (labels : List ℕ) (count : ℕ) (members stack rest : List ℕ) : Type 0 where
  pub done : List ℕ
  pub order_is : rest ++ done ≡ Kosaraju.order n edge
  pub labels_are : labels_of visited labels count ≡ each (label n edge) (reverse done) (unlabelled n)
  pub count_room : count + length rest ≤ n
  pub labels_length : length labels ≡ n
  pub room : Room n visited members stack

pub label_begin : {n : ℕ} {edge : Edges} {labels : List ℕ} {visited₀ visited : List Bool} {members stack order : List ℕ} (labels₀ : List ℕ) → Within n edge
    → order ≡ Kosaraju.order n edge → length labels₀ ≡ n → Room n visited₀ members stack
    → labels ≡ replicate (length labels₀) 0 → visited ≡ replicate (length visited₀) false → Labelling n edge visited labels 0 members stack order
unfolding each
label_begin {n} {edge} {visited₀ = visited₀} {order = order} labels₀ within is long room l v =
    let e = ap length is ∙ Main.order_length n edge within in
    let lc = l ∙ ap (λ (k : ℕ). replicate k 0) long in
    let vc = v ∙ ap (λ (k : ℕ). replicate k false) room.visited_length in
    record {
      done = [];
      order_is = append-nil order ∙ is;
      labels_are = ap₂ (λ a b. labels_of a b 0) vc lc;
      count_room = omega arith;
      labels_length = ap length lc ∙ length-replicate n 0;
      room = room_kept room (ap length v ∙ length-replicate (length visited₀) false) room.order_room refl room.stack_zeros;
    }

module _ {n : ℕ} {edge : Edges} {visited : List Bool} {labels : List ℕ} {count : ℕ} {members stack rest : List ℕ}
    (front : List ℕ) (node : ℕ) (l : Labelling n edge visited labels count members stack rest) (last : rest ≡ front ++ (node ∷ [])) where
  -- the node that comes next, and those after it
  order_next : front ++ (node ∷ l.done) ≡ Kosaraju.order n edge
  order_next = sym (append_assoc front (node ∷ []) l.done) ∙ ap (λ m. m ++ l.done) (sym last) ∙ l.order_is

  shorter : length rest ≡ length front + 1
  shorter = ap length last ∙ length-append front (node ∷ [])

  pub label_room : Within n edge → (node < n) × (count < n) × (length labels ≡ n) × Room n visited members stack
  label_room within =
      let low = (Main.order_nodes n edge within node).0 (subst (λ m. node ∈ m) order_next (∈-right node front (node ∷ l.done) (inl refl))) in
      let less = shorter in
      let few = l.count_room in
      (low, omega arith, l.labels_length, l.room)

  -- after `label_from` at the node
  pub label_more : {visited' : List Bool} {labels' : List ℕ} {count' : ℕ} {members' stack' : List ℕ}
      → Labelled n edge node visited labels count visited' labels' count' stack'
      → length visited' ≡ length visited → length labels' ≡ length labels → length members' ≡ length members → length stack' ≡ length stack
      → Labelling n edge visited' labels' count' members' stack' front
  unfolding each
  label_more r lv ll lm ls =
      record {
        done = node ∷ l.done;
        order_is = order_next;
        labels_are =
            r.labels
            ∙ ap (label n edge node) l.labels_are
            ∙ sym (each_append (label n edge) (reverse l.done) (node ∷ []) (unlabelled n))
            ∙ ap (λ m. each (label n edge) m (unlabelled n)) (sym (reverse-cons node l.done));
        count_room =
            let a = ap (λ s. s.count) r.labels in
            let b = label_count n edge node (labels_of visited labels count) in
            let less = shorter in
            omega arith;
        labels_length = ll ∙ l.labels_length;
        room = room_kept l.room lv (let o = l.room.order_room in omega arith) ls r.stack_zeros;
      }

pub label_end : {n : ℕ} {edge : Edges} {visited : List Bool} {labels : List ℕ} {count : ℕ} {members stack rest : List ℕ}
    → Labelling n edge visited labels count members stack rest → length rest ≡ 0 → Regions n edge labels count stack
unfolding Kosaraju.labels
label_end {n} {edge} {rest = []} l h =
    let all = l.labels_are ∙ ap (λ m. each (label n edge) (reverse m) (unlabelled n)) l.order_is in
    record { count_is = ap (λ s. s.count) all; labels_are = ap (λ s. s.region_of) all; stack_zeros = l.room.stack_zeros }
label_end {rest = x ∷ rest} l h = absurd (omega arith)

-- ---- regions: the rows of the edges turned around

module _ {n : ℕ} {edge : Edges} {ends back : List ℕ} (r : Rows n (flip edge) ends back) where
  backward_edges : flip (edges_of ends back) ≡ edge
  backward_edges = ap flip (edges_are r.rows)

  pub order_backward : {order : List ℕ} → order ≡ Kosaraju.order n edge → order ≡ Kosaraju.order (length ends) (flip (edges_of ends back))
  order_backward e = e ∙ ap₂ Kosaraju.order (sym r.rows.nodes) (sym backward_edges)

  pub regions_forward : {labels : List ℕ} {count : ℕ} {stack : List ℕ} → Regions (length ends) (flip (edges_of ends back)) labels count stack
      → Regions n edge labels count stack
  regions_forward {labels} {count} {stack} g =
      subst (λ e. Regions n e labels count stack) backward_edges
      (subst (λ (k : ℕ). Regions k (flip (edges_of ends back)) labels count stack) r.rows.nodes g)
