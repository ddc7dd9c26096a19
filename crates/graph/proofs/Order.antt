-- The loops of `finish_order` and `reach_from`: walks from a list of nodes, one after the other. Their invariant is `Walked`.
-- Assumes nothing.
use mathlib.Core.Path.{◌≡◌, refl, sym, ap, ◌∙◌, subst}
use mathlib.Core.Bool.{Bool, true, false}
use mathlib.Core.List.{List, [], ◌∷◌, ◌++◌}
use Prim.Native.Nat.{ℕ, zero, ◌+◌, ◌≤◌, ◌<◌}
use native.Mathlib.Omega.{arith}
use lib.ListN.{length, take, drop, replicate, length-replicate}
use lib.Seq.{length-take-le}
use Rattle.regions.specs.Graph.{Edges, Within, marked, range, filter, each}
use Rattle.regions.specs.Kosaraju as Kosaraju
use Rattle.regions.specs.Kosaraju.{visit, unvisited, starts_of, reached}
use Rattle.regions.specs.Search.{walk_of, fresh, Zeros, Searched, Ordered, Reached}
use Rattle.regions.proofs.Laws.Loops.{each_append}
use Rattle.regions.proofs.Laws.Main.{order_length}
use Rattle.regions.proofs.Order.{fresh_none, drop_more, range_next, starts_more, starts_same}
use Rattle.graph.specs.inner.Room.{Room}
use Rattle.graph.proofs.Stack.{searched_old}

-- the arrays have room after a call that keeps the lengths; the order may be another array
pub room_kept : {n : ℕ} {visited visited' : List Bool} {order order' stack stack' : List ℕ} → Room n visited order stack
    → length visited' ≡ length visited → n ≤ length order' → length stack' ≡ length stack → Zeros stack' → Room n visited' order' stack'
room_kept r v o s z = record { nodes = r.nodes; visited_length = v ∙ r.visited_length; order_room = o; stack_room = omega arith; stack_zeros = z }

-- ---- the invariant: the arrays hold what the walks from the nodes of l leave

pub record Walked (n : ℕ) (edge : Edges) (order₀ : List ℕ) (visited : List Bool) (order : List ℕ) (count : ℕ) (stack l : List ℕ) : Type 0 where
  pub walks : walk_of visited order count ≡ each (visit n edge n) l (unvisited n)
  pub rest : drop count order ≡ drop count order₀
  pub adds : count + fresh visited ≡ n
  pub room : Room n visited order stack

module _ {n : ℕ} (edge : Edges) {order₀ stack : List ℕ} {visited₀ visited : List Bool} (r : Room n visited₀ order₀ stack)
    (cleared : visited ≡ replicate (length visited₀) false) where
  begin : Walked n edge order₀ visited order₀ 0 stack []
  unfolding each
  begin =
      let e : visited ≡ replicate n false = cleared ∙ ap (λ (k : ℕ). replicate k false) r.visited_length in
      record {
        walks = ap (λ v. walk_of v order₀ 0) e;
        rest = refl;
        adds = let f = ap fresh e in let g = fresh_none n in omega arith;
        room = room_kept r (ap length cleared ∙ length-replicate (length visited₀) false) r.order_room refl r.stack_zeros;
      }

  pub order_begin : Walked n edge order₀ visited order₀ 0 stack (range zero 0)
  unfolding range
  order_begin = begin

  pub reach_begin : (marks : List Bool) → Walked n edge order₀ visited order₀ 0 stack (starts_of 0 marks)
  unfolding range filter
  reach_begin marks = begin

module _ {n : ℕ} {edge : Edges} {order₀ : List ℕ} {visited : List Bool} {order : List ℕ} {count : ℕ} {stack l : List ℕ}
    (w : Walked n edge order₀ visited order count stack l) where
  walked_at : {m : List ℕ} → l ≡ m → Walked n edge order₀ visited order count stack m
  walked_at e = subst (λ m. Walked n edge order₀ visited order count stack m) e w

  -- the next walk has room
  pub walk_room : (start : ℕ) → start < n → (start < n) × (count + fresh visited ≤ n) × Room n visited order stack
  walk_room start lt = (lt, (let a = w.adds in omega arith), w.room)

  -- after the walk from one more node
  module _ {start : ℕ} {visited' : List Bool} {order' : List ℕ} {count' : ℕ} {stack' : List ℕ}
      (s : Searched n edge start visited order count visited' order' count' stack')
      (lv : length visited' ≡ length visited) (lo : length order' ≡ length order) (ls : length stack' ≡ length stack) where
    walk_more : Walked n edge order₀ visited' order' count' stack' (l ++ (start ∷ []))
    unfolding each
    walk_more =
        record {
          walks = s.visits ∙ ap (visit n edge n start) w.walks ∙ sym (each_append (visit n edge n) l (start ∷ []) (unvisited n));
          rest = s.rest ∙ drop_more order order₀ s.grows w.rest;
          adds = s.adds ∙ w.adds;
          room = room_kept w.room lv (let a = w.room.order_room in omega arith) ls s.stack_zeros;
        }

-- ---- finish_order

module _ {n : ℕ} {edge : Edges} {order₀ : List ℕ} {visited : List Bool} {order : List ℕ} {count : ℕ} {stack : List ℕ} (start : ℕ)
    (w : Walked n edge order₀ visited order count stack (range zero start)) where
  pub order_more : {visited' : List Bool} {order' : List ℕ} {count' : ℕ} {stack' : List ℕ}
      → Searched n edge start visited order count visited' order' count' stack'
      → length visited' ≡ length visited → length order' ≡ length order → length stack' ≡ length stack
      → Walked n edge order₀ visited' order' count' stack' (range zero (start + 1))
  order_more s lv lo ls = walked_at (walk_more w s lv lo ls) (sym (range_next start))

  -- a node that is visited already
  pub order_skip : marked visited start ≡ true → Walked n edge order₀ visited order count stack (range zero (start + 1))
  order_skip old = order_more (searched_old n edge start visited order count stack w.room.stack_zeros old) refl refl refl

  pub order_end : Within n edge → start ≤ n → n ≤ start → Ordered n edge order₀ order stack
  unfolding Kosaraju.order
  order_end within le ge =
      let e : start ≡ n = omega arith in
      let front : take count order ≡ Kosaraju.order n edge =
      ap (λ s. s.order) w.walks ∙ ap (λ (k : ℕ). (each (visit n edge n) (range zero k) (unvisited n)).order) e in
      let all : count ≡ n =
      sym (length-take-le count order (let a = w.adds in let b = w.room.order_room in omega arith)) ∙ ap length front ∙ order_length n edge within in
      record {
        order_is = ap (λ (k : ℕ). take k order) (sym all) ∙ front;
        rest = subst (λ (k : ℕ). drop k order ≡ drop k order₀) all w.rest;
        stack_zeros = w.room.stack_zeros;
      }

-- ---- reach_from

module _ {n : ℕ} {edge : Edges} {order₀ : List ℕ} {visited : List Bool} {order : List ℕ} {count : ℕ} {stack : List ℕ} (start : ℕ) (marks : List Bool)
    (w : Walked n edge order₀ visited order count stack (starts_of start marks)) where
  pub reach_more : {visited' : List Bool} {order' : List ℕ} {count' : ℕ} {stack' : List ℕ} → marked marks start ≡ true
      → Searched n edge start visited order count visited' order' count' stack'
      → length visited' ≡ length visited → length order' ≡ length order → length stack' ≡ length stack
      → Walked n edge order₀ visited' order' count' stack' (starts_of (start + 1) marks)
  reach_more m s lv lo ls = walked_at (walk_more w s lv lo ls) (sym (starts_more marks start m))

  pub reach_skip : marked marks start ≡ false → Walked n edge order₀ visited order count stack (starts_of (start + 1) marks)
  reach_skip m = walked_at w (sym (starts_same marks start m))

  pub reach_end : start ≤ n → n ≤ start → Reached n edge marks visited stack
  unfolding reached
  reach_end le ge =
      let e : start ≡ n = omega arith in
      record {
        visited_is = ap (λ s. s.visited) w.walks ∙ ap (λ (k : ℕ). (each (visit n edge n) (starts_of k marks) (unvisited n)).visited) e;
        stack_zeros = w.room.stack_zeros;
      }
