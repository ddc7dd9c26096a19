-- The loop of `visit_from`: its invariant `Open`, its measure `effort`, and what each of its turns does to them.
-- Assumes nothing.
use mathlib.Core.Path.{◌≡◌, refl, sym, ap, ap₂, ◌∙◌, subst}
use mathlib.Core.Bool.{Bool, true, false}
use mathlib.Core.List.{List, ◌∷◌}
use mathlib.Core.Logic.{⊎_elim}
use Prim.Native.Nat.{ℕ, suc, ◌+◌, ◌*◌, ◌-◌, ◌≤◌, ◌<◌}
use native.Mathlib.Numerals.{add-one}
use native.Mathlib.Omega.{arith}
use lib.ListN.{length, get_or, set, take, drop, length-set}
use lib.Seq.{get_or-set_other, take-suc-set, drop-set-lt, drop-drop}
use Rattle.tables.specs.Laws.{same?}
use Rattle.regions.specs.Graph.{Edges, marked}
use Rattle.regions.specs.Kosaraju.{Walk, push, visit}
use Rattle.regions.specs.Search.{walk_of, weight, fresh, Zeros, Searched}
use Rattle.regions.proofs.Again.{visit_old}
use Rattle.regions.proofs.Frames.{frame}
use Rattle.regions.proofs.Stack.{weight_mark, zero_set, frames, frames_set, frames_push, work}
use Rattle.graph.specs.Rows.{begin_of, end_of, Rows}
use Rattle.graph.specs.inner.Room.{narrow, Room}
use Rattle.graph.proofs.Rows.{neighbour_low}
use Rattle.graph.proofs.Frames.{Placed, AllPlaced, finish, finish_start, finish_leave, finish_pass, finish_enter}

-- ---- the invariant and the measure

-- Of m places: a turn leaves a frame, or passes a place, or passes one, marks a node and opens a frame with at most m + 1 steps of its own.
abbrev pub effort : ℕ → List Bool → ℕ → List ℕ → ℕ → ℕ → ℕ
effort m visited depth stack node place = weight (m + 2) visited + work m (frame node place ∷ frames depth stack)

-- In the loop: to finish the open calls gives the state `goal`. The arrays were order₀ and stack₀ at the start, and the order had count₀
-- nodes. `total` is the number of nodes that are open, in the order, or not visited.
pub record Open (n : ℕ) (edge : Edges) (ends next : List ℕ) (goal : Walk) (total count₀ : ℕ) (order₀ stack₀ : List ℕ)
    (visited : List Bool) (order : List ℕ) (count : ℕ) (stack : List ℕ) (depth node place : ℕ) : Type 0 where
  pub rows : Rows n edge ends next
  pub nodes : n ≤ narrow
  pub finishes : finish n edge ends next (n - suc depth) (frame node place ∷ frames depth stack) (walk_of visited order count) ≡ goal
  pub here : Placed n ends node place
  pub below : AllPlaced n ends (frames depth stack)
  pub past : (i : ℕ) → 2 * depth ≤ i → get_or stack i 0 ≡ 0
  pub rest : drop count order ≡ drop count order₀
  pub grows : count₀ ≤ count
  pub total_is : suc depth + (count + fresh visited) ≡ total
  pub total_fits : total ≤ n
  pub visited_length : length visited ≡ n
  pub order_length : length order ≡ length order₀
  pub order_room : n ≤ length order₀
  pub stack_length : length stack ≡ length stack₀
  pub stack_room : 2 * n ≤ length stack₀

-- ---- a turn of the loop

module _ {n : ℕ} {edge : Edges} {ends next : List ℕ} {goal : Walk} {total count₀ : ℕ} {order₀ stack₀ : List ℕ}
    {visited : List Bool} {order : List ℕ} {count : ℕ} {stack : List ℕ} {depth node place : ℕ}
    (o : Open n edge ends next goal total count₀ order₀ stack₀ visited order count stack depth node place) where
  pub depth_low : depth < n
  depth_low = omega arith

  place_in : end_of ends node ≤ length next
  place_in = o.rows.rows.inside node o.here.node_below

  module _ (more : place < end_of ends node) {k : ℕ} (is : k ≡ get_or next place 0) where
    pub read_in : place < length next
    read_in = let w = place_in in omega arith

    pub low : k < n
    low = subst (λ (j : ℕ). j < n) (sym is) (neighbour_low o.rows.rows node place o.here.node_below o.here.from_begin more)

    placed_on : Placed n ends node (place + 1)
    placed_on = let f = o.here.from_begin in record { node_below = o.here.node_below; from_begin = omega arith; to_end = omega arith }

    -- ---- a neighbour that is visited is passed

    pub pass : marked visited k ≡ true → Open n edge ends next goal total count₀ order₀ stack₀ visited order count stack depth node (place + 1)
    pass old =
        record {
          rows = o.rows;
          nodes = o.nodes;
          finishes =
              ap (λ (j : ℕ). finish n edge ends next (n - suc depth) (frame node j ∷ frames depth stack) (walk_of visited order count)) (add-one place)
              ∙ finish_pass o.rows node place (frames depth stack) (walk_of visited order count) o.here.node_below more (n - suc depth)
              (ap (marked visited) (sym is) ∙ old)
              ∙ o.finishes;
          here = placed_on;
          below = o.below;
          past = o.past;
          rest = o.rest;
          grows = o.grows;
          total_is = o.total_is;
          total_fits = o.total_fits;
          visited_length = o.visited_length;
          order_length = o.order_length;
          order_room = o.order_room;
          stack_length = o.stack_length;
          stack_room = o.stack_room;
        }

    pub pass_less : effort (length next) visited depth stack node (place + 1) < effort (length next) visited depth stack node place
    unfolding work
    pass_less = let w = read_in in omega arith

    -- ---- the call of one that is not is opened

    module _ (new : marked visited k ≡ false) where
      fewer : fresh visited ≡ 1 + fresh (set visited k true)
      fewer = let h = low in weight_mark 1 visited k (omega arith) new

      pub enter_room : suc depth < n
      enter_room = let f = fewer in omega arith

      abbrev pushed : List ℕ
      pushed = set (set stack (2 * depth) node) (2 * depth + 1) (place + 1)

      frames_pushed : frames (depth + 1) pushed ≡ frame node (suc place) ∷ frames depth stack
      frames_pushed =
          let room = enter_room in
          ap (λ (d : ℕ). frames d pushed) (add-one depth)
          ∙ frames_push depth stack node (place + 1) (omega arith)
          ∙ ap (λ (j : ℕ). frame node j ∷ frames depth stack) (add-one place)

      pub enter : Open n edge ends next goal total count₀ order₀ stack₀ (set visited k true) order count pushed (depth + 1) k (begin_of ends k)
      enter =
          record {
            rows = o.rows;
            nodes = o.nodes;
            finishes =
                ap (λ m. finish n edge ends next (n - suc (depth + 1)) (frame k (begin_of ends k) ∷ m) (walk_of (set visited k true) order count)) frames_pushed
                ∙ finish_enter o.rows node place (frames depth stack) (walk_of visited order count) o.here.node_below more (n - suc (depth + 1)) k is low
                o.visited_length new
                ∙ ap (λ (f : ℕ). finish n edge ends next f (frame node place ∷ frames depth stack) (walk_of visited order count)) fuel
                ∙ o.finishes;
            here = record { node_below = low; from_begin = omega arith; to_end = o.rows.rows.ordered k low };
            below = subst (AllPlaced n ends) (sym frames_pushed) (subst (λ (j : ℕ). Placed n ends node j) (add-one place) placed_on, o.below);
            past = λ j h.
                get_or-set_other (set stack (2 * depth) node) (2 * depth + 1) j (place + 1) 0 (λ q. omega arith)
                ∙ get_or-set_other stack (2 * depth) j node 0 (λ q. omega arith) ∙ o.past j (omega arith);
            rest = o.rest;
            grows = o.grows;
            total_is = let f = fewer in omega arith;
            total_fits = o.total_fits;
            visited_length = simp length-set o.visited_length;
            order_length = o.order_length;
            order_room = o.order_room;
            stack_length = simp length-set o.stack_length;
            stack_room = o.stack_room;
          }
        where
          fuel : suc (n - suc (depth + 1)) ≡ n - suc depth
          fuel = let r = enter_room in omega arith

      pub enter_less : effort (length next) (set visited k true) (depth + 1) pushed k (begin_of ends k) < effort (length next) visited depth stack node place
      unfolding work
      enter_less =
          let p = ap (work (length next)) frames_pushed in
          let h = low in
          let m = weight_mark (length next + 2) visited k (omega arith) new in
          let w = read_in in
          omega arith

  -- ---- no neighbour is left: the call is closed

  module _ (last : end_of ends node ≤ place) where
    pub order_in : count < length order
    order_in = omega arith

    written : walk_of visited (set order count node) (count + 1) ≡ push node (walk_of visited order count)
    written =
        ap (λ m. record { visited = visited; order = m })
        (ap (λ (k : ℕ). take k (set order count node)) (add-one count) ∙ take-suc-set order count node order_in)

    left : finish n edge ends next (suc (n - suc depth)) (frames depth stack) (walk_of visited (set order count node) (count + 1)) ≡ goal
    left =
        ap (finish n edge ends next (suc (n - suc depth)) (frames depth stack)) written
        ∙ finish_leave o.rows node place (frames depth stack) (walk_of visited order count) (n - suc depth) last
        ∙ o.finishes

    rest_on : drop (count + 1) (set order count node) ≡ drop (count + 1) order₀
    rest_on =
        drop-set-lt (count + 1) order count node (omega arith) ∙ sym (drop-drop 1 count order) ∙ ap (drop 1) o.rest ∙ drop-drop 1 count order₀

    -- it was the first
    pub closed : depth ≡ 0 → walk_of visited (set order count node) (count + 1) ≡ goal
    unfolding finish frames
    closed e = ap (λ (d : ℕ). finish n edge ends next (suc (n - suc depth)) (frames d stack) (walk_of visited (set order count node) (count + 1))) (sym e) ∙ left

    pub closed_rest : drop (count + 1) (set order count node) ≡ drop (count + 1) order₀
    closed_rest = rest_on

    -- it was not
    module _ (more : ¬ (depth ≡ 0)) where
      abbrev top : ℕ
      top = depth - 1

      pub top_low : suc top ≡ depth
      top_low = ⊎_elim (λ e. absurd (more e)) (λ ne. omega arith) (same? depth 0)

      abbrev popped : List ℕ
      popped = set (set stack (2 * top) 0) (2 * top + 1) 0

      under : frames top popped ≡ frames top stack
      under = frames_set top (set stack (2 * top) 0) (2 * top + 1) 0 (omega arith) ∙ frames_set top stack (2 * top) 0 (omega arith)

      frames_whole : frame (get_or stack (2 * top) 0) (get_or stack (2 * top + 1) 0) ∷ frames top stack ≡ frames depth stack
      unfolding frames
      frames_whole = ap (λ (d : ℕ). frames d stack) top_low

      placed_whole : AllPlaced n ends (frame (get_or stack (2 * top) 0) (get_or stack (2 * top + 1) 0) ∷ frames top stack)
      placed_whole = subst (AllPlaced n ends) (sym frames_whole) o.below

      pub leave : Open n edge ends next goal total count₀ order₀ stack₀ visited (set order count node) (count + 1) popped top
          (get_or stack (2 * top) 0) (get_or stack (2 * top + 1) 0)
      leave =
          record {
            rows = o.rows;
            nodes = o.nodes;
            finishes =
                ap (λ m. finish n edge ends next (n - suc top) (frame (get_or stack (2 * top) 0) (get_or stack (2 * top + 1) 0) ∷ m) (walk_of visited (set order count node) (count + 1))) under
                ∙ ap₂ (λ (f : ℕ) m. finish n edge ends next f m (walk_of visited (set order count node) (count + 1))) fuel frames_whole
                ∙ left;
            here = placed_whole.0;
            below = subst (AllPlaced n ends) (sym under) placed_whole.1;
            past = λ i h. zero_set (set stack (2 * top) 0) (2 * top + 1) i (λ a. zero_set stack (2 * top) i (λ b. o.past i (let t = top_low in omega arith)));
            rest = rest_on;
            grows = omega arith;
            total_is = let t = top_low in omega arith;
            total_fits = o.total_fits;
            visited_length = o.visited_length;
            order_length = simp length-set o.order_length;
            order_room = o.order_room;
            stack_length = simp length-set o.stack_length;
            stack_room = o.stack_room;
          }
        where
          fuel : n - suc top ≡ suc (n - suc depth)
          fuel = let t = top_low in let d = depth_low in omega arith

      pub leave_less : effort (length next) visited top popped (get_or stack (2 * top) 0) (get_or stack (2 * top + 1) 0) < effort (length next) visited depth stack node place
      unfolding work
      leave_less =
          let p = ap (work (length next)) under in
          let w = ap (work (length next)) frames_whole in
          let b = o.here.to_end in
          let i = place_in in
          omega arith

-- ---- a whole search

-- the start is visited already
pub searched_old : (n : ℕ) (edge : Edges) (x : ℕ) (visited : List Bool) (order : List ℕ) (count : ℕ) (stack : List ℕ) → Zeros stack
    → marked visited x ≡ true → Searched n edge x visited order count visited order count stack
searched_old n edge x visited order count stack z old =
    record {
      visits = sym (visit_old n edge n x (walk_of visited order count) old);
      rest = refl;
      stack_zeros = z;
      grows = omega arith;
      adds = refl;
    }

-- the start is new: its call is opened
module _ {n x : ℕ} {edge : Edges} {ends next : List ℕ} {visited₀ : List Bool} {order₀ stack₀ : List ℕ} (count₀ : ℕ) (g : Rows n edge ends next)
    (lt : x < n) (fits : count₀ + fresh visited₀ ≤ n) (r : Room n visited₀ order₀ stack₀) (new : marked visited₀ x ≡ false) where
  abbrev visited₁ : List Bool
  visited₁ = set visited₀ x true

  abbrev total : ℕ
  total = suc 0 + (count₀ + fresh visited₁)

  total_same : total ≡ count₀ + fresh visited₀
  total_same = let w = weight_mark 1 visited₀ x (omega arith) new in omega arith

  abbrev goal : Walk
  goal = finish n edge ends next (n - suc 0) (frame x (begin_of ends x) ∷ frames 0 stack₀) (walk_of visited₁ order₀ count₀)

  goal_is : goal ≡ visit n edge n x (walk_of visited₀ order₀ count₀)
  unfolding frames
  goal_is =
      finish_start g (n - suc 0) x (walk_of visited₀ order₀ count₀) lt r.visited_length new
      ∙ ap (λ (f : ℕ). visit n edge f x (walk_of visited₀ order₀ count₀)) (omega arith)

  pub begin : Open n edge ends next goal total count₀ order₀ stack₀ visited₁ order₀ count₀ stack₀ 0 x (begin_of ends x)
  unfolding frames
  begin =
      record {
        rows = g;
        nodes = r.nodes;
        finishes = refl;
        here = record { node_below = lt; from_begin = omega arith; to_end = g.rows.ordered x lt };
        below = tt;
        past = λ j h. r.stack_zeros j;
        rest = refl;
        grows = omega arith;
        total_is = refl;
        total_fits = let t = total_same in omega arith;
        visited_length = simp length-set r.visited_length;
        order_length = refl;
        order_room = r.order_room;
        stack_length = refl;
        stack_room = r.stack_room;
      }

  pub searched : {visited : List Bool} {order : List ℕ} {count : ℕ} {stack : List ℕ} {depth node place : ℕ}
      → (o : Open n edge ends next goal total count₀ order₀ stack₀ visited order count stack depth node place) → depth ≡ 0 → end_of ends node ≤ place
      → Searched n edge x visited₀ order₀ count₀ visited (set order count node) (count + 1) stack
  searched o none last =
      record {
        visits = closed o last none ∙ goal_is;
        rest = closed_rest o last;
        stack_zeros = λ i. o.past i (omega arith);
        grows = omega arith;
        adds = let s = total_same in omega arith;
      }
