-- The loop of `seek_from`: its invariant `Open`, and what each of its turns does to it. The measure is `effort` of the crate `graph`.
-- Assumes nothing.
use mathlib.Core.Path.{◌≡◌, refl, sym, ap, ap₂, ◌∙◌, subst}
use mathlib.Core.Bool.{Bool, true, false}
use mathlib.Core.List.{List, [], ◌∷◌}
use mathlib.Core.Logic.{⊎_elim}
use Prim.Native.Nat.{ℕ, suc, ◌+◌, ◌*◌, ◌-◌, ◌≤◌, ◌<◌}
use native.Mathlib.Numerals.{add-one}
use native.Mathlib.Omega.{arith}
use lib.ListN.{length, get_or, set, replicate, length-set}
use lib.Seq.{get_or-set_other}
use Rattle.tables.specs.Laws.{same?}
use Rattle.regions.specs.Graph.{Edges, marked}
use Rattle.regions.specs.Search.{weight, fresh, Zeros}
use Rattle.regions.proofs.Fill.{cleared_zeros}
use Rattle.regions.proofs.Frames.{frame}
use Rattle.regions.proofs.Stack.{weight_mark, zero_set, frames, frames_set, frames_push, work}
use Rattle.graph.specs.Rows.{begin_of, end_of, Rows}
use Rattle.graph.proofs.Rows.{neighbour_low}
use Rattle.graph.proofs.Frames.{Placed, AllPlaced}
use Rattle.graph.proofs.Stack.{effort}
use Rattle.driven.specs.Seek.{Search, seek, seeking}
use Rattle.driven.specs.Search.{search_of, SeekRoom, SeeksFrom}
use Rattle.driven.proofs.Passing.{seek_met, seek_goal}
use Rattle.driven.proofs.Frames.{finish, finish_start, finish_leave, finish_pass, finish_enter, finish_goal}

-- no more nodes are new than there are
fresh_most : (l : List Bool) → fresh l ≤ length l
unfolding weight
fresh_most [] = omega arith
fresh_most (true ∷ l) = omega (arith, fresh_most l)
fresh_most (false ∷ l) = omega (arith, fresh_most l)

-- ---- the invariant

-- In the loop: to finish the open calls gives the state `goal`. The stack was stack₀ at the start.
pub record Open (n : ℕ) (edge : Edges) (ends next : List ℕ) (goals : List Bool) (goal : Search) (stack₀ : List ℕ)
    (met : List Bool) (stack : List ℕ) (depth node place : ℕ) : Type 0 where
  pub rows : Rows n edge ends next
  pub goals_length : length goals ≡ n
  pub finishes : finish n edge ends next goals (n - suc depth) (frame node place ∷ frames depth stack) (seeking met) ≡ goal
  pub here : Placed n ends node place
  pub below : AllPlaced n ends (frames depth stack)
  pub past : (i : ℕ) → 2 * depth ≤ i → get_or stack i 0 ≡ 0
  pub fits : suc depth + fresh met ≤ n
  pub met_length : length met ≡ n
  pub stack_length : length stack ≡ length stack₀
  pub stack_room : 2 * n ≤ length stack₀

-- ---- a turn of the loop

module _ {n : ℕ} {edge : Edges} {ends next : List ℕ} {goals : List Bool} {goal : Search} {stack₀ : List ℕ}
    {met : List Bool} {stack : List ℕ} {depth node place : ℕ} (o : Open n edge ends next goals goal stack₀ met stack depth node place) where
  place_in : end_of ends node ≤ length next
  place_in = o.rows.rows.inside node o.here.node_below

  module _ (more : place < end_of ends node) {k : ℕ} (is : k ≡ get_or next place 0) where
    read_in : place < length next
    read_in = let w = place_in in omega arith

    pub low : k < n
    low = subst (λ (j : ℕ). j < n) (sym is) (neighbour_low o.rows.rows node place o.here.node_below o.here.from_begin more)

    placed_on : Placed n ends node (place + 1)
    placed_on = let f = o.here.from_begin in record { node_below = o.here.node_below; from_begin = omega arith; to_end = omega arith }

    -- ---- a neighbour that is met is passed

    pub pass : marked met k ≡ true → Open n edge ends next goals goal stack₀ met stack depth node (place + 1)
    pass old =
        record {
          rows = o.rows;
          goals_length = o.goals_length;
          finishes =
              ap (λ (j : ℕ). finish n edge ends next goals (n - suc depth) (frame node j ∷ frames depth stack) (seeking met)) (add-one place)
              ∙ finish_pass o.rows goals node place (frames depth stack) (seeking met) o.here.node_below more (n - suc depth)
              (ap (marked met) (sym is) ∙ old)
              ∙ o.finishes;
          here = placed_on;
          below = o.below;
          past = o.past;
          fits = o.fits;
          met_length = o.met_length;
          stack_length = o.stack_length;
          stack_room = o.stack_room;
        }

    pub pass_less : effort (length next) met depth stack node (place + 1) < effort (length next) met depth stack node place
    unfolding work
    pass_less = let w = read_in in omega arith

    module _ (new : marked met k ≡ false) where
      fewer : fresh met ≡ 1 + fresh (set met k true)
      fewer = let h = low in weight_mark 1 met k (omega arith) new

      pub enter_room : suc depth < n
      enter_room = let f = fewer in omega arith

      fuel : suc (n - suc (depth + 1)) ≡ n - suc depth
      fuel = let r = enter_room in omega arith

      here_on : finish n edge ends next goals (suc (n - suc (depth + 1))) (frame node place ∷ frames depth stack) (seeking met) ≡ goal
      here_on = ap (λ (f : ℕ). finish n edge ends next goals f (frame node place ∷ frames depth stack) (seeking met)) fuel ∙ o.finishes

      -- ---- a goal: the search stops

      goal_met : marked goals k ≡ true → search_of (set met k true) true ≡ goal
      goal_met g =
          finish_goal o.rows goals node place (frames depth stack) (seeking met) o.here.node_below more (n - suc (depth + 1)) k is refl new g ∙ here_on

      -- ---- no goal: its call is opened

      module _ (other : marked goals k ≡ false) where
        abbrev pushed : List ℕ
        pushed = set (set stack (2 * depth) node) (2 * depth + 1) (place + 1)

        frames_pushed : frames (depth + 1) pushed ≡ frame node (suc place) ∷ frames depth stack
        frames_pushed =
            let room = enter_room in
            ap (λ (d : ℕ). frames d pushed) (add-one depth)
            ∙ frames_push depth stack node (place + 1) (omega arith)
            ∙ ap (λ (j : ℕ). frame node j ∷ frames depth stack) (add-one place)

        pub enter : Open n edge ends next goals goal stack₀ (set met k true) pushed (depth + 1) k (begin_of ends k)
        enter =
            record {
              rows = o.rows;
              goals_length = o.goals_length;
              finishes =
                  ap (λ m. finish n edge ends next goals (n - suc (depth + 1)) (frame k (begin_of ends k) ∷ m) (seeking (set met k true))) frames_pushed
                  ∙ finish_enter o.rows goals node place (frames depth stack) (seeking met) o.here.node_below more (n - suc (depth + 1)) k is refl new low
                  o.met_length other
                  ∙ here_on;
              here = record { node_below = low; from_begin = omega arith; to_end = o.rows.rows.ordered k low };
              below = subst (AllPlaced n ends) (sym frames_pushed) (subst (λ (j : ℕ). Placed n ends node j) (add-one place) placed_on, o.below);
              past = λ j h.
                  get_or-set_other (set stack (2 * depth) node) (2 * depth + 1) j (place + 1) 0 (λ q. omega arith)
                  ∙ get_or-set_other stack (2 * depth) j node 0 (λ q. omega arith) ∙ o.past j (omega arith);
              fits = let f = fewer in omega arith;
              met_length = simp length-set o.met_length;
              stack_length = simp length-set o.stack_length;
              stack_room = o.stack_room;
            }

        pub enter_less : effort (length next) (set met k true) (depth + 1) pushed k (begin_of ends k) < effort (length next) met depth stack node place
        unfolding work
        enter_less =
            let p = ap (work (length next)) frames_pushed in
            let h = low in
            let m = weight_mark (length next + 2) met k (omega arith) new in
            let w = read_in in
            omega arith

  -- ---- no neighbour is left: the call is closed

  module _ (last : end_of ends node ≤ place) where
    left : finish n edge ends next goals (suc (n - suc depth)) (frames depth stack) (seeking met) ≡ goal
    left = finish_leave o.rows goals node place (frames depth stack) (seeking met) (n - suc depth) last ∙ o.finishes

    -- it was the first
    closed : depth ≡ 0 → seeking met ≡ goal
    unfolding finish frames
    closed e = ap (λ (d : ℕ). finish n edge ends next goals (suc (n - suc depth)) (frames d stack) (seeking met)) (sym e) ∙ left

    -- it was not
    module _ (more : ¬ (depth ≡ 0)) where
      abbrev top : ℕ
      top = depth - 1

      top_low : suc top ≡ depth
      top_low = ⊎_elim (λ e. absurd (more e)) (λ ne. omega arith) (same? depth 0)

      abbrev popped : List ℕ
      popped = set (set stack (2 * top) 0) (2 * top + 1) 0

      under : frames top popped ≡ frames top stack
      under = frames_set top (set stack (2 * top) 0) (2 * top + 1) 0 (omega arith) ∙ frames_set top stack (2 * top) 0 (omega arith)

      frames_whole : frame (get_or stack (2 * top) 0) (get_or stack (2 * top + 1) 0) ∷ frames top stack ≡ frames depth stack
      unfolding frames
      frames_whole = ap (λ (d : ℕ). frames d stack) top_low

      placed_whole : AllPlaced n ends (frame (get_or stack (2 * top) 0) (get_or stack (2 * top + 1) 0) ∷ frames top stack)
      placed_whole = subst (AllPlaced n ends) (sym frames_whole) o.below

      pub leave : Open n edge ends next goals goal stack₀ met popped top (get_or stack (2 * top) 0) (get_or stack (2 * top + 1) 0)
      leave =
          record {
            rows = o.rows;
            goals_length = o.goals_length;
            finishes =
                ap (λ m. finish n edge ends next goals (n - suc top) (frame (get_or stack (2 * top) 0) (get_or stack (2 * top + 1) 0) ∷ m) (seeking met)) under
                ∙ ap₂ (λ (f : ℕ) m. finish n edge ends next goals f m (seeking met)) fuel frames_whole
                ∙ left;
            here = placed_whole.0;
            below = subst (AllPlaced n ends) (sym under) placed_whole.1;
            past = λ i h. zero_set (set stack (2 * top) 0) (2 * top + 1) i (λ a. zero_set stack (2 * top) i (λ b. o.past i (let t = top_low in omega arith)));
            fits = let t = top_low in omega arith;
            met_length = o.met_length;
            stack_length = simp length-set o.stack_length;
            stack_room = o.stack_room;
          }
        where
          fuel : n - suc top ≡ suc (n - suc depth)
          fuel = let t = top_low in omega arith

      pub leave_less : effort (length next) met top popped (get_or stack (2 * top) 0) (get_or stack (2 * top + 1) 0) < effort (length next) met depth stack node place
      unfolding work
      leave_less =
          let p = ap (work (length next)) under in
          let w = ap (work (length next)) frames_whole in
          let b = o.here.to_end in
          let i = place_in in
          omega arith

-- ---- a whole search

-- the start is met already
pub seeks_old : (n : ℕ) (edge : Edges) (goals : List Bool) (x : ℕ) (met : List Bool) (stack : List ℕ) → Zeros stack → marked met x ≡ true
    → SeeksFrom n edge goals x met met false stack
seeks_old n edge goals x met stack z old = record { seeks = sym (seek_met n edge goals n x (seeking met) old); stack_zeros = z }

-- the start is a goal
pub seeks_goal : {n : ℕ} (edge : Edges) (goals : List Bool) {x : ℕ} (met : List Bool) (stack : List ℕ) → x < n → Zeros stack → marked met x ≡ false → marked goals x ≡ true
    → SeeksFrom n edge goals x met (set met x true) true stack
seeks_goal {n} edge goals {x} met stack lt z new g =
    let more : suc (n - 1) ≡ n = omega arith in
    record {
      seeks = sym (seek_goal n edge goals (n - 1) x (seeking met) refl new g) ∙ ap (λ (f : ℕ). seek n edge goals f x (seeking met)) more;
      stack_zeros = z;
    }

-- the start is new and no goal: its call is opened
module _ {n x : ℕ} {edge : Edges} {ends next : List ℕ} {goals met₀ : List Bool} {stack₀ : List ℕ} (g : Rows n edge ends next) (lt : x < n)
    (r : SeekRoom n goals met₀ stack₀) (new : marked met₀ x ≡ false) (other : marked goals x ≡ false) where
  abbrev goal : Search
  goal = finish n edge ends next goals (n - suc 0) (frame x (begin_of ends x) ∷ frames 0 stack₀) (seeking (set met₀ x true))

  goal_is : goal ≡ seek n edge goals n x (seeking met₀)
  unfolding frames
  goal_is =
      finish_start g goals (n - suc 0) x (seeking met₀) lt r.met_length refl new other
      ∙ ap (λ (f : ℕ). seek n edge goals f x (seeking met₀)) (omega arith)

  pub begin : Open n edge ends next goals goal stack₀ (set met₀ x true) stack₀ 0 x (begin_of ends x)
  unfolding frames
  begin =
      record {
        rows = g;
        goals_length = r.goals_length;
        finishes = refl;
        here = record { node_below = lt; from_begin = omega arith; to_end = g.rows.ordered x lt };
        below = tt;
        past = λ j h. r.stack_zeros j;
        fits = let w = weight_mark 1 met₀ x (omega (arith, r.met_length)) new in let m = fresh_most met₀ in omega (arith, w, m, r.met_length);
        met_length = simp length-set r.met_length;
        stack_length = refl;
        stack_room = r.stack_room;
      }

  module _ {met : List Bool} {stack : List ℕ} {depth node place : ℕ} (o : Open n edge ends next goals goal stack₀ met stack depth node place) where
    -- all that the start leads to is met
    pub seeks_all : depth ≡ 0 → end_of ends node ≤ place → SeeksFrom n edge goals x met₀ met false stack
    seeks_all none last = record { seeks = closed o last none ∙ goal_is; stack_zeros = λ i. o.past i (omega arith) }

    -- a neighbour is a goal: the search stops
    pub seeks_met : place < end_of ends node → {k : ℕ} → k ≡ get_or next place 0 → marked met k ≡ false → marked goals k ≡ true
        → {stack' : List ℕ} → stack' ≡ replicate (length stack) 0 → SeeksFrom n edge goals x met₀ (set met k true) true stack'
    seeks_met more is fresh_k found cleared =
        record { seeks = goal_met o more is fresh_k found ∙ goal_is; stack_zeros = subst Zeros (sym cleared) (cleared_zeros (length stack)) }
