-- Laws of rows. The row of a node holds its neighbours by rising number, some repeated; what is done at a node twice is done once, so a
-- walk along the row is a walk along the neighbours.
--     cut_end, cut_cons, cut_length, cut_at     what stands from a place on
--     row_member, neighbour_low                 a place of a row holds a neighbour, a node
--     at_row, row_low, in_row                   the neighbours of a node, by their place in its row
--     edges_are, rows_own, own_rows             the graph that rows stand for
--     row_each                                  a walk along a row
-- Assumes nothing.
use mathlib.Core.Path.{◌≡◌, refl, sym, ap, ◌∙◌, subst, fun_ext}
use mathlib.Core.Bool.{Bool, true, false, cond, ◌&&◌, ◌||◌, false≢true}
use mathlib.Core.List.{List, [], ◌∷◌}
use mathlib.Core.Logic.{⊎_elim}
use Prim.Native.Nat.{ℕ, zero, suc, ◌+◌, ◌-◌, ◌≤◌, ◌<◌}
use native.Mathlib.Omega.{arith}
use borrow.Author.Tests.{ltb-true, ltb-false, ne_eqb}
use lib.Dec.{ltb}
use lib.ListN.{length, get_or, take, drop, length-drop}
use lib.Seq.{get_or-drop, get_or-take, length-take-le, drop-cons}
use Rattle.tables.specs.Order.{Ascending, member}
use Rattle.tables.specs.Laws.{same?, at_member, member_at, member_none}
use Rattle.regions.specs.Graph.{Edges, flip, range, filter, each, next}
use Rattle.regions.specs.Search.{Regions}
use Rattle.graph.specs.Rows.{begin_of, end_of, cut, row_of, Holds, Rows, edges_of}

-- ---- what stands from a place on

module _ (l : List ℕ) where
  pub cut_end : (place end : ℕ) → end ≤ place → cut l place end ≡ []
  unfolding cut
  cut_end place end h = let e : end - place ≡ 0 = omega arith in ap (λ (k : ℕ). take k (drop place l)) e

  pub cut_cons : (place end : ℕ) → place < end → end ≤ length l → cut l place end ≡ get_or l place 0 ∷ cut l (suc place) end
  unfolding cut
  cut_cons place end h w =
      let e : end - place ≡ suc (end - suc place) = omega arith in
      ap (λ (k : ℕ). take k (drop place l)) e ∙ ap (take (suc (end - suc place))) (drop-cons l place 0 (omega arith))

  pub cut_length : (place end : ℕ) → end ≤ length l → length (cut l place end) ≡ end - place
  unfolding cut
  cut_length place end w = length-take-le (end - place) (drop place l) (let e = length-drop place l in omega arith)

  pub cut_at : (place end i : ℕ) → i < end - place → get_or (cut l place end) i 0 ≡ get_or l (place + i) 0
  unfolding cut
  cut_at place end i h = get_or-take (end - place) (drop place l) i 0 h ∙ get_or-drop place l i 0

  pub cut_member : (place end i : ℕ) → end ≤ length l → place ≤ i → i < end → member (get_or l i 0) (cut l place end) ≡ true
  cut_member place end i w le h =
      let e = cut_length place end w in
      let j : place + (i - place) ≡ i = omega arith in
      at_member (get_or l i 0) (cut l place end) (i - place) (omega arith) (cut_at place end (i - place) (omega arith) ∙ ap (λ (k : ℕ). get_or l k 0) j)

-- ---- the graph that rows stand for

module _ {n : ℕ} {edge : Edges} {ends next : List ℕ} (r : Holds n edge ends next) where
  -- what stands at a place of a row is a neighbour, and so a node
  pub row_member : (x i : ℕ) → x < n → begin_of ends x ≤ i → i < end_of ends x → edge x (get_or next i 0) ≡ true
  row_member x i lt le h = sym (r.holds x lt (get_or next i 0)) ∙ cut_member next (begin_of ends x) (end_of ends x) i (r.inside x lt) le h

  pub neighbour_low : (x i : ℕ) → x < n → begin_of ends x ≤ i → i < end_of ends x → get_or next i 0 < n
  neighbour_low x i lt le h = (r.within x (get_or next i 0) (row_member x i lt le h)).1

  edge_is : (a b : ℕ) → edges_of ends next a b ≡ edge a b
  unfolding edges_of
  edge_is a b = go (ltb a (length ends)) refl
    where
      none : (t : Bool) → edge a b ≡ t → (a < n → ⊥) → false ≡ t
      none true e past = absurd (past (r.within a b e).0)
      none false e past = refl

      go : (t : Bool) → ltb a (length ends) ≡ t → (t && member b (row_of ends next a)) ≡ edge a b
      go true e = r.holds a (let l = ltb-true a (length ends) e in let k = r.nodes in omega arith) b
      go false e = none (edge a b) refl (λ h. let l = ltb-false a (length ends) e in let k = r.nodes in omega arith)

  pub edges_are : edges_of ends next ≡ edge
  edges_are = fun_ext (λ a. fun_ext (λ b. edge_is a b))

pub rows_own : {n : ℕ} {edge : Edges} {ends next : List ℕ} → Rows n edge ends next → Rows n (edges_of ends next) ends next
rows_own {n} {edge} {ends} {next} r = subst (λ e. Rows n e ends next) (sym (edges_are r.rows)) r

-- a place of the row itself, and the place of a neighbour
module _ {n : ℕ} {edge : Edges} {ends next : List ℕ} (r : Rows n edge ends next) (x : ℕ) (lt : x < n) where
  pub at_row : (p : ℕ) → p < length (row_of ends next x) → edge x (get_or (row_of ends next x) p 0) ≡ true
  at_row p h = sym (r.rows.holds x lt (get_or (row_of ends next x) p 0)) ∙ at_member (get_or (row_of ends next x) p 0) (row_of ends next x) p h refl

  pub row_low : (p : ℕ) → p < length (row_of ends next x) → get_or (row_of ends next x) p 0 < n
  row_low p h = (r.rows.within x (get_or (row_of ends next x) p 0) (at_row p h)).1

  pub in_row : (y : ℕ) → edge x y ≡ true → (p : ℕ) × (p < length (row_of ends next x)) × (get_or (row_of ends next x) p 0 ≡ y)
  in_row y e = member_at y (row_of ends next x) (r.rows.holds x lt y ∙ e)

-- ---- the numbers from one on that pass a test

unfoldable onward : ℕ → (ℕ → Bool) → ℕ → List ℕ
onward n p from = filter p (range from (n - from))

module _ (n : ℕ) (p : ℕ → Bool) where
  onward_suc : (from : ℕ) → from < n → onward n p from ≡ cond (p from) (from ∷ onward n p (suc from)) (onward n p (suc from))
  unfolding onward range filter
  onward_suc from h = let e : n - from ≡ suc (n - suc from) = omega arith in ap (λ (k : ℕ). filter p (range from k)) e

  onward_skip : (from d : ℕ) → from + d ≤ n → ((j : ℕ) → from ≤ j → j < from + d → p j ≡ false) → onward n p from ≡ onward n p (from + d)
  onward_skip from zero h none = ap (onward n p) (omega arith)
  onward_skip from (suc d) h none =
      onward_suc from (omega arith)
      ∙ ap (λ b. cond b (from ∷ onward n p (suc from)) (onward n p (suc from))) (none from (omega arith) (omega arith))
      ∙ onward_skip (suc from) d (omega arith) (λ j g q. none j (omega arith) (omega arith))
      ∙ ap (onward n p) (omega arith)

  onward_to : (from k : ℕ) → from ≤ k → k ≤ n → ((j : ℕ) → from ≤ j → j < k → p j ≡ false) → onward n p from ≡ onward n p k
  onward_to from k le h none =
      onward_skip from (k - from) (omega arith) (λ j g q. none j g (omega arith)) ∙ ap (onward n p) (omega arith)

  onward_none : (from : ℕ) → from ≤ n → ((j : ℕ) → from ≤ j → j < n → p j ≡ false) → onward n p from ≡ []
  unfolding onward range filter
  onward_none from le none =
      let e : n - n ≡ 0 = omega arith in
      onward_to from n le (omega arith) none ∙ ap (λ (k : ℕ). filter p (range n k)) e

  onward_some : (k : ℕ) → k < n → p k ≡ true → onward n p k ≡ k ∷ onward n p (suc k)
  onward_some k h e = onward_suc k h ∙ ap (λ b. cond b (k ∷ onward n p (suc k)) (onward n p (suc k))) e

-- ---- a rising list of what passes the test

-- the list holds, rising, all numbers from `from` on that pass the test
record Run (n : ℕ) (p : ℕ → Bool) (l : List ℕ) (from : ℕ) : Type 0 where
  from_le : from ≤ n
  rise : Ascending l
  low : (j : ℕ) → j < length l → from ≤ get_or l j 0
  high : (j : ℕ) → j < length l → get_or l j 0 < n
  holds : (j : ℕ) → from ≤ j → j < n → p j ≡ member j l

module _ (n : ℕ) (p : ℕ → Bool) (k : ℕ) (l : List ℕ) (from : ℕ) (r : Run n p (k ∷ l) from) where
  run_le : from ≤ k
  run_le = r.low 0 (omega arith)

  run_lt : k < n
  run_lt = r.high 0 (omega arith)

  passes : p k ≡ true
  passes = r.holds k run_le run_lt ∙ at_member k (k ∷ l) 0 (omega arith) refl

  later : (j : ℕ) → k < j → j < n → p j ≡ member j l
  unfolding member
  later j h lt = r.holds j (let a = run_le in omega arith) lt ∙ ap (λ b. b || member j l) (ne_eqb j k (λ e. omega arith))

  onward_k : onward n p from ≡ k ∷ onward n p (suc k)
  onward_k =
      let lt = run_lt in
      onward_to n p from k run_le (omega arith)
      (λ j g q. r.holds j g (omega arith) ∙ member_none j (k ∷ l) (λ i h w. let f = r.rise.at 0 i (omega arith) h in omega arith))
      ∙ onward_some n p k lt passes

  tail_rise : Ascending l
  tail_rise = record { at = λ i j le h. r.rise.at (suc i) (suc j) (omega arith) (omega arith) }

  -- k is there once more
  run_again : member k l ≡ true → Run n p l k
  run_again m =
      let lt = run_lt in
      record {
        from_le = omega arith;
        rise = tail_rise;
        low = λ j h. r.rise.at 0 (suc j) (omega arith) (omega arith);
        high = λ j h. r.high (suc j) (omega arith);
        holds = λ j g q. ⊎_elim (λ e. ap p e ∙ passes ∙ sym m ∙ ap (λ (i : ℕ). member i l) (sym e)) (λ ne. later j (omega arith) q) (same? j k);
      }

  run_on : member k l ≡ false → Run n p l (suc k)
  run_on m =
      let lt = run_lt in
      record {
        from_le = omega arith;
        rise = tail_rise;
        low = λ j h.
            let up = r.rise.at 0 (suc j) (omega arith) (omega arith) in
            ⊎_elim (λ e. absurd (false≢true (sym m ∙ at_member k l j h e))) (λ ne. omega arith) (same? (get_or l j 0) k);
        high = λ j h. r.high (suc j) (omega arith);
        holds = λ j g q. later j (omega arith) q;
      }

none_member : (j : ℕ) → member j [] ≡ false
unfolding member
none_member j = refl

-- f keeps P, and f twice at a number is f once
module _ {S : Type 0} (f : ℕ → S → S) (P : S → Type 0) (keeps : (k : ℕ) (s : S) → P s → P (f k s)) (n : ℕ)
    (again : (k : ℕ) (s : S) → k < n → P s → f k (f k s) ≡ f k s) where
  follows : (p : ℕ → Bool) (l : List ℕ) (from : ℕ) → Run n p l from → (s : S) → P s → each f l s ≡ each f (onward n p from) s
  unfolding each
  follows p [] from r s h = ap (λ m. each f m s) (sym (onward_none n p from r.from_le (λ j g q. r.holds j g q ∙ none_member j)))
  follows p (k ∷ l) from r s h = go (member k l) refl (follows p l) ∙ ap (λ m. each f m s) (sym (onward_k n p k l from r))
    where
      go : (b : Bool) → member k l ≡ b → ((from : ℕ) → Run n p l from → (s : S) → P s → each f l s ≡ each f (onward n p from) s)
          → each f l (f k s) ≡ each f (onward n p (suc k)) (f k s)
      go true m ih =
          ih k (run_again n p k l from r m) (f k s) (keeps k s h)
          ∙ ap (λ o. each f o (f k s)) (onward_some n p k (run_lt n p k l from r) (passes n p k l from r))
          ∙ ap (each f (onward n p (suc k))) (again k s (run_lt n p k l from r) h)
      go false m ih = ih (suc k) (run_on n p k l from r m) (f k s) (keeps k s h)

  pub row_each : {edge : Edges} {ends row : List ℕ} → Rows n edge ends row → (x : ℕ) → x < n → (s : S) → P s
      → each f (row_of ends row x) s ≡ each f (next n edge x) s
  unfolding next onward
  row_each {edge} {ends} {row} r x lt s h =
      let w = r.rows.inside x lt in
      let len = cut_length row (begin_of ends x) (end_of ends x) w in
      follows (edge x) (row_of ends row x) 0
      (record {
        from_le = omega arith;
        rise = r.rising x lt;
        low = λ j q. omega arith;
        high = λ j q.
            let at = cut_at row (begin_of ends x) (end_of ends x) j (omega arith) in
            let low = neighbour_low r.rows x (begin_of ends x + j) lt (omega arith) (omega arith) in omega arith;
        holds = λ j g q. sym (r.rows.holds x lt j);
      }) s h
      ∙ ap (λ (k : ℕ). each f (filter (edge x) (range 0 k)) s) (omega arith)

-- ---- for callers: what is asked and said of the graph that rows stand for, said of the graph that they are the rows of

module _ {n : ℕ} {edge : Edges} {ends next : List ℕ} (r : Rows n edge ends next) where
  pub own_rows : Rows (length ends) (edges_of ends next) ends next
  own_rows = subst (λ (k : ℕ). Rows k (edges_of ends next) ends next) (sym r.rows.nodes) (rows_own r)

  pub own_turned : {back_ends back : List ℕ} → Rows n (flip edge) back_ends back → Rows (length ends) (flip (edges_of ends next)) back_ends back
  own_turned {back_ends} {back} b =
      subst (λ e. Rows (length ends) (flip e) back_ends back) (sym (edges_are r.rows))
      (subst (λ (k : ℕ). Rows k (flip edge) back_ends back) (sym r.rows.nodes) b)

  pub own_regions : {labels : List ℕ} {count : ℕ} {stack : List ℕ} → Regions (length ends) (edges_of ends next) labels count stack → Regions n edge labels count stack
  own_regions {labels} {count} {stack} g =
      subst (λ e. Regions n e labels count stack) (edges_are r.rows)
      (subst (λ (k : ℕ). Regions k (edges_of ends next) labels count stack) r.rows.nodes g)
