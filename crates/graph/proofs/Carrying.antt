-- The loops of `hand_on` and `carry_marks`, and the nodes by rising region.
-- Assumes nothing.
use mathlib.Core.Path.{◌≡◌, refl, sym, ap, ap₂, ◌∙◌, subst}
use mathlib.Core.Bool.{Bool, true, false, ◌||◌, or-true}
use mathlib.Core.List.{List}
use mathlib.Core.Logic.{◌⊎◌, inl, inr, ⊎_elim}
use Prim.Native.Nat.{ℕ, ◌+◌, ◌≤◌, ◌<◌}
use native.Mathlib.Omega.{arith}
use lib.ListN.{length, get_or, set}
use lib.Seq.{get_or-set_same, get_or-set_other}
use Rattle.tables.specs.Laws.{same?}
use Rattle.regions.specs.Graph.{Edges, Within, Reach, here, step, at, marked}
use Rattle.regions.specs.Kosaraju.{region_of}
use Rattle.regions.specs.Theorems.{RegionLaws}
use Rattle.regions.proofs.Laws.Walks.{Reach·trans}
use Rattle.regions.proofs.Theorems.{region_laws}
use Rattle.graph.specs.Rows.{begin_of, end_of, row_of, Rows}
use Rattle.graph.specs.Carried.{Carried}
use Rattle.graph.specs.inner.Marks.{ByRegion, Sizes, Handed, Labels}
use Rattle.graph.specs.inner.Layout.{row_at, many, start_of, Laid}
use Rattle.graph.proofs.Counting.{start_suc, start_all, many_same, least_lt}
use Rattle.graph.proofs.Built.{begin_is, pairs_to, pairs_from, numbers_rise}
use Rattle.graph.proofs.Rows.{at_row, row_low, in_row}

-- ---- hand_on

pub handed_none : (nodes labels : List ℕ) (r : ℕ) (marks : List Bool) → Handed nodes labels 0 r marks marks
handed_none nodes labels r marks = record { stays = λ q m. m; only = λ q m. inl m; handed = λ p a. absurd (omega arith) }

module _ {nodes labels : List ℕ} {i r : ℕ} {before after : List Bool} (h : Handed nodes labels i r before after)
    (t : ℕ) (is : t ≡ at labels (at nodes i)) (low : t < length after) where
  abbrev stored : List Bool
  stored = set after t (marked after t || marked after r)

  old : (q : ℕ) → marked after q ≡ true → marked stored q ≡ true
  old q m =
      ⊎_elim
      (λ e.
      subst (λ (k : ℕ). marked stored k ≡ true) (sym e)
      (get_or-set_same after t (marked after t || marked after r) false low ∙ ap (λ x. x || marked after r) (subst (λ (k : ℕ). marked after k ≡ true) e m)))
      (λ ne. get_or-set_other after t q (marked after t || marked after r) false ne ∙ m)
      (same? q t)

  new : marked after r ≡ true → marked stored t ≡ true
  new m = get_or-set_same after t (marked after t || marked after r) false low ∙ ap (λ x. marked after t || x) m ∙ or-true (marked after t)

  -- a mark of r itself was there before
  own : marked after r ≡ true → marked before r ≡ true
  own m = ⊎_elim (λ e. e) (λ e. e.0) (h.only r m)

  from_either : (x y : Bool) → (x || y) ≡ true → (x ≡ true) ⊎ (y ≡ true)
  from_either true y e = inl refl
  from_either false y e = inr e

  Source : ℕ → Type 0
  Source q = (marked before q ≡ true) ⊎ ((marked before r ≡ true) × ((p : ℕ) × (p < i + 1) × (at labels (at nodes p) ≡ q)))

  wider : (q : ℕ) → marked after q ≡ true → Source q
  unfolding Source
  wider q m = ⊎_elim (λ e. inl e) (λ e. inr (e.0, (e.1.0, (let w = e.1.1 in omega arith), e.1.2))) (h.only q m)

  source : (q : ℕ) → marked stored q ≡ true → Source q
  unfolding Source wider
  source q m =
      ⊎_elim
      (λ e.
      let here = sym (get_or-set_same after t (marked after t || marked after r) false low) ∙ subst (λ (k : ℕ). marked stored k ≡ true) e m in
      ⊎_elim
      (λ x. wider q (subst (λ (k : ℕ). marked after k ≡ true) (sym e) x))
      (λ y. inr (own y, (i, omega arith, sym is ∙ sym e)))
      (from_either (marked after t) (marked after r) here))
      (λ ne. wider q (sym (get_or-set_other after t q (marked after t || marked after r) false ne) ∙ m))
      (same? q t)

  pub handed_more : Handed nodes labels (i + 1) r before stored
  unfolding Source
  handed_more =
      record {
        stays = λ q m. old q (h.stays q m);
        only = source;
        handed = λ p a m.
            ⊎_elim
            (λ e. subst (λ (k : ℕ). marked stored (at labels (at nodes k)) ≡ true) (sym e) (subst (λ (k : ℕ). marked stored k ≡ true) is (new (h.stays r m))))
            (λ ne. old (at labels (at nodes p)) (h.handed p (omega arith) m))
            (same? p i);
      }

pub handed_all : {nodes labels : List ℕ} {i r : ℕ} {before after : List Bool} → Handed nodes labels i r before after → i ≤ length nodes → length nodes ≤ i
    → Handed nodes labels (length nodes) r before after
handed_all {nodes} {labels} {i} {r} {before} {after} h le ge =
    let whole : i ≡ length nodes = omega arith in subst (λ (k : ℕ). Handed nodes labels k r before after) whole h

pub handed_as : {row row' labels labels' : List ℕ} {r r' : ℕ} {before after : List Bool} → row ≡ row' → labels ≡ labels' → r ≡ r'
    → Handed row labels (length row) r before after → Handed row' labels' (length row') r' before after
handed_as {before = before} {after} a b c h = rw (← a, ← b, ← c) h

-- ---- carry_marks

-- each node has a label
pub labels_long : {n : ℕ} {edge : Edges} {labels : List ℕ} → Within n edge → labels ≡ region_of n edge → length labels ≡ n
labels_long {n} {edge} within is = ap length is ∙ (region_laws n edge within).long

-- and so have those of a row
pub row_labels : {n : ℕ} {edge : Edges} {ends next : List ℕ} {labels : List ℕ} (r : Rows n edge ends next) (x regions : ℕ) → x < n → length labels ≡ n
    → ((y : ℕ) → y < n → at labels y < regions) → Labels (row_of ends next x) labels regions
row_labels {ends = ends} {next} r x regions lt long low =
    record {
      nodes_below = λ p h. let l = row_low r x lt p h in omega arith;
      labels_below = λ p h. low (at (row_of ends next x) p) (row_low r x lt p h);
    }

-- In the loop: marks stay, each is due to one that was there, and the edges from the first i nodes are dealt with
pub record Carrying (n : ℕ) (edge : Edges) (nodes : List ℕ) (before after : List Bool) (i : ℕ) : Type 0 where
  pub stays : (q : ℕ) → marked before q ≡ true → marked after q ≡ true
  pub sound : (q : ℕ) → marked after q ≡ true → (b : ℕ) → b < n → at (region_of n edge) b ≡ q
      → (s : ℕ) × (s < n) × (marked before (at (region_of n edge) s) ≡ true) × Reach edge s b
  pub closed : (j : ℕ) → j < i → (y : ℕ) → edge (at nodes j) y ≡ true → marked after (at (region_of n edge) (at nodes j)) ≡ true
      → marked after (at (region_of n edge) y) ≡ true

pub carrying_none : (n : ℕ) (edge : Edges) (nodes : List ℕ) (marks : List Bool) → Carrying n edge nodes marks marks 0
carrying_none n edge nodes marks =
    record {
      stays = λ q m. m;
      sound = λ q m b h e. (b, h, subst (λ (k : ℕ). marked marks k ≡ true) (sym e) m, here);
      closed = λ j h. absurd (omega arith);
    }

module _ {n : ℕ} {edge : Edges} {ends next nodes : List ℕ} {before after after' : List Bool} {i : ℕ}
    (r : Rows n edge ends next) (by : ByRegion n (region_of n edge) nodes) (c : Carrying n edge nodes before after i) (lt : i < n)
    (h : Handed (row_of ends next (at nodes i)) (region_of n edge) (length (row_of ends next (at nodes i))) (at (region_of n edge) (at nodes i)) after after') where
  abbrev region : ℕ → ℕ
  region a = at (region_of n edge) a

  abbrev x : ℕ
  x = at nodes i

  -- the neighbour at a place of its row
  abbrev near : ℕ → ℕ
  near p = at (row_of ends next x) p

  laws : RegionLaws n edge
  laws = region_laws n edge r.rows.within

  x_low : x < n
  x_low = by.low i lt

  -- the mark of x's own region does not change
  own_mark : marked after' (region x) ≡ true → marked after (region x) ≡ true
  own_mark m = ⊎_elim (λ e. e) (λ e. e.0) (h.only (region x) m)

  -- nor does that of a region that came before
  mark_before : (j : ℕ) → j < i → marked after' (region (at nodes j)) ≡ true → marked after (region (at nodes j)) ≡ true
  mark_before j l m =
      ⊎_elim
      (λ e. e)
      (λ e.
      let (p, a, is) = e.1 in
      let up = laws.rises x (near p) (at_row r x x_low p a) in
      let down = by.rise j i (omega arith) lt in
      let same : region (at nodes j) ≡ region x = omega arith in
      subst (λ (k : ℕ). marked after k ≡ true) (sym same) e.0)
      (h.only (region (at nodes j)) m)

  sound' : (q : ℕ) → marked after' q ≡ true → (b : ℕ) → b < n → region b ≡ q
      → (s : ℕ) × (s < n) × (marked before (region s) ≡ true) × Reach edge s b
  sound' q m b low e =
      ⊎_elim
      (λ w. c.sound q w b low e)
      (λ w.
      let (p, a, is) = w.1 in
      let (s, sl, sm, path) = c.sound (region x) w.0 x x_low refl in
      let both = (laws.same (near p) b (row_low r x x_low p a) low).0 (is ∙ sym e) in
      (s, sl, sm, Reach·trans path (step (at_row r x x_low p a) both.0)))
      (h.only q m)

  pub carrying_more : Carrying n edge nodes before after' (i + 1)
  carrying_more =
      record {
        stays = λ q m. h.stays q (c.stays q m);
        sound = sound';
        closed = λ j l y e m.
            ⊎_elim
            (λ is.
            let e' = subst (λ (k : ℕ). edge (at nodes k) y ≡ true) is e in
            let m' = subst (λ (k : ℕ). marked after' (region (at nodes k)) ≡ true) is m in
            let (p, a, at_y) = in_row r x x_low y e' in
            subst (λ (k : ℕ). marked after' (region k) ≡ true) at_y (h.handed p a (own_mark m')))
            (λ ne. h.stays (region y) (c.closed j (omega arith) y e (mark_before j (omega arith) m)))
            (same? j i);
      }

-- The theorem of carried marks, at the end of the loop of `carry_marks`.
pub carry_laws : {n : ℕ} {edge : Edges} {nodes : List ℕ} {before after : List Bool} {i : ℕ} → Within n edge → ByRegion n (region_of n edge) nodes
    → Carrying n edge nodes before after i → n ≤ i → Carried n edge before after
carry_laws {n} {edge} {nodes} {before} {after} {i} within by c le =
    record { exactly = λ b low. (λ m. c.sound (at (region_of n edge) b) m b low refl, λ w. along w.3 (c.stays (at (region_of n edge) w.0) w.2)) }
  where
    across : (a b : ℕ) → edge a b ≡ true → marked after (at (region_of n edge) a) ≡ true → marked after (at (region_of n edge) b) ≡ true
    across a b e m =
        let (j, h, is) = by.all a (within a b e).0 in
        c.closed j (omega arith) b (subst (λ (k : ℕ). edge k b ≡ true) (sym is) e) (subst (λ (k : ℕ). marked after (at (region_of n edge) k) ≡ true) (sym is) m)

    along : {a b : ℕ} → Reach edge a b → marked after (at (region_of n edge) a) ≡ true → marked after (at (region_of n edge) b) ≡ true
    along here m = m
    along (step {a} {b} e p) m = along p (across a b e m)

-- ---- by_region: the nodes sorted by their labels

module _ (labels numbers : List ℕ) {n count : ℕ} {ends nodes sorted : List ℕ} (l : Laid (row_at count labels) (λ k. get_or numbers k 0) n count ends nodes sorted)
    (numbered : (k : ℕ) → k < n → get_or numbers k 0 ≡ k) (low : (a : ℕ) → a < n → at labels a < count) where
  all_in : start_of (row_at count labels) n count ≡ n
  all_in = start_all (row_at count labels) n count (λ k h. let e = least_lt (at labels k) count (low k h) in let w = low k h in omega arith)

  -- what stands at a place: a node, and beside it its label
  node_at : (i : ℕ) → i < n → (at nodes i < n) × (at labels (at nodes i) ≡ at sorted i)
  node_at i h =
      let (c, p) = pairs_from labels numbers l (at sorted i) (at nodes i) (record { at = i; below = let e = all_in in omega arith; first = refl; second = refl }) in
      let is : p.at ≡ at nodes i = sym (numbered p.at p.below) ∙ p.second in
      (let b = p.below in omega arith, ap (at labels) (sym is) ∙ p.first)

  pub by_region : n ≤ length nodes → ByRegion n labels nodes
  by_region long =
      record {
        long = long;
        low = λ i h. (node_at i h).0;
        all = λ a h.
            let p = pairs_to labels numbers l (at labels a) a (low a h) (record { at = a; below = h; first = refl; second = numbered a h }) in
            (p.at, (let e = all_in in let b = p.below in omega arith), p.first);
        rise = λ i j le h.
            let a = (node_at i (omega arith)).1 in
            let b = (node_at j h).1 in
            let c = numbers_rise l i j le (let e = all_in in omega arith) in omega arith;
      }

  -- a region's nodes are as many as have its number
  sizes : (r : ℕ) → r < count → end_of ends r ≡ begin_of ends r + many (at labels) r n
  sizes r h =
      l.ends_are r h ∙ start_suc (row_at count labels) n r
      ∙ ap₂ (λ (x : ℕ) (y : ℕ). x + y) (sym (begin_is l r (omega arith)))
      (many_same (row_at count labels) (at labels) r n (λ k q. least_lt (at labels k) count (low k q)))

  pub region_sizes : n ≡ length labels → Sizes labels ends
  region_sizes whole =
      record {
        size = λ r h.
            let nodes = l.nodes in
            subst (λ (k : ℕ). end_of ends r ≡ begin_of ends r + many (at labels) r k) whole (sizes r (omega arith));
      }
