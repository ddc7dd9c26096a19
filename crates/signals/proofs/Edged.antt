-- Flags of the labels of nodes that edges lead into.
--     JoinedTo, joined_none, joined_more      a row, a place at a time
--     LedTo, led_none, led_more, led_all      the rows of a graph, one after the other
-- Assumes nothing.
use mathlib.Core.Path.{◌≡◌, sym, ap, ◌∙◌}
use mathlib.Core.Bool.{Bool, true, false, ◌&&◌, ◌||◌, or-false, or_assoc, false≢true}
use mathlib.Core.List.{List}
use mathlib.Core.Logic.{◌↔◌, ⊎_elim}
use Prim.Native.Nat.{ℕ, ◌+◌, ◌≤◌, ◌<◌}
use native.Mathlib.Nat.{eq-or-lt_of_le}
use native.Mathlib.Omega.{arith}
use lib.Dec.{eqb}
use lib.ListN.{length, get_or, set, replicate, length-set, get_or-replicate, length-replicate}
use borrow.Author.Tests.{eqb-true, eq-eqb}
use Rattle.lists.specs.First.{first_from, some}
use Rattle.lists.proofs.Search.{both, some_more}
use Rattle.lists.proofs.Some.{some_at, some_found, and_true}
use Rattle.regions.specs.Graph.{Edges, marked}
use Rattle.regions.proofs.Laws.Lists.{or_right}
use Rattle.graph.specs.Rows.{row_of, Rows}
use Rattle.graph.proofs.Rows.{at_row, in_row}
use Rattle.signals.specs.Seen.{Joined, Led}
use Rattle.signals.proofs.Marks.{or_marked}
use Rattle.signals.proofs.Neighbours.{or_left, either}

-- ---- a row

-- the flags of the labels of the first nodes of a row that pass the test are set
pub record JoinedTo (row labels : List ℕ) (test : ℕ → Bool) (count : ℕ) (before after : List Bool) : Type 0 where
  pub at : (r : ℕ) → r < length after
      → marked after r ≡ (marked before r || some (λ p. test (get_or row p 0) && eqb (get_or labels (get_or row p 0) 0) r) count)

module _ (row labels : List ℕ) (test : ℕ → Bool) where
  abbrev led : ℕ → ℕ → Bool
  led r p = test (get_or row p 0) && eqb (get_or labels (get_or row p 0) 0) r

  pub joined_none : (marks : List Bool) → JoinedTo row labels test 0 marks marks
  unfolding first_from
  joined_none marks = record { at = λ r h. sym (or-false (marked marks r)) }

  pub joined_more : {p : ℕ} {before after : List Bool} → JoinedTo row labels test p before after → (to : ℕ) (v : Bool)
      → to ≡ get_or labels (get_or row p 0) 0 → v ≡ test (get_or row p 0) → to < length after
      → JoinedTo row labels test (p + 1) before (set after to (marked after to || v))
  joined_more {p} {before} {after} g to v is tested l = record {
    at = λ r h.
        or_marked after to r v l
        ∙ ap (λ (t : Bool). t || (v && eqb to r)) (g.at r (rw length-set at h))
        ∙ ap (λ (t : Bool). (marked before r || some (led r) p) || (t && eqb to r)) tested
        ∙ ap (λ (i : ℕ). (marked before r || some (led r) p) || (test (get_or row p 0) && eqb i r)) is
        ∙ or_assoc (marked before r) (some (led r) p) (led r p)
        ∙ ap (λ (t : Bool). marked before r || t) (sym (some_more (led r) p));
  }

  pub joined_all : {p : ℕ} {before after : List Bool} → p ≡ length row → JoinedTo row labels test p before after → Joined row labels test before after
  joined_all {p} {before} {after} all g = record { at = λ r h. g.at r h ∙ ap (λ (n : ℕ). marked before r || some (led r) n) all }

-- ---- the rows of a graph

-- an edge from one of the first nodes leads to a node of label r
pub record LedTo (edge : Edges) (test : ℕ → ℕ → Bool) (labels : List ℕ) (count : ℕ) (flags : List Bool) : Type 0 where
  pub exactly : (r : ℕ) → r < length flags
      → (marked flags r ≡ true) ↔ ((a b : ℕ) × (a < count) × (edge a b ≡ true) × (test a b ≡ true) × (get_or labels b 0 ≡ r))

module _ (edge : Edges) (test : ℕ → ℕ → Bool) (labels : List ℕ) where
  pub led_none : (n : ℕ) → LedTo edge test labels 0 (replicate n false)
  led_none n = record {
    exactly = λ r h. (
      λ e. absurd (false≢true (sym (get_or-replicate n r false false (rw length-replicate at h)) ∙ e)),
      λ (a, b, l, e, t, i). absurd (omega arith),
    );
  }

  module _ {n : ℕ} {ends next : List ℕ} (rows : Rows n edge ends next) (x : ℕ) (lt : x < n) {before after : List Bool} (long : length after ≡ length before)
      (joined : Joined (row_of ends next x) labels (test x) before after) where
    abbrev row : List ℕ
    row = row_of ends next x

    from_row : (r : ℕ) → some (λ p. test x (get_or row p 0) && eqb (get_or labels (get_or row p 0) 0) r) (length row) ≡ true
        → (b : ℕ) × (edge x b ≡ true) × (test x b ≡ true) × (get_or labels b 0 ≡ r)
    from_row r e =
        let (p, h, t) = some_found (λ p. test x (get_or row p 0) && eqb (get_or labels (get_or row p 0) 0) r) (length row) e in
        let (passes, is) = both (test x (get_or row p 0)) (eqb (get_or labels (get_or row p 0) 0) r) t in
        (get_or row p 0, at_row rows x lt p h, passes, eqb-true (get_or labels (get_or row p 0) 0) r is)

    to_row : (r b : ℕ) → edge x b ≡ true → test x b ≡ true → get_or labels b 0 ≡ r
        → some (λ p. test x (get_or row p 0) && eqb (get_or labels (get_or row p 0) 0) r) (length row) ≡ true
    to_row r b e t l =
        let (p, h, is) = in_row rows x lt b e in
        some_at (λ p. test x (get_or row p 0) && eqb (get_or labels (get_or row p 0) 0) r) (length row) p h
        (and_true (test x (get_or row p 0)) (eqb (get_or labels (get_or row p 0) 0) r) (ap (test x) is ∙ t)
        (eq-eqb (get_or labels (get_or row p 0) 0) r (ap (λ (i : ℕ). get_or labels i 0) is ∙ l)))

    pub led_more : LedTo edge test labels x before → LedTo edge test labels (x + 1) after
    led_more g = record {
      exactly = λ r h.
          let is = joined.at r h in
          let old = g.exactly r (omega arith) in
          let new = some (λ p. test x (get_or row p 0) && eqb (get_or labels (get_or row p 0) 0) r) (length row) in (
            λ e. ⊎_elim
                (λ m. let (a, b, l, e, t, i) = old.0 m in (a, b, (let w : a < x + 1 = omega arith in w), e, t, i))
                (λ m. let (b, e, t, i) = from_row r m in (x, b, (let w : x < x + 1 = omega arith in w), e, t, i))
                (either (marked before r) new (sym is ∙ e)),
            λ (a, b, l, e, t, i). is ∙ ⊎_elim
                (λ (same : a ≡ x). or_right (marked before r) (to_row r b (ap (λ (k : ℕ). edge k b) (sym same) ∙ e) (ap (λ (k : ℕ). test k b) (sym same) ∙ t) i))
                (λ (less : a < x). or_left new (old.1 (a, b, less, e, t, i)))
                (eq-or-lt_of_le (let w : a ≤ x = omega arith in w)),
          );
    }

  pub led_all : {n count : ℕ} {ends next : List ℕ} → Rows n edge ends next → n ≤ count → {flags : List Bool} → LedTo edge test labels count flags → Led edge test labels flags
  led_all {n} {count} rows le g = record {
    exactly = λ r h. (
      λ m. let (a, b, l, e, t, i) = (g.exactly r h).0 m in (a, b, e, t, i),
      λ (a, b, e, t, i). (g.exactly r h).1 (a, b, (let w = rows.rows.within a b e in omega arith), e, t, i),
    );
  }
