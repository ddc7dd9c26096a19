-- The square before any middle is admitted.
--     diagonal_to    the diagonal of the rows before a
--     row_to         the places of the first i neighbours of a row hold 1
--     edges_to       the places of the edges from the first m members hold 1
--     started        what `start_square` leaves
-- Assumes nothing.
use Rattle.std.specs.Prelude.{None}
use mathlib.Core.Path.{◌≡◌, refl, sym, ap, ap₂, ◌∙◌}
use mathlib.Core.Bool.{Bool, true, false, ◌&&◌, ◌||◌}
use mathlib.Core.List.{List, [], ◌∷◌}
use mathlib.Core.Logic.{⊎_elim}
use Prim.Native.Nat.{ℕ, zero, ◌+◌, ◌*◌, ◌≤◌, ◌<◌}
use native.Mathlib.Numerals.{add-one}
use native.Mathlib.Omega.{arith}
use lib.Dec.{eqb, ltb}
use lib.IntN.{ℤ}
use lib.ListN.{length, get_or, set, take, replicate, length-replicate}
use lib.Seq.{take-suc}
use borrow.Author.Tests.{eq-eqb, ne_eqb, lt-ltb, le-ltb}
use Rattle.std.proofs.lemmas.List.{take_all}
use Rattle.tables.specs.Order.{member}
use Rattle.tables.specs.Laws.{same?}
use Rattle.lists.specs.Records.{component_count}
use Rattle.lists.specs.Ids.{member_of, first_repeated, MemberPlace}
use Rattle.lists.proofs.Members.{member_below, member_inj}
use Rattle.lists.proofs.Search.{or_true}
use Rattle.regions.specs.Graph.{Edges}
use Rattle.regions.proofs.Fill.{cleared_zeros}
use Rattle.graph.specs.Rows.{row_of, Rows}
use Rattle.reach_table.specs.Table.{bit, start}
use Rattle.reach_table.specs.Square.{Holds, Makes}
use Rattle.reach_table.proofs.Cells.{holds_set, holds_same, makes_same}
use Rattle.reach_table.proofs.Filling.{or_none, and_none, ltb_past}
use Rattle.reach_table.proofs.Numbering.{member_append}

-- ---- zeros

pub cleared_holds : (n : ℕ) (s₀ s : List ℕ) → length s₀ ≡ n * n → s ≡ replicate (length s₀) 0 → Holds n (λ a b. false) s
cleared_holds n s₀ s long e = record {
  long = ap length e ∙ length-replicate (length s₀) 0 ∙ long;
  at = λ a b ha hb. ap (λ (l : List ℕ). get_or l (a * n + b) 0) e ∙ cleared_zeros (length s₀) (a * n + b);
}

-- ---- the diagonal

and_all : (b : Bool) → (b && true) ≡ b
and_all true = refl
and_all false = refl

abbrev pub diagonal_to : ℕ → Edges → Edges
diagonal_to a t x y = t x y || (eqb x y && ltb x a)

pub diagonal_all : {n a : ℕ} {s₀ s : List ℕ} → n ≤ a → Makes n (diagonal_to a) s₀ s → Makes n (λ t x y. t x y || eqb x y) s₀ s
diagonal_all {a = a} h p = makes_same (λ t x y hx hy. rw (lt-ltb x a (omega arith), and_all (eqb x y)) refl) p

pub diagonal_more : {n a : ℕ} {s₀ s : List ℕ} → a < n → Makes n (diagonal_to a) s₀ s → Makes n (diagonal_to (a + 1)) s₀ (set s (a * n + a) 1)
diagonal_more {n} {a} {s₀} {s} ha p = record {
  table = λ t h. holds_set (diagonal_to (a + 1) t) a a 1 ha ha (p.table t h) (ap bit (sym (new t))) (other t);
}
  where
    new : (t : Edges) → diagonal_to (a + 1) t a a ≡ true
    new t = rw (eq-eqb a a refl, lt-ltb a (a + 1) (omega arith)) (sym (or_true (t a a)))

    other : (t : Edges) (x y : ℕ) → x < n → y < n → ¬ ((x ≡ a) × (y ≡ a)) → diagonal_to (a + 1) t x y ≡ diagonal_to a t x y
    other t x y hx hy ne = ⊎_elim
        (λ (e : x ≡ a). rw (ne_eqb x y (λ q. ne (e, sym q ∙ e))) refl)
        (λ (d : ¬ (x ≡ a)). rw (ltb_past x a d) refl)
        (same? x a)

-- ---- the row of one component

-- the first i neighbours of the row have a 1
abbrev pub row_to : List ℤ → ℕ → List ℕ → ℕ → Edges → Edges
row_to cs row front i t x y = t x y || (eqb x row && member (member_of cs y) (take i front))

pub row_none : (cs : List ℤ) (row : ℕ) (front square : List ℕ) → Makes (component_count cs) (row_to cs row front zero) square square
unfolding member
row_none cs row front square = record { table = λ t h. holds_same (λ x y hx hy. sym (ap (λ d. t x y || d) (and_none (eqb x row)) ∙ or_none (t x y))) h }

pub row_all : (cs : List ℤ) (row : ℕ) (front : List ℕ) {i : ℕ} {s₀ s : List ℕ} → length front ≤ i → Makes (component_count cs) (row_to cs row front i) s₀ s
    → Makes (component_count cs) (λ t x y. t x y || (eqb x row && member (member_of cs y) front)) s₀ s
row_all cs row front {i} h p =
    makes_same (λ t x y hx hy. ap (λ l. t x y || (eqb x row && member (member_of cs y) l)) (take_all i front h)) p

-- the neighbour at i is the component at place b
module _ {cs : List ℤ} (once : first_repeated cs ≡ None) (row : ℕ) (front : List ℕ) {s₀ s : List ℕ} {i b : ℕ} (inside : row < component_count cs)
    (p : Makes (component_count cs) (row_to cs row front i) s₀ s) (h : i < length front) (to : MemberPlace cs (get_or front i 0) b) where
  more : (v : ℕ) → member v (take (i + 1) front) ≡ (member v (take i front) || (eqb v (get_or front i 0) || false))
  unfolding member
  more v =
      ap (λ (k : ℕ). member v (take k front)) (add-one i)
      ∙ ap (member v) (take-suc front i 0 h)
      ∙ sym (member_append v (take i front) (get_or front i 0 ∷ []))

  pub row_more : Makes (component_count cs) (row_to cs row front (i + 1)) s₀ (set s (row * component_count cs + b) 1)
  row_more = record {
    table = λ t held. holds_set (row_to cs row front (i + 1) t) row b 1 inside to.below (p.table t held) (ap bit (sym (new t))) (other t);
  }
    where
      new : (t : Edges) → row_to cs row front (i + 1) t row b ≡ true
      new t =
          rw (eq-eqb row row refl)
          (ap (λ d. t row b || d) (more (member_of cs b)
          ∙ ap (λ d. member (member_of cs b) (take i front) || (d || false)) (eq-eqb (member_of cs b) (get_or front i 0) (to.member once))
          ∙ sym (or_true (member (member_of cs b) (take i front))))
          ∙ sym (or_true (t row b)))

      other : (t : Edges) (x y : ℕ) → x < component_count cs → y < component_count cs → ¬ ((x ≡ row) × (y ≡ b))
          → row_to cs row front (i + 1) t x y ≡ row_to cs row front i t x y
      other t x y hx hy ne = ⊎_elim
          (λ (e : x ≡ row).
          let differ : member_of cs y ≡ get_or front i 0 → ⊥ = λ q. ne (e, member_inj cs once y b hy to.below (q ∙ sym (to.member once))) in
          ap (λ d. t x y || (eqb x row && d)) (more (member_of cs y)
          ∙ ap (λ d. member (member_of cs y) (take i front) || (d || false)) (ne_eqb (member_of cs y) (get_or front i 0) differ)
          ∙ or_none (member (member_of cs y) (take i front))))
          (λ (d : ¬ (x ≡ row)). rw (ne_eqb x row d) refl)
          (same? x row)

-- ---- all rows

-- the edges from the members below m have a 1
abbrev pub edges_to : List ℤ → Edges → ℕ → Edges → Edges
edges_to cs edge m t x y = t x y || (ltb (member_of cs x) m && edge (member_of cs x) (member_of cs y))

pub edges_none : (cs : List ℤ) (edge : Edges) (square : List ℕ) → Makes (component_count cs) (edges_to cs edge zero) square square
edges_none cs edge square = record { table = λ t h. holds_same (λ x y hx hy. rw (le-ltb (member_of cs x) 0 (omega arith)) (sym (or_none (t x y)))) h }

pub edges_all : (cs : List ℤ) (edge : Edges) {m : ℕ} {s₀ s : List ℕ} → component_count cs ≤ m → Makes (component_count cs) (edges_to cs edge m) s₀ s
    → Makes (component_count cs) (λ t x y. t x y || edge (member_of cs x) (member_of cs y)) s₀ s
edges_all cs edge {m} h p =
    makes_same (λ t x y hx hy. let low = member_below cs x hx in rw (lt-ltb (member_of cs x) m (omega arith)) refl) p

-- the row of member m is that of the component at place a
pub edges_more : {cs : List ℤ} {edge : Edges} {ends next s₀ s s' : List ℕ} {m a : ℕ} → first_repeated cs ≡ None → Rows (component_count cs) edge ends next
    → m < component_count cs → MemberPlace cs m a → Makes (component_count cs) (edges_to cs edge m) s₀ s
    → Makes (component_count cs) (λ t x y. t x y || (eqb x a && member (member_of cs y) (row_of ends next m))) s s'
    → Makes (component_count cs) (edges_to cs edge (m + 1)) s₀ s'
edges_more {cs} {edge} {ends} {next} {m = m} {a = a} once r lt place p q = record {
  table = λ t held. holds_same (λ x y hx hy. same t x y hx) (q.table (edges_to cs edge m t) (p.table t held));
}
  where
    same : (t : Edges) (x y : ℕ) → x < component_count cs
        → (edges_to cs edge m t x y || (eqb x a && member (member_of cs y) (row_of ends next m))) ≡ edges_to cs edge (m + 1) t x y
    same t x y hx = ⊎_elim
        (λ (e : x ≡ a).
        let is : member_of cs x ≡ m = ap (member_of cs) e ∙ place.member once in
        rw (is, eq-eqb x a e, lt-ltb m (m + 1) (omega arith), le-ltb m m (omega arith))
        (ap₂ ◌||◌ (or_none (t x y)) (r.rows.holds m lt (member_of cs y))))
        (λ (d : ¬ (x ≡ a)).
        let ne : ¬ (member_of cs x ≡ m) = λ e. d (member_inj cs once x a hx place.below (e ∙ sym (place.member once))) in
        rw (ne_eqb x a d, ltb_past (member_of cs x) m ne) (or_none (edges_to cs edge m t x y)))
        (same? x a)

-- ---- all together

pub started : (cs : List ℤ) {edge : Edges} (to : Edges) {s₁ s₂ s₃ : List ℕ} → Holds (component_count cs) (λ a b. false) s₁
    → Makes (component_count cs) (λ t x y. t x y || eqb x y) s₁ s₂ → Makes (component_count cs) (λ t x y. t x y || to (member_of cs x) (member_of cs y)) s₂ s₃
    → ((x y : ℕ) → x < component_count cs → y < component_count cs → edge x y ≡ to (member_of cs x) (member_of cs y))
    → Holds (component_count cs) (start edge) s₃
started cs to h p q on = holds_same (λ x y hx hy. ap (λ d. eqb x y || d) (sym (on x y hx hy))) (q.table (λ x y. eqb x y) (p.table (λ x y. false) h))
