-- The rows of the table of what is upstream of each region.
--     rows_empty                         rows that are all the empty set
--     column_at, column_set              a member's marks
--     row_none, row_more, row_same, row_all     a row handed on to no region; to one more; to its own; to all
--     carry_none, carry_more, carry_all  the rows handed on from no node; from one more; from all
--     region_low                         a node's region is below the number of nodes
--     upstream_all                       the seeds, carried
-- Assumes nothing.
use mathlib.Core.Path.{◌≡◌, refl, sym, ap, ap₂, subst, ◌∙◌}
use mathlib.Core.Bool.{Bool, true, false, ◌&&◌, ◌||◌}
use mathlib.Core.List.{List, [], ◌∷◌}
use mathlib.Core.Logic.{inl, inr, ⊎_elim}
use Prim.Native.Nat.{ℕ, zero, suc, ◌+◌, ◌≤◌, ◌<◌, zero-le}
use native.Mathlib.Omega.{arith}
use lib.Dec.{eqb, ltb}
use lib.ListN.{length, set, length-map, replicate}
use lib.Seq.{map-set}
use borrow.Author.Tests.{eqb-true, eq-eqb, ltb-true, lt-ltb}
use Rattle.tables.specs.Laws.{same?}
use Rattle.sets.specs.declared.ComponentSet.{ComponentSet}
use Rattle.sets.specs.Members.{member_of}
use Rattle.sets.proofs.Words.{member_past}
use Rattle.lists.proofs.Search.{both}
use Rattle.lists.proofs.Some.{and_true}
use Rattle.regions.specs.Graph.{Edges, Within, Reach, at, marked}
use Rattle.regions.specs.Kosaraju.{region_of}
use Rattle.regions.specs.Theorems.{RegionLaws}
use Rattle.regions.proofs.Laws.Walks.{Reach·trans}
use Rattle.regions.proofs.Theorems.{region_laws}
use Rattle.graph.specs.Rows.{row_of, Rows}
use Rattle.graph.specs.inner.Marks.{ByRegion, Handed}
use Rattle.graph.proofs.Carrying.{Carrying, handed_none, handed_more, handed_all, handed_as, carrying_none, carrying_more, carry_laws}
use Rattle.assessment.specs.Upstream.{in_row, RowsEmpty, Seeded, column, RowHanded, RowsCarried, UpstreamRows}

-- ---- no row has a member

pub rows_empty : (n : ℕ) (row : ComponentSet) → ((k : ℕ) → member_of row.words k ≡ false) → RowsEmpty (replicate n row)
rows_empty zero row h r k = member_past [] k zero-le
rows_empty (suc n) row h zero k = h k
rows_empty (suc n) row h (suc r) k = rows_empty n row h r k

-- ---- a member's marks

pub column_at : (k : ℕ) (rows : List ComponentSet) (r : ℕ) → marked (column k rows) r ≡ in_row rows r k
column_at k [] r = sym (member_past [] k zero-le)
column_at k (row ∷ rows) zero = refl
column_at k (row ∷ rows) (suc r) = column_at k rows r

column_set : (k : ℕ) (rows : List ComponentSet) (t : ℕ) (row : ComponentSet) → column k (set rows t row) ≡ set (column k rows) t (member_of row.words k)
column_set k rows t row = map-set (λ s. member_of s.words k) rows t row

-- ---- a row handed on

pub row_none : (nodes labels : List ℕ) (r : ℕ) (rows : List ComponentSet) → RowHanded nodes labels 0 r rows rows
row_none nodes labels r rows = record { of = λ k. handed_none nodes labels r (column k rows) }

module _ {nodes labels : List ℕ} {i r : ℕ} {old new : List ComponentSet} (h : RowHanded nodes labels i r old new) where
  pub row_more : (t : ℕ) → t ≡ at labels (at nodes i) → t < length new → (row : ComponentSet)
      → ((k : ℕ) → member_of row.words k ≡ (in_row new t k || in_row new r k)) → RowHanded nodes labels (i + 1) r old (set new t row)
  row_more t is low row joined = record {
    of = λ k.
        let stored : column k (set new t row) ≡ set (column k new) t (marked (column k new) t || marked (column k new) r) =
        column_set k new t row
        ∙ ap (set (column k new) t) (joined k ∙ ap₂ ◌||◌ (sym (column_at k new t)) (sym (column_at k new r))) in
        subst (Handed nodes labels (i + 1) r (column k old)) (sym stored)
        (handed_more (h.of k) t is (omega (arith, length-map new (λ (s : ComponentSet). member_of s.words k))));
  }

  -- a region's own row
  pub row_same : at labels (at nodes i) ≡ r → RowHanded nodes labels (i + 1) r old new
  row_same is = record {
    of = λ k.
        let x = h.of k in
        let now : ℕ → Bool = marked (column k new) in
        record {
          stays = x.stays;
          only = λ q m. ⊎_elim inl (λ e. inr (e.0, (e.1.0, (let w = e.1.1 in omega arith), e.1.2))) (x.only q m);
          handed = λ p a m. ⊎_elim
              (λ (e : p ≡ i). ap (λ (j : ℕ). now (at labels (at nodes j))) e ∙ ap now is ∙ x.stays r m)
              (λ (ne : p ≡ i → ⊥). x.handed p (omega arith) m)
              (same? p i);
        };
  }

  pub row_all : i ≤ length nodes → length nodes ≤ i → RowHanded nodes labels (length nodes) r old new
  row_all le ge = record { of = λ k. handed_all (h.of k) le ge }

-- ---- all rows

pub record RowsCarrying (n : ℕ) (edge : Edges) (nodes : List ℕ) (old new : List ComponentSet) (i : ℕ) : Type 0 where
  pub of : (k : ℕ) → Carrying n edge nodes (column k old) (column k new) i

pub carry_none : (n : ℕ) (edge : Edges) (nodes : List ℕ) (rows : List ComponentSet) → RowsCarrying n edge nodes rows rows 0
carry_none n edge nodes rows = record { of = λ k. carrying_none n edge nodes (column k rows) }

pub carry_more : {n : ℕ} {edge : Edges} {ends next nodes row labels : List ℕ} {old new new' : List ComponentSet} {i r : ℕ}
    → Rows n edge ends next → ByRegion n (region_of n edge) nodes → RowsCarrying n edge nodes old new i → i < n
    → row ≡ row_of ends next (at nodes i) → labels ≡ region_of n edge → r ≡ at (region_of n edge) (at nodes i)
    → RowHanded row labels (length row) r new new' → RowsCarrying n edge nodes old new' (i + 1)
carry_more rows by c lt a b e h = record { of = λ k. carrying_more rows by (c.of k) lt (handed_as a b e (h.of k)) }

pub carry_all : {n : ℕ} {edge : Edges} {nodes : List ℕ} {old new : List ComponentSet} {i : ℕ} → Within n edge → ByRegion n (region_of n edge) nodes
    → RowsCarrying n edge nodes old new i → n ≤ i → RowsCarried n edge old new
carry_all within by c le = record { of = λ k. carry_laws within by (c.of k) le }

-- ---- all of it

module _ {n : ℕ} {edge : Edges} (within : Within n edge) where
  laws : RegionLaws n edge
  laws = region_laws n edge within

  pub region_low : (a : ℕ) → a < n → at (region_of n edge) a < n
  region_low a h = omega (arith, laws.below a h, laws.few)

  module _ {labels : List ℕ} {flags : List Bool} {old new : List ComponentSet} (is : labels ≡ region_of n edge)
      (seeds : Seeded n labels flags old) (c : RowsCarried n edge old new) where
    abbrev region : ℕ → ℕ
    region a = at (region_of n edge) a

    there : (b k : ℕ) → b < n → in_row new (region b) k ≡ true → (k < n) × (marked flags k ≡ true) × Reach edge k b
    there b k h m =
        let (s, l, seeded, path) = ((c.of k).exactly b h).0 (column_at k new (region b) ∙ m) in
        let (held, e) = both (ltb k n && marked flags k) (eqb (at labels k) (region s))
        (sym (seeds.at (region s) k) ∙ sym (column_at k old (region s)) ∙ seeded) in
        let (small, flag) = both (ltb k n) (marked flags k) held in
        let low = ltb-true k n small in
        let one = ap (λ (w : List ℕ). at w k) (sym is) ∙ eqb-true (at labels k) (region s) e in
        (low, flag, Reach·trans ((laws.same k s low l).0 one).0 path)

    back : (b k : ℕ) → b < n → (k < n) × (marked flags k ≡ true) × Reach edge k b → in_row new (region b) k ≡ true
    back b k h (low, flag, path) =
        let one : at labels k ≡ region k = ap (λ (w : List ℕ). at w k) is in
        let seeded = column_at k old (region k) ∙ seeds.at (region k) k
        ∙ and_true (ltb k n && marked flags k) (eqb (at labels k) (region k)) (and_true (ltb k n) (marked flags k) (lt-ltb k n low) flag)
        (eq-eqb (at labels k) (region k) one) in
        sym (column_at k new (region b)) ∙ ((c.of k).exactly b h).1 (k, low, seeded, path)

    pub upstream_all : UpstreamRows n edge flags new
    upstream_all = record { exactly = λ b k h. (there b k h, back b k h) }
