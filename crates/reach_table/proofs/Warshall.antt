-- After the middles of a list, the table has a 1 exactly where a chain of edges leads from the row to the column over these middles.
--     Via              such a chain
--     table_via        what the table says is so, and what is so the table says
--     table_after      the same of the middles below a number
--     table_reaches    the same of all nodes: then the chain is any
-- Assumes nothing.
use mathlib.Core.Path.{◌≡◌, refl, subst}
use mathlib.Core.Bool.{Bool, true, false, ◌&&◌, ◌||◌, false≢true}
use mathlib.Core.List.{List, [], ◌∷◌}
use mathlib.Core.Logic.{◌⊎◌, inl, inr, ⊎_elim, ◌↔◌}
use Prim.Native.Nat.{ℕ, zero, ◌<◌, zero-le}
use native.Mathlib.Omega.{arith}
use borrow.Author.Tests.{eqb-true, eq-eqb}
use lib.Dec.{eqb}
use Rattle.lists.proofs.Search.{both}
use Rattle.lists.proofs.Some.{and_true}
use Rattle.regions.specs.Graph.{Edges, Within, range, each, Reach, here, step}
use Rattle.regions.proofs.Laws.Lists.{◌∈◌, or_right, ∈-range, range-∈}
use Rattle.reach_table.specs.Table.{start, admit, through, middles_below}
use Rattle.reach_table.specs.Theorems.{Over, stay, last, over}

-- a chain of edges from a to c whose inner nodes are of the list
pub data Via (edge : Edges) (l : List ℕ) : ℕ → ℕ → Type 0 where
  none : {a : ℕ} → Via edge l a a
  one : {a b : ℕ} → edge a b ≡ true → Via edge l a b
  more : {a b c : ℕ} → edge a b ≡ true → b ∈ l → Via edge l b c → Via edge l a c

via_more : {edge : Edges} {l m : List ℕ} {a b : ℕ} → ((y : ℕ) → y ∈ l → y ∈ m) → Via edge l a b → Via edge m a b
via_more into none = none
via_more into (one e) = one e
via_more into (more {b = b} e h v) = more e (into b h) (via_more into v)

-- a chain over m and l is one over l, or one over l to m and one over l from m
split_at : {edge : Edges} {m : ℕ} {l : List ℕ} {a b : ℕ} → Via edge (m ∷ l) a b → Via edge l a b ⊎ (Via edge l a m × Via edge l m b)
split_at none = inl none
split_at (one e) = inl (one e)
split_at {edge} {m} {l} (more {a} {b} {c} e h v) = go h (split_at v)
  where
    go : (b ≡ m) ⊎ (b ∈ l) → Via edge l b c ⊎ (Via edge l b m × Via edge l m c) → Via edge l a c ⊎ (Via edge l a m × Via edge l m c)
    go (inl q) (inl w) = inr (one (subst (λ (z : ℕ). edge a z ≡ true) q e), subst (λ (z : ℕ). Via edge l z c) q w)
    go (inl q) (inr w) = inr (one (subst (λ (z : ℕ). edge a z ≡ true) q e), w.1)
    go (inr k) (inl w) = inl (more e k w)
    go (inr k) (inr w) = inr (more e k w.0, w.1)

-- and the other way round
join_at : {edge : Edges} {l : List ℕ} {m a b : ℕ} → m ∈ l → Via edge l a m → Via edge l m b → Via edge l a b
join_at h none w = w
join_at h (one e) w = more e h w
join_at h (more e k v) w = more e k (join_at h v w)

or_left : (a b : Bool) → a ≡ true → (a || b) ≡ true
or_left true b e = refl
or_left false b e = absurd (false≢true e)

or_cases : (a b : Bool) → (a || b) ≡ true → (a ≡ true) ⊎ (b ≡ true)
or_cases true b e = inl refl
or_cases false b e = inr e

-- ---- sound

abbrev Sound : Edges → List ℕ → Edges → Type 0
Sound edge l table = (a b : ℕ) → table a b ≡ true → Via edge l a b

start_sound : (edge : Edges) (l : List ℕ) → Sound edge l (start edge)
start_sound edge l a b e =
    ⊎_elim (λ q. subst (λ (z : ℕ). Via edge l a z) (eqb-true a b q) none) (λ q. one q) (or_cases (eqb a b) (edge a b) e)

admit_sound : (edge table : Edges) (m : ℕ) (l : List ℕ) → m ∈ l → Sound edge l table → Sound edge l (admit m table)
admit_sound edge table m l h s a b e = ⊎_elim (s a b) two (or_cases (table a b) (table a m && table m b) e)
  where
    two : (table a m && table m b) ≡ true → Via edge l a b
    two q = let p = both (table a m) (table m b) q in join_at h (s a m p.0) (s m b p.1)

each_sound : (edge : Edges) (ms l : List ℕ) → ((y : ℕ) → y ∈ ms → y ∈ l) → (table : Edges) → Sound edge l table → Sound edge l (each admit ms table)
unfolding each
each_sound edge [] l sub table s = s
each_sound edge (m ∷ ms) l sub table s =
    each_sound edge ms l (λ y h. sub y (inr h)) (admit m table) (admit_sound edge table m l (sub m (inl refl)) s)

-- ---- complete

abbrev Complete : Edges → List ℕ → Edges → Type 0
Complete edge l table = (a b : ℕ) → Via edge l a b → table a b ≡ true

start_complete : (edge : Edges) → Complete edge [] (start edge)
start_complete edge a b none = or_left (eqb a a) (edge a a) (eq-eqb a a refl)
start_complete edge a b (one e) = or_right (eqb a b) e
start_complete edge a b (more e h v) = absurd h

admit_complete : (edge table : Edges) (m : ℕ) (l : List ℕ) → Complete edge l table → Complete edge (m ∷ l) (admit m table)
admit_complete edge table m l c a b v =
    ⊎_elim (λ w. or_left (table a b) (table a m && table m b) (c a b w))
    (λ w. or_right (table a b) (and_true (table a m) (table m b) (c a m w.0) (c m b w.1)))
    (split_at v)

each_complete : (edge : Edges) (ms l : List ℕ) (table : Edges) → Complete edge l table
    → (k : List ℕ) → ((y : ℕ) → y ∈ k → (y ∈ ms) ⊎ (y ∈ l)) → Complete edge k (each admit ms table)
unfolding each
each_complete edge [] l table c k sub a b v = c a b (via_more (λ y h. ⊎_elim absurd (λ q. q) (sub y h)) v)
each_complete edge (m ∷ ms) l table c k sub a b v =
    each_complete edge ms (m ∷ l) (admit m table) (admit_complete edge table m l c) k
    (λ y h. ⊎_elim (⊎_elim (λ e. inr (inl e)) inl) (λ q. inr (inr q)) (sub y h)) a b v

pub table_via : (edge : Edges) (l : List ℕ) (a b : ℕ) → (through l edge a b ≡ true) ↔ Via edge l a b
unfolding through
table_via edge l a b = (
  each_sound edge l l (λ y h. h) (start edge) (start_sound edge l) a b,
  each_complete edge l [] (start edge) (start_complete edge) l (λ y h. inl h) a b,
)

-- ---- the middles below a number

via_over : {edge : Edges} (k : ℕ) {a b : ℕ} → Via edge (range zero k) a b → Over edge k a b
via_over k none = stay
via_over k (one e) = last e
via_over k (more {b = b} e h v) = let p = ∈-range b zero k h in over e (omega (arith, p.1)) (via_over k v)

over_via : {edge : Edges} (k : ℕ) {a b : ℕ} → Over edge k a b → Via edge (range zero k) a b
over_via k stay = none
over_via k (last e) = one e
over_via k (over {b = b} e h v) = more e (range-∈ b zero k zero-le (omega (arith, h))) (over_via k v)

pub table_after : (edge : Edges) (k a b : ℕ) → (middles_below k edge a b ≡ true) ↔ Over edge k a b
table_after edge k a b = let t = table_via edge (range zero k) a b in (λ e. via_over k (t.0 e), λ v. t.1 (over_via k v))

-- ---- all nodes

via_reach : {edge : Edges} {l : List ℕ} {a b : ℕ} → Via edge l a b → Reach edge a b
via_reach none = here
via_reach (one e) = step e here
via_reach (more e h v) = step e (via_reach v)

-- a chain of edges of a graph of the nodes of the list
reach_via : {n : ℕ} {edge : Edges} (l : List ℕ) → Within n edge → ((x : ℕ) → x < n → x ∈ l) → {a b : ℕ} → Reach edge a b → Via edge l a b
reach_via l within into here = none
reach_via l within into (step {a} {b} e p) = more e (into b (within a b e).1) (reach_via l within into p)

pub table_reaches : {n : ℕ} (edge : Edges) (l : List ℕ) → Within n edge → ((x : ℕ) → x < n → x ∈ l)
    → (a b : ℕ) → (through l edge a b ≡ true) ↔ Reach edge a b
table_reaches edge l within into a b = let t = table_via edge l a b in (λ e. via_reach (t.0 e), λ p. t.1 (reach_via l within into p))
