-- The loops that fill the square.
--     joined_bits     row a after it got the 1s of row m
--     Admitting       the table after the rows before a
--     filling         the table after the middles before m
-- Assumes nothing.
use mathlib.Core.Path.{◌≡◌, refl, sym, ap, ap₂, subst, ◌∙◌}
use mathlib.Core.Bool.{Bool, true, false, ◌&&◌, ◌||◌}
use mathlib.Core.List.{List, [], ◌∷◌}
use mathlib.Core.Logic.{⊎_elim}
use Prim.Native.Nat.{ℕ, zero, ◌+◌, ◌*◌, ◌≤◌, ◌<◌}
use native.Mathlib.Nat.{zero-add}
use native.Mathlib.Numerals.{add-one}
use native.Mathlib.Omega.{arith}
use borrow.Rule.Slice.PartMut.{put_mid}
use lib.Bits.{bit_or, or_zero_l, or_zero_r, or_self}
use lib.Dec.{ltb}
use lib.ListN.{length, get_or}
use Rattle.std.specs.List.{between}
use borrow.Author.Tests.{lt-ltb, le-ltb}
use Rattle.tables.specs.Laws.{same?, order?}
use Rattle.regions.specs.Graph.{Edges, range, each}
use Rattle.regions.proofs.Laws.Loops.{each_append, range_suc}
use Rattle.reach_table.specs.Table.{bit, start, admit, through, middles_below}
use Rattle.reach_table.specs.Square.{Holds, Makes, Joined}
use Rattle.reach_table.proofs.Cells.{holds_row, holds_same, makes_same}
use Rattle.reach_table.proofs.Comparing.{part_long, part_at}

-- ---- tests

pub or_none : (b : Bool) → (b || false) ≡ b
or_none true = refl
or_none false = refl

pub and_none : (b : Bool) → (b && false) ≡ false
and_none true = refl
and_none false = refl

bit_joined : (p q : Bool) → bit_or (bit p) (bit q) ≡ bit (p || q)
bit_joined true true = or_self 1
bit_joined true false = or_zero_r 1
bit_joined false true = or_zero_l 1
bit_joined false false = or_self 0

pub ltb_past : (x c : ℕ) → ¬ (x ≡ c) → ltb x (c + 1) ≡ ltb x c
ltb_past x c ne = ⊎_elim
    (λ (l : c ≤ x). le-ltb x (c + 1) (omega arith) ∙ sym (le-ltb x c l))
    (λ (l : x < c). lt-ltb x (c + 1) (omega arith) ∙ sym (lt-ltb x c l))
    (order? c x)

bit_true : (b : Bool) → bit b ≡ 1 → b ≡ true
bit_true true e = refl
bit_true false e = absurd (omega arith)

bit_false : (b : Bool) → (bit b ≡ 1 → ⊥) → b ≡ false
bit_false true ne = absurd (ne refl)
bit_false false ne = refl

-- ---- one middle

-- the rows before a have the middle's 1s
abbrev pub admit_to : ℕ → ℕ → Edges → Edges
admit_to m a t x y = t x y || (ltb x a && (t x m && t m y))

row_none : (m a : ℕ) (t : Edges) (x y : ℕ) → a ≤ x → admit_to m a t x y ≡ t x y
row_none m a t x y h = rw (le-ltb x a h, or_none (t x y)) refl

pub admit_all : {n m a : ℕ} {s₀ s : List ℕ} → n ≤ a → Makes n (admit_to m a) s₀ s → Makes n (admit m) s₀ s
admit_all {a = a} h p = makes_same (λ t x y hx hy. rw (lt-ltb x a (omega arith)) refl) p

module _ {n m a : ℕ} {s₀ s : List ℕ} (hm : m < n) (ha : a < n) (p : Makes n (admit_to m a) s₀ s) where
  cell : (t : Edges) → Holds n t s₀ → get_or s (a * n + m) 0 ≡ bit (t a m)
  cell t h = (p.table t h).at a m ha hm ∙ ap bit (row_none m a t a m (omega arith))

  -- no other row changes
  elsewhere : (t : Edges) (x y : ℕ) → ¬ (x ≡ a) → admit_to m (a + 1) t x y ≡ admit_to m a t x y
  elsewhere t x y ne = rw (ltb_past x a ne) refl

  this_row : (t : Edges) (y : ℕ) (b : Bool) → t a m ≡ b → admit_to m (a + 1) t a y ≡ (t a y || (b && t m y))
  this_row t y b e = rw (lt-ltb a (a + 1) (omega arith), e) refl

  -- row a is lent, and joined with a copy of the middle's row
  pub admit_yes : {k : ℕ} {middle row : List ℕ} → length s ≡ n * n → get_or s (a * n + m) 0 ≡ 1 → k ≡ n
      → ((c : ℕ) → c < n → get_or middle c 0 ≡ get_or s₀ (m * n + c) 0)
      → length row ≡ length (between (a * n) (a * n + n) s) → Joined middle (between (a * n) (a * n + n) s) row
      → Makes n (admit_to m (a + 1)) s₀ (put_mid (a * n) k s row)
  admit_yes {k} {middle} {row} room e ek copied long j = record {
    table = λ t h.
        holds_row (admit_to m (a + 1) t) a k row ha ek (omega (arith, part_long s room a ha)) (p.table t h) (new t h)
        (λ x y hx hy ne. elsewhere t x y ne);
  }
    where
      new : (t : Edges) → Holds n t s₀ → (c : ℕ) → c < n → get_or row c 0 ≡ bit (admit_to m (a + 1) t a c)
      new t h c hc =
          j.at c (omega (arith, part_long s room a ha))
          ∙ ap₂ bit_or (part_at s room a ha c hc ∙ (p.table t h).at a c ha hc ∙ ap bit (row_none m a t a c (omega arith))) (copied c hc ∙ h.at m c hm hc)
          ∙ bit_joined (t a c) (t m c)
          ∙ ap bit (sym (this_row t c true (bit_true (t a m) (sym (cell t h) ∙ e))))

  pub admit_no : (get_or s (a * n + m) 0 ≡ 1 → ⊥) → Makes n (admit_to m (a + 1)) s₀ s
  admit_no ne = record { table = λ t h. holds_same (same t h) (p.table t h) }
    where
      same : (t : Edges) → Holds n t s₀ → (x y : ℕ) → x < n → y < n → admit_to m a t x y ≡ admit_to m (a + 1) t x y
      same t h x y hx hy = ⊎_elim
          (λ (r : x ≡ a). rw r
          (row_none m a t a y (omega arith)
          ∙ sym (this_row t y false (bit_false (t a m) (λ q. ne (cell t h ∙ q))) ∙ or_none (t a y))))
          (λ (r : ¬ (x ≡ a)). sym (elsewhere t x y r))
          (same? x a)

-- ---- all middles

one_more : (m : ℕ) (edge : Edges) → middles_below (m + 1) edge ≡ admit m (middles_below m edge)
unfolding through each range
one_more m edge =
    ap (λ (k : ℕ). each admit (range zero k) (start edge)) (add-one m)
    ∙ ap (λ l. each admit l (start edge)) (range_suc zero m)
    ∙ each_append admit (range zero m) ((zero + m) ∷ []) (start edge)
    ∙ ap (λ (k : ℕ). admit k (each admit (range zero m) (start edge))) (zero-add m)

pub middles_more : {n m : ℕ} {s s' : List ℕ} → Makes n (admit m) s s' → (edge : Edges) → Holds n (middles_below m edge) s → Holds n (middles_below (m + 1) edge) s'
middles_more {n} {m} {s' = s'} q edge h = subst (λ (u : Edges). Holds n u s') (sym (one_more m edge)) (q.table (middles_below m edge) h)

pub middles_none : {n : ℕ} {s : List ℕ} (edge : Edges) → Holds n (start edge) s → Holds n (middles_below 0 edge) s
unfolding through each range
middles_none edge h = h
