-- The places of a square: row a and column b stand at a * n + b, and no two places are one; what a store does to the table.
--     row_low, cell_low, cell_inj     where rows and places lie
--     holds_set                       a store
--     holds_row                       a row written over another
--     holds_rows                      a square that holds a table is its rows
-- Assumes nothing.
use mathlib.Core.Path.{◌≡◌, sym, ap, ◌∙◌}
use mathlib.Core.List.{List, ◌++◌}
use mathlib.Core.Logic.{◌⊎◌, inl, inr, ⊎_elim}
use Prim.Native.Nat.{ℕ, zero, suc, ◌+◌, ◌*◌, ◌-◌, ◌≤◌, ◌<◌}
use native.Mathlib.Nat.{mul-le-mul_right, suc-mul, zero-mul}
use native.Mathlib.Omega.{arith}
use borrow.Rule.Slice.PartMut.{put_mid}
use lib.ListN.{length, get_or, set, take, drop, length-set, length-append, length-drop, get_or-append}
use lib.Seq.{ext_get_or, length-take-le, get_or-append-add, get_or-take, get_or-drop, get_or-set_same, get_or-set_other}
use Rattle.tables.specs.Laws.{same?, order?}
use Rattle.lists.specs.First.{tabulate}
use Rattle.regions.specs.Graph.{Edges}
use Rattle.signals.proofs.Tabulated.{tab_length, tab_at}
use Rattle.reach_table.specs.Table.{bit}
use Rattle.reach_table.specs.Scene.{rows_of}
use Rattle.reach_table.specs.Square.{Holds, Makes}

-- ---- places

-- a row ends where the next begins, at the latest
pub row_end : (n a x : ℕ) → a < x → a * n + n ≤ x * n
row_end n a x h = let p = mul-le-mul_right n h in omega (arith, suc-mul a n, p)

pub cell_low : (n a b : ℕ) → a < n → b < n → a * n + b < n * n
cell_low n a b ha hb = omega (arith, row_end n a n ha)

pub row_low : (n a : ℕ) → a < n → a * n + n ≤ n * n
row_low n a ha = row_end n a n ha

pub cell_inj : (n a b x y : ℕ) → b < n → y < n → a * n + b ≡ x * n + y → (a ≡ x) × (b ≡ y)
cell_inj n a b x y hb hy e = go (same? a x)
  where
    go : (a ≡ x) ⊎ (¬ (a ≡ x)) → (a ≡ x) × (b ≡ y)
    go (inl q) = (q, omega (arith, e, ap (λ (z : ℕ). z * n) q))
    go (inr ne) = ⊎_elim (λ l. absurd (less l)) (λ l. absurd (more l)) (apart (order? a x))
      where
        apart : (a ≤ x) ⊎ (x < a) → (a < x) ⊎ (x < a)
        apart (inl l) = inl (omega arith)
        apart (inr l) = inr l

        less : a < x → ⊥
        less l = omega (arith, row_end n a x l, e)

        more : x < a → ⊥
        more l = omega (arith, row_end n x a l, e)

-- ---- stores

pub holds_set : {n : ℕ} {t : Edges} {s : List ℕ} (t' : Edges) (a c v : ℕ) → a < n → c < n → Holds n t s → v ≡ bit (t' a c)
    → ((x y : ℕ) → x < n → y < n → ¬ ((x ≡ a) × (y ≡ c)) → t' x y ≡ t x y) → Holds n t' (set s (a * n + c) v)
holds_set {n} {t} {s} t' a c v ha hc h e other = record {
  long = length-set s (a * n + c) v ∙ h.long;
  at = λ x y hx hy. go x y hx hy (same? (x * n + y) (a * n + c));
}
  where
    go : (x y : ℕ) → x < n → y < n → (x * n + y ≡ a * n + c) ⊎ (¬ (x * n + y ≡ a * n + c)) → get_or (set s (a * n + c) v) (x * n + y) 0 ≡ bit (t' x y)
    go x y hx hy (inl q) =
        let p = cell_inj n x y a c hy hc q in
        ap (λ (i : ℕ). get_or (set s (a * n + c) v) i 0) q
        ∙ get_or-set_same s (a * n + c) v 0 (omega (arith, cell_low n a c ha hc, h.long))
        ∙ e ∙ rw (p.0, p.1)
    go x y hx hy (inr ne) =
        get_or-set_other s (a * n + c) (x * n + y) v 0 ne
        ∙ h.at x y hx hy
        ∙ ap bit (sym (other x y hx hy (λ p. ne (rw (p.0, p.1)))))

pub holds_same : {n : ℕ} {t t' : Edges} {s : List ℕ} → ((x y : ℕ) → x < n → y < n → t x y ≡ t' x y) → Holds n t s → Holds n t' s
holds_same e h = record { long = h.long; at = λ x y hx hy. h.at x y hx hy ∙ ap bit (e x y hx hy) }

pub makes_same : {n : ℕ} {f g : Edges → Edges} {s₀ s : List ℕ} → ((t : Edges) (x y : ℕ) → x < n → y < n → f t x y ≡ g t x y) → Makes n f s₀ s → Makes n g s₀ s
makes_same e p = record { table = λ t h. holds_same (e t) (p.table t h) }

-- ---- a part that is written

module _ (a k : ℕ) (s part : List ℕ) (low : a + k ≤ length s) (long : length part ≡ k) where
  front : length (take a s) ≡ a
  front = length-take-le a s (omega arith)

  pub put_long : length (put_mid a k s part) ≡ length s
  put_long =
      length-append (take a s) (part ++ drop k (drop a s))
      ∙ omega (arith, front, long, length-append part (drop k (drop a s)), length-drop k (drop a s), length-drop a s)

  pub put_before : (i : ℕ) → i < a → get_or (put_mid a k s part) i 0 ≡ get_or s i 0
  put_before i h = get_or-append (take a s) (part ++ drop k (drop a s)) 0 i (omega (arith, front)) ∙ get_or-take a s i 0 h

  after : (j : ℕ) → get_or (put_mid a k s part) (a + j) 0 ≡ get_or (part ++ drop k (drop a s)) j 0
  after j =
      ap (λ (i : ℕ). get_or (put_mid a k s part) (i + j) 0) (sym front) ∙ get_or-append-add (take a s) (part ++ drop k (drop a s)) j 0

  pub put_in : (j : ℕ) → j < k → get_or (put_mid a k s part) (a + j) 0 ≡ get_or part j 0
  put_in j h = after j ∙ get_or-append part (drop k (drop a s)) 0 j (omega arith)

  pub put_past : (i : ℕ) → a + k ≤ i → get_or (put_mid a k s part) i 0 ≡ get_or s i 0
  put_past i h =
      let j = i - (a + k) in
      let e : a + (k + j) ≡ i = omega arith in
      let f : length part + j ≡ k + j = omega arith in
      ap (λ (x : ℕ). get_or (put_mid a k s part) x 0) (sym e)
      ∙ after (k + j)
      ∙ ap (λ (x : ℕ). get_or (part ++ drop k (drop a s)) x 0) (sym f)
      ∙ get_or-append-add part (drop k (drop a s)) j 0
      ∙ get_or-drop k (drop a s) j 0 ∙ get_or-drop a s (k + j) 0 ∙ ap (λ (x : ℕ). get_or s x 0) e

pub holds_row : {n : ℕ} {t : Edges} {s : List ℕ} (t' : Edges) (a k : ℕ) (row : List ℕ) → a < n → k ≡ n → length row ≡ k → Holds n t s
    → ((c : ℕ) → c < n → get_or row c 0 ≡ bit (t' a c))
    → ((x y : ℕ) → x < n → y < n → ¬ (x ≡ a) → t' x y ≡ t x y) → Holds n t' (put_mid (a * n) k s row)
holds_row {n} {t} {s} t' a k row ha e long h new other = record {
  long = put_long (a * n) k s row inside long ∙ h.long;
  at = λ x y hx hy. go x y hx hy (same? x a) (order? a x);
}
  where
    inside : a * n + k ≤ length s
    inside = omega (arith, row_low n a ha, h.long)

    go : (x y : ℕ) → x < n → y < n → (x ≡ a) ⊎ (¬ (x ≡ a)) → (a ≤ x) ⊎ (x < a) → get_or (put_mid (a * n) k s row) (x * n + y) 0 ≡ bit (t' x y)
    go x y hx hy (inl q) _ =
        ap (λ (z : ℕ). get_or (put_mid (a * n) k s row) (z * n + y) 0) q
        ∙ put_in (a * n) k s row inside long y (omega arith) ∙ new y hy ∙ ap (λ (z : ℕ). bit (t' z y)) (sym q)
    go x y hx hy (inr ne) (inl l) =
        put_past (a * n) k s row inside long (x * n + y) (omega (arith, row_end n a x (omega arith)))
        ∙ h.at x y hx hy ∙ ap bit (sym (other x y hx hy ne))
    go x y hx hy (inr ne) (inr l) =
        put_before (a * n) k s row inside long (x * n + y) (omega (arith, row_end n x a l))
        ∙ h.at x y hx hy ∙ ap bit (sym (other x y hx hy ne))

-- ---- the rows of a table

rows_length : (n : ℕ) (t : Edges) (k : ℕ) → length (rows_of n t k) ≡ k * n
unfolding rows_of
rows_length n t zero = sym (zero-mul n)
rows_length n t (suc k) =
    length-append (rows_of n t k) (tabulate (λ b. bit (t k b)) n) ∙ omega (arith, rows_length n t k, tab_length (λ b. bit (t k b)) n, suc-mul k n)

rows_at : {n : ℕ} {t : Edges} {s : List ℕ} → Holds n t s → (k : ℕ) → k ≤ n → (i : ℕ) → i < k * n → get_or s i 0 ≡ get_or (rows_of n t k) i 0
unfolding rows_of
rows_at {n} {t} {s} h zero le i l = absurd (omega (arith, zero-mul n))
rows_at {n} {t} {s} h (suc k) le i l = ⊎_elim
    (λ (past : k * n ≤ i).
    let b = i - k * n in
    let e : i ≡ k * n + b = omega arith in
    let hb : b < n = omega (arith, suc-mul k n) in
    let f : length (rows_of n t k) + b ≡ i = omega (arith, rows_length n t k) in
    ap (λ (j : ℕ). get_or s j 0) e ∙ h.at k b le hb ∙ sym (tab_at (λ c. bit (t k c)) n b hb)
    ∙ sym (get_or-append-add (rows_of n t k) (tabulate (λ c. bit (t k c)) n) b 0)
    ∙ ap (λ (j : ℕ). get_or (rows_of n t k ++ tabulate (λ c. bit (t k c)) n) j 0) f)
    (λ (low : i < k * n).
    rows_at h k (omega arith) i low
    ∙ sym (get_or-append (rows_of n t k) (tabulate (λ c. bit (t k c)) n) 0 i (omega (arith, rows_length n t k))))
    (order? (k * n) i)

pub holds_rows : {n : ℕ} {t : Edges} {s : List ℕ} → Holds n t s → s ≡ rows_of n t n
holds_rows {n} {t} {s} h =
    ext_get_or 0 s (rows_of n t n) (h.long ∙ sym (rows_length n t n)) (λ i l. rows_at h n (omega arith) i (omega (arith, h.long)))

row_at : (n : ℕ) (t : Edges) (k a b : ℕ) → a < k → b < n → get_or (rows_of n t k) (a * n + b) 0 ≡ bit (t a b)
unfolding rows_of
row_at n t zero a b ha hb = absurd (omega arith)
row_at n t (suc k) a b ha hb = ⊎_elim
    (λ (q : a ≡ k).
    let f : a * n + b ≡ length (rows_of n t k) + b = omega (arith, rows_length n t k, ap (λ (z : ℕ). z * n) q) in
    ap (λ (j : ℕ). get_or (rows_of n t k ++ tabulate (λ c. bit (t k c)) n) j 0) f
    ∙ get_or-append-add (rows_of n t k) (tabulate (λ c. bit (t k c)) n) b 0
    ∙ tab_at (λ c. bit (t k c)) n b hb ∙ ap (λ (z : ℕ). bit (t z b)) (sym q))
    (λ (ne : ¬ (a ≡ k)).
    let less : a < k = omega arith in
    get_or-append (rows_of n t k) (tabulate (λ c. bit (t k c)) n) 0 (a * n + b) (omega (arith, rows_length n t k, row_end n a k less))
    ∙ row_at n t k a b less hb)
    (same? a k)

-- and such rows hold it
pub rows_hold : (n : ℕ) (t : Edges) → Holds n t (rows_of n t n)
rows_hold n t = record { long = rows_length n t n; at = λ a b ha hb. row_at n t n a b ha hb }
