-- The pairs of numbers below n that pass a test, as a list of links.
--     pairs, pairs_size        there are pair_count of them
--     has_pairs, pairs_has     which they are
--     pairs_clean              none is there twice
--     without                  a list of links, less those between two nodes
-- Assumes nothing.
use mathlib.Core.Path.{◌≡◌, refl, sym, ap, ap₂, subst, ◌∙◌}
use mathlib.Core.Bool.{Bool, true, false, cond, ◌&&◌, ◌||◌, true≢false}
use mathlib.Core.Logic.{◌⊎◌, inl, inr, ⊎_elim}
use Prim.Native.Nat.{ℕ, zero, suc, ◌+◌, ◌≤◌, ◌<◌}
use native.Mathlib.Nat.{eq-or-lt_of_le, le_of_suc-le-suc}
use native.Mathlib.Omega.{arith}
use lib.Dec.{eqb}
use borrow.Author.Tests.{eqb-true, eq-eqb}
use Rattle.sets.specs.Members.{as_nat, count_below}
use Rattle.sets.proofs.Counts.{count_cong}
use Rattle.lists.proofs.Search.{both}
use Rattle.regions.specs.Graph.{Edges}
use Rattle.rings.specs.Rings.{pair_count}
use Rattle.rings.proofs.Linking.{Links, none, join, size, Has, Joins, Clean}

-- those with the greater number b and a smaller one below k, before e
unfoldable pub column : Edges → ℕ → ℕ → Links → Links
column test b zero e = e
column test b (suc a) e = cond (test a b) (join a b (column test b a e)) (column test b a e)

unfoldable pub pairs : Edges → ℕ → Links
pairs test zero = none
pairs test (suc b) = column test b b (pairs test b)

-- ---- how many

column_size : (test : Edges) (b k : ℕ) (e : Links) → size (column test b k e) ≡ size e + count_below (λ a. test a b) k
unfolding column count_below size
column_size test b zero e = omega arith
column_size test b (suc a) e = go (test a b) (column_size test b a e)
  where
    go : (t : Bool) → size (column test b a e) ≡ size e + count_below (λ a. test a b) a
        → size (cond t (join a b (column test b a e)) (column test b a e)) ≡ size e + (count_below (λ a. test a b) a + as_nat t)
    go true ih = omega (arith, ih)
    go false ih = omega (arith, ih)

pub pairs_size : (test : Edges) (n : ℕ) → size (pairs test n) ≡ pair_count test n
unfolding pairs pair_count size
pairs_size test zero = refl
pairs_size test (suc b) = column_size test b b (pairs test b) ∙ ap (λ (k : ℕ). k + count_below (λ a. test a b) b) (pairs_size test b)

pub count_same : (test test' : Edges) (n : ℕ) → ((a b : ℕ) → a < n → b < n → test a b ≡ test' a b) → pair_count test n ≡ pair_count test' n
unfolding pair_count
count_same test test' zero h = refl
count_same test test' (suc b) h =
    ap₂ ◌+◌ (count_same test test' b (λ x y p q. h x y (omega arith) (omega arith)))
    (count_cong (λ a. test a b) (λ a. test' a b) b (λ a l. h a b (omega arith) (omega arith)))

-- ---- which

module _ (test : Edges) (b : ℕ) (e : Links) where
  has_column : (k x y : ℕ) → Has (column test b k e) x y → ((y ≡ b) × (x < k) × (test x y ≡ true)) ⊎ Has e x y
  unfolding column
  has_column zero x y h = inr h
  has_column (suc a) x y h = go (test a b) refl h (has_column a x y)
    where
      old : ((y ≡ b) × (x < a) × (test x y ≡ true)) ⊎ Has e x y → ((y ≡ b) × (x < suc a) × (test x y ≡ true)) ⊎ Has e x y
      old (inl p) = inl (p.0, omega (arith, p.1), p.2)
      old (inr p) = inr p

      go : (t : Bool) → test a b ≡ t → Has (cond t (join a b (column test b a e)) (column test b a e)) x y
          → (Has (column test b a e) x y → ((y ≡ b) × (x < a) × (test x y ≡ true)) ⊎ Has e x y)
          → ((y ≡ b) × (x < suc a) × (test x y ≡ true)) ⊎ Has e x y
      go true q (inl p) ih = inl (p.1, omega (arith, p.0), ap₂ test p.0 p.1 ∙ q)
      go true q (inr k) ih = old (ih k)
      go false q k ih = old (ih k)

  column_old : (k x y : ℕ) → Has e x y → Has (column test b k e) x y
  unfolding column
  column_old zero x y h = h
  column_old (suc a) x y h = go (test a b) (column_old a x y h)
    where
      go : (t : Bool) → Has (column test b a e) x y → Has (cond t (join a b (column test b a e)) (column test b a e)) x y
      go true k = inr k
      go false k = k

  column_new : (k x : ℕ) → x < k → test x b ≡ true → Has (column test b k e) x b
  unfolding column
  column_new zero x l h = absurd (omega arith)
  column_new (suc a) x l h = go (test a b) refl (eq-or-lt_of_le (le_of_suc-le-suc l)) (column_new a x)
    where
      go : (t : Bool) → test a b ≡ t → (x ≡ a) ⊎ (x < a) → (x < a → test x b ≡ true → Has (column test b a e) x b)
          → Has (cond t (join a b (column test b a e)) (column test b a e)) x b
      go true q (inl p) ih = inl (p, refl)
      go true q (inr p) ih = inr (ih p h)
      go false q (inl p) ih = absurd (true≢false (sym h ∙ ap (λ (z : ℕ). test z b) p ∙ q))
      go false q (inr p) ih = ih p h

  column_clean : (k : ℕ) → k ≤ b → ((x y : ℕ) → Has e x y → (x < y) × (y < b)) → Clean e → Clean (column test b k e)
  unfolding column
  column_clean zero l low c = c
  column_clean (suc a) l low c = go (test a b) (column_clean a (omega arith) low c)
    where
      fresh : ¬ Joins (column test b a e) a b
      fresh (inl h) = ⊎_elim (λ p. omega (arith, p.1)) (λ p. let q = low a b p in omega (arith, q.1)) (has_column a a b h)
      fresh (inr h) = ⊎_elim (λ p. omega (arith, p.0)) (λ p. let q = low b a p in omega (arith, q.0)) (has_column a b a h)

      go : (t : Bool) → Clean (column test b a e) → Clean (cond t (join a b (column test b a e)) (column test b a e))
      go true d = (fresh, d)
      go false d = d

pub has_pairs : (test : Edges) (n x y : ℕ) → Has (pairs test n) x y → (x < y) × (y < n) × (test x y ≡ true)
unfolding pairs
has_pairs test zero x y h = absurd h
has_pairs test (suc b) x y h = ⊎_elim
    (λ p. (omega (arith, p.0, p.1), omega (arith, p.0), p.2))
    (λ p. let q = has_pairs test b x y p in (q.0, omega (arith, q.1), q.2))
    (has_column test b (pairs test b) b x y h)

pub pairs_has : (test : Edges) (n x y : ℕ) → x < y → y < n → test x y ≡ true → Has (pairs test n) x y
unfolding pairs
pairs_has test zero x y l h t = absurd (omega arith)
pairs_has test (suc b) x y l h t = ⊎_elim
    (λ (e : y ≡ b).
    subst (λ (z : ℕ). Has (column test b b (pairs test b)) x z) (sym e)
    (column_new test b (pairs test b) b x (omega arith) (subst (λ (z : ℕ). test x z ≡ true) e t)))
    (λ (less : y < b). column_old test b (pairs test b) b x y (pairs_has test b x y l less t))
    (eq-or-lt_of_le (le_of_suc-le-suc h))

pub pairs_clean : (test : Edges) (n : ℕ) → Clean (pairs test n)
unfolding pairs
pairs_clean test zero = tt
pairs_clean test (suc b) =
    column_clean test b (pairs test b) b (omega arith) (λ x y h. let p = has_pairs test b x y h in (p.0, p.1)) (pairs_clean test b)

-- ---- without the links between x and w

abbrev pub pair_test : ℕ → ℕ → ℕ → ℕ → Bool
pair_test x w p q = (eqb p x && eqb q w) || (eqb p w && eqb q x)

pub pair_cases : (x w p q : ℕ) → pair_test x w p q ≡ true → ((p ≡ x) × (q ≡ w)) ⊎ ((p ≡ w) × (q ≡ x))
pair_cases x w p q h = go (eqb p x && eqb q w) refl h
  where
    go : (t : Bool) → (eqb p x && eqb q w) ≡ t → (t || (eqb p w && eqb q x)) ≡ true → ((p ≡ x) × (q ≡ w)) ⊎ ((p ≡ w) × (q ≡ x))
    go true e h = let b = both (eqb p x) (eqb q w) e in inl (eqb-true p x b.0, eqb-true q w b.1)
    go false e h = let b = both (eqb p w) (eqb q x) h in inr (eqb-true p w b.0, eqb-true q x b.1)

pub pair_none : (x w p q : ℕ) → ¬ ((p ≡ x) × (q ≡ w)) → ¬ ((p ≡ w) × (q ≡ x)) → pair_test x w p q ≡ false
pair_none x w p q a b = go (pair_test x w p q) refl
  where
    go : (t : Bool) → pair_test x w p q ≡ t → t ≡ false
    go true e = absurd (⊎_elim a b (pair_cases x w p q e))
    go false e = refl

pub pair_here : (x w p q : ℕ) → p ≡ x → q ≡ w → pair_test x w p q ≡ true
pair_here x w p q a b = rw (eq-eqb p x a, eq-eqb q w b)

pub pair_there : (x w p q : ℕ) → p ≡ w → q ≡ x → pair_test x w p q ≡ true
pair_there x w p q a b = rw (eq-eqb p w a, eq-eqb q x b) (or_true (eqb p x && eqb q w))
  where
    or_true : (t : Bool) → (t || true) ≡ true
    or_true true = refl
    or_true false = refl

unfoldable pub without : ℕ → ℕ → Links → Links
without x w none = none
without x w (join a b e) = cond (pair_test x w a b) (without x w e) (join a b (without x w e))

module _ (x w : ℕ) where
  pub without_less : (e : Links) → size (without x w e) ≤ size e
  unfolding without size
  without_less none = omega arith
  without_less (join a b e) = go (pair_test x w a b) (without_less e)
    where
      go : (t : Bool) → size (without x w e) ≤ size e → size (cond t (without x w e) (join a b (without x w e))) ≤ suc (size e)
      go true ih = omega arith
      go false ih = omega arith

  -- at least one is left out
  pub without_some : (e : Links) → Joins e x w → size (without x w e) + 1 ≤ size e
  unfolding without size
  without_some none j = ⊎_elim absurd absurd j
  without_some (join a b e) j = go (pair_test x w a b) refl j (without_some e) (without_less e)
    where
      go : (t : Bool) → pair_test x w a b ≡ t → Joins (join a b e) x w → (Joins e x w → size (without x w e) + 1 ≤ size e) → size (without x w e) ≤ size e
          → size (cond t (without x w e) (join a b (without x w e))) + 1 ≤ suc (size e)
      go true q j ih le = omega arith
      go false q (inl (inl p)) ih le = absurd (true≢false (sym (pair_here x w a b (sym p.0) (sym p.1)) ∙ q))
      go false q (inl (inr h)) ih le = omega (arith, ih (inl h))
      go false q (inr (inl p)) ih le = absurd (true≢false (sym (pair_there x w a b (sym p.0) (sym p.1)) ∙ q))
      go false q (inr (inr h)) ih le = omega (arith, ih (inr h))

  pub without_of : (e : Links) (p q : ℕ) → Has (without x w e) p q → Has e p q
  unfolding without
  without_of none p q h = absurd h
  without_of (join a b e) p q h = go (pair_test x w a b) h (without_of e p q)
    where
      go : (t : Bool) → Has (cond t (without x w e) (join a b (without x w e))) p q → (Has (without x w e) p q → Has e p q) → Has (join a b e) p q
      go true h ih = inr (ih h)
      go false (inl k) ih = inl k
      go false (inr k) ih = inr (ih k)

  pub without_has : (e : Links) (p q : ℕ) → pair_test x w p q ≡ false → Has e p q → Has (without x w e) p q
  unfolding without
  without_has none p q n h = absurd h
  without_has (join a b e) p q n h = go (pair_test x w a b) refl h (without_has e p q n)
    where
      go : (t : Bool) → pair_test x w a b ≡ t → Has (join a b e) p q → (Has e p q → Has (without x w e) p q)
          → Has (cond t (without x w e) (join a b (without x w e))) p q
      go true r (inl k) ih = absurd (true≢false (sym r ∙ ap₂ (pair_test x w) (sym k.0) (sym k.1) ∙ n))
      go true r (inr k) ih = ih k
      go false r (inl k) ih = inl k
      go false r (inr k) ih = inr (ih k)
