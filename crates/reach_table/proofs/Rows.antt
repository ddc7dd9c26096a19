-- Rows of a table that says exactly who reaches whom are equal exactly where each reaches the other.
-- Assumes nothing.
use mathlib.Core.Path.{◌≡◌, refl, sym, ap, ◌∙◌}
use mathlib.Core.Bool.{Bool, true, false, false≢true}
use mathlib.Core.Logic.{◌↔◌}
use Prim.Native.Nat.{ℕ, zero, suc, ◌+◌, ◌≤◌, ◌<◌}
use native.Mathlib.Omega.{arith}
use borrow.Author.Tests.{eqb-true, eq-eqb}
use lib.Dec.{eqb}
use Rattle.lists.specs.First.{all_from}
use Rattle.lists.proofs.Search.{all_at}
use Rattle.regions.specs.Graph.{Edges, Reach, here, Both}
use Rattle.regions.proofs.Laws.Walks.{Reach·trans}
use Rattle.reach_table.specs.Table.{bit, is_same_row}

all_of : (test : ℕ → Bool) (k n : ℕ) → ((j : ℕ) → k ≤ j → j < k + n → test j ≡ true) → all_from test k n ≡ true
unfolding all_from
all_of test k zero h = refl
all_of test k (suc n) h = rw (h k (omega arith) (omega arith)) (all_of test (suc k) n (λ j a b. h j (omega arith) (omega arith)))

pub bit_inj : (p q : Bool) → bit p ≡ bit q → p ≡ q
bit_inj true true e = refl
bit_inj true false e = absurd (omega arith)
bit_inj false true e = absurd (omega arith)
bit_inj false false e = refl

module _ (n : ℕ) (table : Edges) (a b : ℕ) where
  pub row_parts : is_same_row n table a b ≡ true → (c : ℕ) → c < n → table a c ≡ table b c
  unfolding is_same_row
  row_parts e c h =
      bit_inj (table a c) (table b c)
      (eqb-true (bit (table a c)) (bit (table b c)) (all_at (λ c. eqb (bit (table a c)) (bit (table b c))) zero n e c (omega arith) (omega arith)))

  pub row_of : ((c : ℕ) → c < n → table a c ≡ table b c) → is_same_row n table a b ≡ true
  unfolding is_same_row
  row_of h = all_of (λ c. eqb (bit (table a c)) (bit (table b c))) zero n (λ c p q. eq-eqb (bit (table a c)) (bit (table b c)) (ap bit (h c (omega arith))))

pub equal_tests : (p q : Bool) → (p ≡ true → q ≡ true) → (q ≡ true → p ≡ true) → p ≡ q
equal_tests true q f g = sym (f refl)
equal_tests false true f g = absurd (false≢true (g refl))
equal_tests false false f g = refl

pub rows_both : (n : ℕ) (edge table : Edges) → ((a b : ℕ) → (table a b ≡ true) ↔ Reach edge a b)
    → (a b : ℕ) → a < n → b < n → (is_same_row n table a b ≡ true) ↔ Both edge a b
rows_both n edge table r a b ha hb = (
  λ e. (
    (r a b).0 (row_parts n table a b e b hb ∙ (r b b).1 here),
    (r b a).0 (sym (row_parts n table a b e a ha) ∙ (r a a).1 here),
  ),
  λ p. row_of n table a b (λ c h. equal_tests (table a c) (table b c)
      (λ q. (r b c).1 (Reach·trans p.1 ((r a c).0 q)))
      (λ q. (r a c).1 (Reach·trans p.0 ((r b c).0 q)))),
)
