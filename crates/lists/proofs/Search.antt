-- Laws of `First`: a search or a test over a run of places, a place at a time.
--     first_here, first_later, first_none      the places k .. n - 1 by the test at k
--     all_fails, all_later, all_done           the same for a test at every place
--     all_at                                   what holds at every place holds at each
--     none_found, first_is, found_at           what a search says, and how it is found to say so
--     found_more, some_more                    one place more at the end of the run
--     record_within                            record k lies within its list
-- Assumes nothing.
use Rattle.std.specs.Prelude.{Option, Some, None}
use mathlib.Core.Path.{◌≡◌, refl, sym, ◌∙◌, subst}
use mathlib.Core.Bool.{Bool, true, false, cond, ◌&&◌, ◌||◌}
use mathlib.Core.Logic.{⊎_elim}
use Prim.Native.Nat.{ℕ, zero, suc, ◌+◌, ◌-◌, ◌*◌, ◌/◌, ◌≤◌, ◌<◌}
use native.Mathlib.Nat.{add-zero, zero-add, suc-mul, mul-le-mul_right, div-mul-le_self, eq-or-lt_of_le}
use native.Mathlib.Numerals.{add-one}
use native.Mathlib.Omega.{arith}
use lib.Dec.{T}
use Rattle.lists.specs.First.{first_from, all_from, is_found, some}

pub never : {X : Type 0} → false ≡ true → X
never e = absurd (subst T (sym e) tt)

pub both : (a b : Bool) → (a && b) ≡ true → (a ≡ true) × (b ≡ true)
both true b e = (refl, e)
both false b e = never e

pub or_true : (t : Bool) → true ≡ (t || true)
or_true true = refl
or_true false = refl

pub or_false : (t : Bool) → t ≡ (t || false)
or_false true = refl
or_false false = refl

-- ---- a place at a time

module _ (test : ℕ → Bool) (k n : ℕ) where
  left : k < n → n - k ≡ suc (n - (k + 1))
  left h = omega arith

  turn : k < n → first_from test k (n - k) ≡ cond (test k) (Some k) (first_from test (k + 1) (n - (k + 1)))
  unfolding first_from
  turn h = rw (left h, add-one k)

  pub first_here : k < n → test k ≡ true → first_from test k (n - k) ≡ Some k
  first_here h e = turn h ∙ rw e

  pub first_later : k < n → test k ≡ false → first_from test k (n - k) ≡ first_from test (k + 1) (n - (k + 1))
  first_later h e = turn h ∙ rw e

  pub first_none : n ≤ k → first_from test k (n - k) ≡ None
  unfolding first_from
  first_none h = let none : n - k ≡ 0 = omega arith in rw none

  all_turn : k < n → all_from test k (n - k) ≡ (test k && all_from test (k + 1) (n - (k + 1)))
  unfolding all_from
  all_turn h = rw (left h, add-one k)

  pub all_fails : k < n → test k ≡ false → all_from test k (n - k) ≡ false
  all_fails h e = all_turn h ∙ rw e

  pub all_later : k < n → test k ≡ true → all_from test k (n - k) ≡ all_from test (k + 1) (n - (k + 1))
  all_later h e = all_turn h ∙ rw e

  pub all_done : n ≤ k → all_from test k (n - k) ≡ true
  unfolding all_from
  all_done h = let none : n - k ≡ 0 = omega arith in rw none

-- ---- what a search says

pub all_at : (test : ℕ → Bool) (k n : ℕ) → all_from test k n ≡ true → (j : ℕ) → k ≤ j → j < k + n → test j ≡ true
unfolding all_from
all_at test k zero e j p q = absurd (omega arith)
all_at test k (suc n) e j p q =
    let s = both (test k) (all_from test (suc k) n) e in
    ⊎_elim (λ (same : k ≡ j). subst (λ (i : ℕ). test i ≡ true) same s.0) (λ (later : k < j). all_at test (suc k) n s.1 j later (omega arith)) (eq-or-lt_of_le p)

step_none : (t : Bool) (k : ℕ) (f : Option ℕ) → cond t (Some k) f ≡ None → (t ≡ false) × (f ≡ None)
step_none true k f e = let z : ◌≡◌ {A = ℕ} 0 1 = cc in absurd (omega arith)
step_none false k f e = (refl, e)

-- nothing was found: every place failed the test
pub none_found : (test : ℕ → Bool) (k n : ℕ) → first_from test k n ≡ None → (j : ℕ) → k ≤ j → j < k + n → test j ≡ false
unfolding first_from
none_found test k zero e j p q = absurd (omega arith)
none_found test k (suc n) e j p q =
    let s = step_none (test k) k (first_from test (suc k) n) e in
    ⊎_elim (λ (same : k ≡ j). subst (λ (i : ℕ). test i ≡ false) same s.0) (λ (later : k < j). none_found test (suc k) n s.1 j later (omega arith)) (eq-or-lt_of_le p)

-- the first place that passes is found
pub first_is : (test : ℕ → Bool) (k n p : ℕ) → k ≤ p → p < k + n → test p ≡ true → ((j : ℕ) → k ≤ j → j < p → test j ≡ false) → first_from test k n ≡ Some p
unfolding first_from
first_is test k zero p l h e none = absurd (omega arith)
first_is test k (suc n) p l h e none =
    ⊎_elim
    (λ (same : k ≡ p). rw (subst (λ (i : ℕ). test i ≡ true) (sym same) e, same))
    (λ (later : k < p). rw (none k (omega arith) later) (first_is test (suc k) n p later (omega arith) e (λ j a b. none j (omega arith) b)))
    (eq-or-lt_of_le l)

-- no place passes: nothing is found
pub first_nothing : (test : ℕ → Bool) (k n : ℕ) → ((j : ℕ) → k ≤ j → j < k + n → test j ≡ false) → first_from test k n ≡ None
unfolding first_from
first_nothing test k zero none = refl
first_nothing test k (suc n) none = rw (none k (omega arith) (omega arith)) (first_nothing test (suc k) n (λ j a b. none j (omega arith) (omega arith)))

-- what was found passes, is in its run, and no place before it passes
pub record FoundAt (test : ℕ → Bool) (k n p : ℕ) : Type 0 where
  pub from : k ≤ p
  pub below : p < k + n
  pub passes : test p ≡ true
  pub first : (j : ℕ) → k ≤ j → j < p → test j ≡ false

found_here : {a b : ℕ} → Some a ≡ Some b → a ≡ b
found_here e = cc

pub found_at : (test : ℕ → Bool) (k n p : ℕ) → first_from test k n ≡ Some p → FoundAt test k n p
unfolding first_from
found_at test k zero p e = let z : ◌≡◌ {A = ℕ} 0 1 = cc in absurd (omega arith)
found_at test k (suc n) p e = go (test k) refl (found_at test (suc k) n p)
  where
    go : (t : Bool) → test k ≡ t → (first_from test (suc k) n ≡ Some p → FoundAt test (suc k) n p) → FoundAt test k (suc n) p
    go true q later =
        let s : k ≡ p = found_here (rw q at e) in
        record { from = omega arith; below = omega arith; passes = subst (λ (i : ℕ). test i ≡ true) s q; first = λ j a b. absurd (omega arith) }
    go false q later =
        let f = later (rw q at e) in
        record {
          from = omega (arith, f.from);
          below = omega (arith, f.below);
          passes = f.passes;
          first = λ j a b. ⊎_elim (λ (same : k ≡ j). subst (λ (i : ℕ). test i ≡ false) same q) (λ (after : k < j). f.first j after b) (eq-or-lt_of_le a);
        }

-- record k of width w lies within a list of n numbers
pub record_within : (k n w : ℕ) → k < n / w → k * w + w ≤ n
record_within k n w h =
    let s : suc k * w ≤ n / w * w = mul-le-mul_right w h in
    omega (arith, suc-mul k w, div-mul-le_self n w)

-- one place more at the end of the run
pub found_more : (test : ℕ → Bool) (k n : ℕ) → is_found (first_from test k (suc n)) ≡ (is_found (first_from test k n) || test (k + n))
unfolding first_from
found_more test k zero = go (test k) refl
  where
    go : (t : Bool) → test k ≡ t → is_found (cond (test k) (Some k) None) ≡ test (k + 0)
    go true e = rw (add-zero, e)
    go false e = rw (add-zero, e)
found_more test k (suc n) = go (test k) refl (found_more test (suc k) n)
  where
    go : (t : Bool) → test k ≡ t → is_found (first_from test (suc k) (suc n)) ≡ (is_found (first_from test (suc k) n) || test (suc k + n))
        → is_found (cond (test k) (Some k) (first_from test (suc k) (suc n))) ≡ (is_found (cond (test k) (Some k) (first_from test (suc k) n)) || test (k + suc n))
    go true e h = rw e
    go false e h = let same : k + suc n ≡ suc k + n = omega arith in rw (e, same) h

pub some_more : (test : ℕ → Bool) (n : ℕ) → some test (n + 1) ≡ (some test n || test n)
some_more test n = rw add-one (rw zero-add at (found_more test 0 n))
