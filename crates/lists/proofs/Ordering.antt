-- Laws of `less_then`, and of records that ascend.
--     then_cases, then_less, then_rest                       what `less_then` says
--     then_step                                              it is transitive where what decides after it is
--     ascending_at                                           a record comes before the next
--     less_three, less_four                                  tuples compare so
-- Assumes nothing.
use Rattle.std.specs.Prelude.{Some, None}
use Rattle.std.proofs.Common.{Less, Equal, Greater}
use Rattle.std.specs.Ordering.{int_cmp, is_lt, is_some_and, partial_ordering_then}
use Rattle.std.proofs.lemmas.Grind.{common_steps}
use mathlib.Core.Bool.{cond}
use mathlib.Core.Path.{◌≡◌, refl, ◌∙◌, subst}
use mathlib.Core.Bool.{Bool, true, false, not, ◌&&◌, ◌||◌}
use mathlib.Core.Logic.{◌⊎◌, inl, inr, ⊎_elim}
use mathlib.Core.List.{List}
use Prim.Native.Nat.{ℕ, suc, ◌-◌, ◌*◌, ◌/◌, ◌<◌}
use native.Mathlib.Omega.{arith}
use lib.ListN.{length}
use lib.IntN.{ℤ}
use lib.Signed.{lt_z}
use Rattle.lists.specs.Signed.{less_then}
use borrow.Author.Tests.{not-false}
use Rattle.lists.specs.Order.{record_before, first_not_ascending}
use Rattle.lists.proofs.Search.{never, none_found}
use Rattle.lists.proofs.Signed.{lt_z_self, lt_z_trans, lt_z_neither}

pub then_less : (a b : ℤ) (r : Bool) → lt_z a b ≡ true → less_then a b r ≡ true
then_less a b r e = rw e

pub then_rest : (a b : ℤ) (r : Bool) → a ≡ b → less_then a b r ≡ r
then_rest a b r e = rw (e, lt_z_self b)

pub then_cases : (a b : ℤ) (r : Bool) → less_then a b r ≡ true → (lt_z a b ≡ true) ⊎ ((a ≡ b) × (r ≡ true))
then_cases a b r e = go (lt_z a b) refl (lt_z b a) refl e
  where
    go : (s : Bool) → lt_z a b ≡ s → (t : Bool) → lt_z b a ≡ t → (s || (not t && r)) ≡ true → (lt_z a b ≡ true) ⊎ ((a ≡ b) × (r ≡ true))
    go true p t q f = inl p
    go false p true q f = never f
    go false p false q f = inr (lt_z_neither a b p q, f)

pub then_step : (a b c : ℤ) (r s t : Bool) → (r ≡ true → s ≡ true → t ≡ true) → less_then a b r ≡ true → less_then b c s ≡ true → less_then a c t ≡ true
then_step a b c r s t after e f =
    ⊎_elim
    (λ (p : lt_z a b ≡ true). ⊎_elim
    (λ (q : lt_z b c ≡ true). then_less a c t (lt_z_trans a b c p q))
    (λ q. then_less a c t (rw q.0 at p))
    (then_cases b c s f))
    (λ p. ⊎_elim
    (λ (q : lt_z b c ≡ true). then_less a c t (rw p.0 q))
    (λ q. then_rest a c t (p.0 ∙ q.0) ∙ after p.1 q.1)
    (then_cases b c s f))
    (then_cases a b r e)

-- ---- records that ascend

pub ascending_at : (fields : List ℕ) (width : ℕ) (list : List ℤ) → first_not_ascending fields width list ≡ None
    → (k : ℕ) → suc k < length list / width → record_before fields list (k * width) (suc k * width) ≡ true
unfolding first_not_ascending
ascending_at fields width list e k h =
    let fails = none_found (λ i. not (record_before fields list ((i - 1) * width) (i * width))) 1 (length list / width - 1) e (suc k) (omega arith) (omega arith) in
    let same : suc k - 1 ≡ k = omega arith in
    subst (λ (i : ℕ). record_before fields list (i * width) (suc k * width) ≡ true) same (not-false (record_before fields list ((suc k - 1) * width) (suc k * width)) fails)

-- ---- tuples

by_four : (p q r s t u v w : Bool)
    → is_some_and is_lt (partial_ordering_then (partial_ordering_then (partial_ordering_then
    (Some (cond p Less (cond q Greater Equal))) (Some (cond r Less (cond s Greater Equal))))
    (Some (cond t Less (cond u Greater Equal)))) (Some (cond v Less (cond w Greater Equal))))
    ≡ (p || (not q && (r || (not s && (t || (not u && (v || (not w && false))))))))
by_four p q r s t u v w = grind (arith, common_steps)

pub less_four : (a b c d x y z w : ℤ)
    → is_some_and is_lt (partial_ordering_then (partial_ordering_then (partial_ordering_then
    (Some (int_cmp a x)) (Some (int_cmp b y))) (Some (int_cmp c z))) (Some (int_cmp d w)))
    ≡ less_then a x (less_then b y (less_then c z (less_then d w false)))
less_four a b c d x y z w = by_four (lt_z a x) (lt_z x a) (lt_z b y) (lt_z y b) (lt_z c z) (lt_z z c) (lt_z d w) (lt_z w d)

by_three : (p q r s t u : Bool)
    → is_some_and is_lt (partial_ordering_then (partial_ordering_then (Some (cond p Less (cond q Greater Equal))) (Some (cond r Less (cond s Greater Equal))))
    (Some (cond t Less (cond u Greater Equal))))
    ≡ (p || (not q && (r || (not s && (t || (not u && false))))))
by_three p q r s t u = grind (arith, common_steps)

pub less_three : (a b c x y z : ℤ)
    → is_some_and is_lt (partial_ordering_then (partial_ordering_then (Some (int_cmp a x)) (Some (int_cmp b y))) (Some (int_cmp c z)))
    ≡ less_then a x (less_then b y (less_then c z false))
less_three a b c x y z = by_three (lt_z a x) (lt_z x a) (lt_z b y) (lt_z y b) (lt_z c z) (lt_z z c)
