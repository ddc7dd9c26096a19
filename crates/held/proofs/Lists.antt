-- Laws of `Tests` and of `member`.
--     every_imp, every_keep       what each element passes, by what it passed before
--     every_snoc, any_snoc        one element more at the end
--     distinct_snoc, -keep, -front  elements that are all different
--     member-not, every_member    elements of a list of numbers
-- Assumes nothing.
use mathlib.Core.Path.{◌≡◌, refl, sym, ap, ◌∙◌, subst}
use mathlib.Core.Bool.{Bool, true, false, not, cond, ◌&&◌, ◌||◌}
use mathlib.Core.List.{List, [], ◌∷◌, ◌++◌}
use mathlib.Core.Logic.{◌⊎◌, inl, inr}
use Prim.Native.Nat.{ℕ}
use lib.Dec.{eqb}
use borrow.Author.Tests.{eqb-true, eq-eqb, ne_eqb, not-true}
use Rattle.tables.specs.Order.{member}
use Rattle.lists.proofs.Search.{never, both}
use Rattle.lists.proofs.Some.{and_true}
use Rattle.held.specs.Tests.{any, every, distinct, keep}

-- ---- tests

pub true_not_false : {X : Type 0} → true ≡ false → X
true_not_false e = never (sym e)

pub or_cases : (a b : Bool) → (a || b) ≡ true → (a ≡ true) ⊎ (b ≡ true)
or_cases true b e = inl refl
or_cases false b e = inr e

pub or_neither : (a b : Bool) → (a || b) ≡ false → (a ≡ false) × (b ≡ false)
or_neither true b e = true_not_false e
or_neither false b e = (refl, e)

pub or_left : (a b : Bool) → a ≡ true → (a || b) ≡ true
or_left a b e = rw e

pub or_right : (a b : Bool) → b ≡ true → (a || b) ≡ true
or_right true b e = refl
or_right false b e = e

pub and_assoc' : (a b c : Bool) → ((a && b) && c) ≡ (a && (b && c))
and_assoc' true b c = refl
and_assoc' false b c = refl

pub or_assoc' : (a b c : Bool) → ((a || b) || c) ≡ (a || (b || c))
or_assoc' true b c = refl
or_assoc' false b c = refl

-- ---- lists

module _ {A : Type 0} where
  pub any_snoc : (test : A → Bool) (xs : List A) (x : A) → any test (xs ++ (x ∷ [])) ≡ (any test xs || test x)
  unfolding any
  any_snoc test [] x = go (test x)
    where
      go : (t : Bool) → (t || false) ≡ t
      go true = refl
      go false = refl
  any_snoc test (y ∷ xs) x = rw (any_snoc test xs x) (sym (or_assoc' (test y) (any test xs) (test x)))

  pub every_snoc : (test : A → Bool) (xs : List A) (x : A) → every test xs ≡ true → test x ≡ true → every test (xs ++ (x ∷ [])) ≡ true
  unfolding every
  every_snoc test [] x e f = rw f
  every_snoc test (y ∷ xs) x e f =
      let s = both (test y) (every test xs) e in
      and_true _ _ s.0 (every_snoc test xs x s.1 f)

  pub every_imp : (s t : A → Bool) → ((x : A) → s x ≡ true → t x ≡ true) → (xs : List A) → every s xs ≡ true → every t xs ≡ true
  unfolding every
  every_imp s t h [] e = refl
  every_imp s t h (x ∷ xs) e =
      let p = both (s x) (every s xs) e in
      and_true _ _ (h x p.0) (every_imp s t h xs p.1)

  -- what each element that is kept passes
  pub every_keep : (s k t : A → Bool) → ((x : A) → s x ≡ true → k x ≡ true → t x ≡ true) → (xs : List A) → every s xs ≡ true → every t (keep k xs) ≡ true
  unfolding every keep
  every_keep s k t h [] e = refl
  every_keep s k t h (x ∷ xs) e = go (k x) refl (every_keep s k t h xs (both (s x) (every s xs) e).1)
    where
      go : (b : Bool) → k x ≡ b → every t (keep k xs) ≡ true → every t (cond b (x ∷ keep k xs) (keep k xs)) ≡ true
      go true q rest = and_true _ _ (h x (both (s x) (every s xs) e).0 q) rest
      go false q rest = rest

  pub any_keep : (test k : A → Bool) (xs : List A) → any test xs ≡ false → any test (keep k xs) ≡ false
  unfolding any keep
  any_keep test k [] e = refl
  any_keep test k (x ∷ xs) e = go (k x) (any_keep test k xs p.1)
    where
      p : (test x ≡ false) × (any test xs ≡ false)
      p = or_neither (test x) (any test xs) e

      go : (b : Bool) → any test (keep k xs) ≡ false → any test (cond b (x ∷ keep k xs) (keep k xs)) ≡ false
      go true rest = rw p.0 rest
      go false rest = rest

  pub distinct_keep : (same : A → A → Bool) (k : A → Bool) (xs : List A) → distinct same xs ≡ true → distinct same (keep k xs) ≡ true
  unfolding distinct keep
  distinct_keep same k [] e = refl
  distinct_keep same k (x ∷ xs) e = go (k x) (distinct_keep same k xs p.1)
    where
      p : (not (any (λ later. same later x) xs) ≡ true) × (distinct same xs ≡ true)
      p = both (not (any (λ later. same later x) xs)) (distinct same xs) e

      go : (b : Bool) → distinct same (keep k xs) ≡ true → distinct same (cond b (x ∷ keep k xs) (keep k xs)) ≡ true
      go true rest = and_true _ _ (ap not (any_keep (λ later. same later x) k xs (not-true _ p.0))) rest
      go false rest = rest

  -- a list with one element more at the end: it is the same as none before it
  pub distinct_snoc : (same : A → A → Bool) (xs : List A) (x : A) → distinct same xs ≡ true → any (same x) xs ≡ false → distinct same (xs ++ (x ∷ [])) ≡ true
  unfolding distinct any
  distinct_snoc same [] x e f = refl
  distinct_snoc same (y ∷ xs) x e f =
      let p = both (not (any (λ later. same later y) xs)) (distinct same xs) e in
      let q = or_neither (same x y) (any (same x) xs) f in
      let none : any (λ later. same later y) (xs ++ (x ∷ [])) ≡ false = any_snoc (λ later. same later y) xs x ∙ rw (not-true (any (λ later. same later y) xs) p.0, q.0) in
      and_true _ _ (ap not none) (distinct_snoc same xs x p.1 q.1)

  -- and the other way round: what stands behind is the same as none before it
  pub distinct_front : (same : A → A → Bool) (xs : List A) (x : A) (ys : List A) → distinct same (xs ++ (x ∷ ys)) ≡ true → any (same x) xs ≡ false
  unfolding distinct any
  distinct_front same [] x ys e = refl
  distinct_front same (y ∷ xs) x ys e =
      let p = both (not (any (λ later. same later y) (xs ++ (x ∷ ys)))) (distinct same (xs ++ (x ∷ ys))) e in
      let q = after xs (not-true _ p.0) in
      rw q (distinct_front same xs x ys p.1)
    where
      after : (zs : List A) → any (λ later. same later y) (zs ++ (x ∷ ys)) ≡ false → same x y ≡ false
      after [] h = (or_neither (same x y) _ h).0
      after (z ∷ zs) h = after zs (or_neither (same z y) _ h).1

  pub every_front : (test : A → Bool) (xs ys : List A) → every test (xs ++ ys) ≡ true → every test ys ≡ true
  unfolding every
  every_front test [] ys e = e
  every_front test (x ∷ xs) ys e = every_front test xs ys (both (test x) (every test (xs ++ ys)) e).1

-- ---- numbers

pub member_head : (k : ℕ) (xs : List ℕ) → member k (k ∷ xs) ≡ true
unfolding member
member_head k xs = or_left (eqb k k) (member k xs) (eq-eqb k k refl)

pub member_tail : (k x : ℕ) (xs : List ℕ) → member k xs ≡ true → member k (x ∷ xs) ≡ true
unfolding member
member_tail k x xs e = or_right (eqb k x) (member k xs) e

-- of the head, or of the tail
pub member_cases : (k x : ℕ) (xs : List ℕ) → member k (x ∷ xs) ≡ true → (k ≡ x) ⊎ (member k xs ≡ true)
unfolding member
member_cases k x xs e = go (or_cases (eqb k x) (member k xs) e)
  where
    go : (eqb k x ≡ true) ⊎ (member k xs ≡ true) → (k ≡ x) ⊎ (member k xs ≡ true)
    go (inl h) = inl (eqb-true k x h)
    go (inr h) = inr h

pub member_other : (k x : ℕ) (xs : List ℕ) → (k ≡ x → ⊥) → member k (x ∷ xs) ≡ member k xs
unfolding member
member_other k x xs n = rw (ne_eqb k x n)

eqb_sym : (a b : ℕ) → eqb a b ≡ eqb b a
eqb_sym a b = go (eqb b a) refl
  where
    go : (t : Bool) → eqb b a ≡ t → eqb a b ≡ t
    go true e = eq-eqb a b (sym (eqb-true b a e))
    go false e = ne_eqb a b (λ h. true_not_false (sym (eq-eqb b a (sym h)) ∙ e))

-- the head of a list of different numbers does not stand in its tail
pub distinct_head : (x : ℕ) (xs : List ℕ) → distinct eqb (x ∷ xs) ≡ true → member x xs ≡ false
unfolding distinct any member
distinct_head x xs e = go xs (not-true _ (both (not (any (λ later. eqb later x) xs)) (distinct eqb xs) e).0)
  where
    go : (ys : List ℕ) → any (λ later. eqb later x) ys ≡ false → member x ys ≡ false
    go [] h = refl
    go (y ∷ ys) h =
        let p = or_neither (eqb y x) (any (λ later. eqb later x) ys) h in
        rw (eqb_sym x y, p.0) (go ys p.1)

pub distinct_tail : {A : Type 0} (same : A → A → Bool) (x : A) (xs : List A) → distinct same (x ∷ xs) ≡ true → distinct same xs ≡ true
unfolding distinct
distinct_tail same x xs e = (both (not (any (λ later. same later x) xs)) (distinct same xs) e).1

pub distinct_cons : (x : ℕ) (xs : List ℕ) → member x xs ≡ false → distinct eqb xs ≡ true → distinct eqb (x ∷ xs) ≡ true
unfolding distinct any member
distinct_cons x xs h e = and_true _ _ (ap not (go xs h)) e
  where
    go : (ys : List ℕ) → member x ys ≡ false → any (λ later. eqb later x) ys ≡ false
    go [] h = refl
    go (y ∷ ys) h =
        let p = or_neither (eqb x y) (member x ys) h in
        rw (eqb_sym y x, p.0) (go ys p.1)

pub every_member : (test : ℕ → Bool) (xs : List ℕ) → every test xs ≡ true → (k : ℕ) → member k xs ≡ true → test k ≡ true
unfolding every
every_member test [] e k h = true_not_false (unfold member in sym h)
every_member test (x ∷ xs) e k h = go (member_cases k x xs h) (every_member test xs p.1 k)
  where
    p : (test x ≡ true) × (every test xs ≡ true)
    p = both (test x) (every test xs) e

    go : (k ≡ x) ⊎ (member k xs ≡ true) → (member k xs ≡ true → test k ≡ true) → test k ≡ true
    go (inl s) rest = subst (λ (i : ℕ). test i ≡ true) (sym s) p.0
    go (inr m) rest = rest m

pub member_every : (test : ℕ → Bool) (xs : List ℕ) → ((k : ℕ) → member k xs ≡ true → test k ≡ true) → every test xs ≡ true
unfolding every
member_every test [] h = refl
member_every test (x ∷ xs) h = and_true _ _ (h x (member_head x xs)) (member_every test xs (λ k m. h k (member_tail k x xs m)))

-- the other way round
pub not_back : (a b : Bool) → a ≡ not b → b ≡ not a
not_back true true e = e
not_back true false e = refl
not_back false true e = refl
not_back false false e = e
