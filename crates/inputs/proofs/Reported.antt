-- The verdict rows of an analysis: those of the required ports, each with its status. So the yes or no of a port is that of its row.
-- Assumes nothing.
use mathlib.Core.Path.{◌≡◌, refl, sym, ap, subst, ◌∙◌}
use mathlib.Core.Bool.{Bool, true, false, cond, ◌&&◌}
use mathlib.Core.List.{List, [], ◌∷◌, ◌++◌}
use mathlib.Core.Logic.{◌⊎◌, inl, inr, ⊎_elim}
use Prim.Native.Nat.{ℕ, zero, suc, ◌≤◌, ◌<◌}
use native.Mathlib.Nat.{eq-or-lt_of_le}
use native.Mathlib.Omega.{arith}
use lib.Dec.{ltb}
use lib.ListN.{length}
use lib.IntN.{ℤ}
use borrow.Author.Tests.{ltb-true}
use Rattle.lists.specs.Records.{component, component_count}
use Rattle.lists.specs.Ids.{place_of, smaller_ids, first_repeated}
use Rattle.std.specs.Prelude.{Option, Some, None}
use Rattle.lists.proofs.Search.{both}
use Rattle.lists.proofs.Members.{member_inj}
use Rattle.faces.specs.Ports.{ports_of}
use Rattle.assessment.specs.Verdicts.{is_required, status_of, port_rows, verdict_rows, input_rows}
use Rattle.inputs.specs.Query.{with_row, row_place}
use Rattle.inputs.proofs.Inputs.{row_found}
use Rattle.inputs.specs.Port.{HasRow}

-- ---- rows of three numbers

abbrev Whole : List ℕ → Type 0
Whole [] = Unit {0}
Whole (x ∷ []) = ⊥
Whole (x ∷ y ∷ []) = ⊥
Whole (x ∷ y ∷ z ∷ l) = Whole l

whole-++ : (l m : List ℕ) → Whole l → Whole m → Whole (l ++ m)
whole-++ [] m p q = q
whole-++ (x ∷ []) m p q = absurd p
whole-++ (x ∷ y ∷ []) m p q = absurd p
whole-++ (x ∷ y ∷ z ∷ l) m p q = whole-++ l m p q

module _ (a b c : ℕ) where
  has_left : (l m : List ℕ) → HasRow a b c l → HasRow a b c (l ++ m)
  has_left [] m h = absurd h
  has_left (x ∷ []) m h = absurd h
  has_left (x ∷ y ∷ []) m h = absurd h
  has_left (x ∷ y ∷ z ∷ l) m (inl e) = inl e
  has_left (x ∷ y ∷ z ∷ l) m (inr h) = inr (has_left l m h)

  has_right : (l m : List ℕ) → Whole l → HasRow a b c m → HasRow a b c (l ++ m)
  has_right [] m p h = h
  has_right (x ∷ []) m p h = absurd p
  has_right (x ∷ y ∷ []) m p h = absurd p
  has_right (x ∷ y ∷ z ∷ l) m p h = inr (has_right l m p h)

  has_either : (l m : List ℕ) → Whole l → HasRow a b c (l ++ m) → HasRow a b c l ⊎ HasRow a b c m
  has_either [] m p h = inr h
  has_either (x ∷ []) m p h = absurd p
  has_either (x ∷ y ∷ []) m p h = absurd p
  has_either (x ∷ y ∷ z ∷ l) m p (inl e) = inl (inl e)
  has_either (x ∷ y ∷ z ∷ l) m p (inr h) = ⊎_elim (λ k. inl (inr k)) inr (has_either l m p h)

module _ (rules : ℕ) (cs ps fs : List ℤ) where
  -- ---- the rows of one component

  -- the row of a port, where it has one
  abbrev row_at : ℕ → ℕ → Bool → List ℕ
  row_at p k t = cond t ((component cs p).id ∷ k ∷ status_of rules cs ps fs p k ∷ []) []

  row_whole : (p k : ℕ) (t : Bool) → Whole (row_at p k t)
  row_whole p k true = tt
  row_whole p k false = tt

  ports_whole : (p n : ℕ) → Whole (port_rows rules cs ps fs p n)
  unfolding port_rows
  ports_whole p zero = tt
  ports_whole p (suc k) = whole-++ (port_rows rules cs ps fs p k) (row_at p k (is_required rules (component cs p) k)) (ports_whole p k) (row_whole p k (is_required rules (component cs p) k))

  ports_has : (p k n : ℕ) → k < n → is_required rules (component cs p) k ≡ true → HasRow (component cs p).id k (status_of rules cs ps fs p k) (port_rows rules cs ps fs p n)
  unfolding port_rows
  ports_has p k zero h e = absurd (omega arith)
  ports_has p k (suc n) h e = go (eq-or-lt_of_le (let w : k ≤ n = omega arith in w)) (ports_has p k n)
    where
      id : ℕ
      id = (component cs p).id

      go : (k ≡ n) ⊎ (k < n) → (k < n → is_required rules (component cs p) k ≡ true → HasRow id k (status_of rules cs ps fs p k) (port_rows rules cs ps fs p n))
          → HasRow id k (status_of rules cs ps fs p k) (port_rows rules cs ps fs p n ++ row_at p n (is_required rules (component cs p) n))
      go (inl same) ih =
          has_right id k (status_of rules cs ps fs p k) (port_rows rules cs ps fs p n) (row_at p n (is_required rules (component cs p) n)) (ports_whole p n)
          (subst (λ (t : Bool). HasRow id k (status_of rules cs ps fs p k) (row_at p n t)) (sym (ap (is_required rules (component cs p)) (sym same) ∙ e))
          (inl (refl, sym same, ap (status_of rules cs ps fs p) (sym same))))
      go (inr less) ih = has_left id k (status_of rules cs ps fs p k) (port_rows rules cs ps fs p n) (row_at p n (is_required rules (component cs p) n)) (ih less e)

  row_from : (p k : ℕ) (t : Bool) (a b c : ℕ) → HasRow a b c (row_at p k t) → ((component cs p).id ≡ a) × (status_of rules cs ps fs p b ≡ c)
  row_from p k true a b c (inl e) = (e.0, ap (status_of rules cs ps fs p) (sym e.1) ∙ e.2)
  row_from p k true a b c (inr h) = absurd h
  row_from p k false a b c h = absurd h

  ports_from : (p n a b c : ℕ) → HasRow a b c (port_rows rules cs ps fs p n) → ((component cs p).id ≡ a) × (status_of rules cs ps fs p b ≡ c)
  unfolding port_rows
  ports_from p zero a b c h = absurd h
  ports_from p (suc k) a b c h =
      ⊎_elim (ports_from p k a b c) (row_from p k (is_required rules (component cs p) k) a b c)
      (has_either a b c (port_rows rules cs ps fs p k) (row_at p k (is_required rules (component cs p) k)) (ports_whole p k) h)

  -- ---- the rows of all components

  abbrev rows_of : ℕ → List ℕ
  rows_of p = port_rows rules cs ps fs p (length (ports_of rules (component cs p)))

  all_whole : (n : ℕ) → Whole (verdict_rows rules cs ps fs n)
  unfolding verdict_rows
  all_whole zero = tt
  all_whole (suc p) = whole-++ (verdict_rows rules cs ps fs p) (rows_of p) (all_whole p) (ports_whole p (length (ports_of rules (component cs p))))

  all_has : (a b c p n : ℕ) → p < n → HasRow a b c (rows_of p) → HasRow a b c (verdict_rows rules cs ps fs n)
  unfolding verdict_rows
  all_has a b c p zero h r = absurd (omega arith)
  all_has a b c p (suc n) h r =
      ⊎_elim
      (λ (same : p ≡ n). has_right a b c (verdict_rows rules cs ps fs n) (rows_of n) (all_whole n) (subst (λ (q : ℕ). HasRow a b c (rows_of q)) same r))
      (λ (less : p < n). has_left a b c (verdict_rows rules cs ps fs n) (rows_of n) (all_has a b c p n less r))
      (eq-or-lt_of_le (let w : p ≤ n = omega arith in w))

  all_from : (a b c n : ℕ) → HasRow a b c (verdict_rows rules cs ps fs n) → (p : ℕ) × (p < n) × ((component cs p).id ≡ a) × (status_of rules cs ps fs p b ≡ c)
  unfolding verdict_rows
  all_from a b c zero h = absurd h
  all_from a b c (suc n) h =
      ⊎_elim
      (λ r. let f = all_from a b c n r in (f.0, omega (arith, f.1), f.2, f.3))
      (λ r. let f = ports_from n (length (ports_of rules (component cs n))) a b c r in (n, omega arith, f.0, f.1))
      (has_either a b c (verdict_rows rules cs ps fs n) (rows_of n) (all_whole n) h)

  -- ---- the row of the port asked for

  module _ (id port p : ℕ) (found : row_place rules cs id port ≡ Some p) where
    required : (port < length (ports_of rules (component cs p))) × (is_required rules (component cs p) port ≡ true)
    unfolding row_place
    required = go (place_of cs id) found
      where
        at : (q : ℕ) (t : Bool) → cond t (Some q) None ≡ Some p → (t ≡ true) × (q ≡ p)
        at q true f = (refl, cc)
        at q false f = let z : ◌≡◌ {A = ℕ} 0 1 = cc in absurd (omega arith)

        go : (place : Option ℕ) → with_row rules cs port place ≡ Some p → (port < length (ports_of rules (component cs p))) × (is_required rules (component cs p) port ≡ true)
        go (Some q) e =
            let is = at q (ltb port (length (ports_of rules (component cs q))) && is_required rules (component cs q) port) e in
            let parts = both (ltb port (length (ports_of rules (component cs q)))) (is_required rules (component cs q) port) is.0 in
            subst (λ (k : ℕ). (port < length (ports_of rules (component cs k))) × (is_required rules (component cs k) port ≡ true)) is.1
            (ltb-true port (length (ports_of rules (component cs q))) parts.0, parts.1)
        go None e = let z : ◌≡◌ {A = ℕ} 0 1 = cc in absurd (omega arith)

    pub row_there : HasRow id port (status_of rules cs ps fs p port) (input_rows rules cs ps fs)
    row_there =
        let row = row_found rules cs id port found in
        let s = status_of rules cs ps fs p port in
        all_has id port s p (component_count cs) row.below
        (subst (λ (k : ℕ). HasRow k port s (rows_of p)) row.id_is (ports_has p port (length (ports_of rules (component cs p))) required.0 required.1))

    pub row_status : first_repeated cs ≡ None → (s : ℕ) → HasRow id port s (input_rows rules cs ps fs) → status_of rules cs ps fs p port ≡ s
    row_status once s h =
        let f = all_from id port s (component_count cs) h in
        let row = row_found rules cs id port found in
        let same : f.0 ≡ p = member_inj cs once f.0 p f.1 row.below (ap (smaller_ids cs) (f.2 ∙ sym row.id_is)) in
        subst (λ (k : ℕ). status_of rules cs ps fs k port ≡ s) same f.3
