-- The order of records.
--     before_self, before_step           strict and transitive
--     neither_same                       two records of which neither comes first have the same named fields
--     before_records                     that of the list's checks
--     ascending_rising, rising_ascending a list passes its check exactly if its records ascend
-- Assumes nothing.
use Rattle.std.specs.Prelude.{None}
use Prim.Native.Nat.{ℕ, suc, ◌+◌, ◌*◌, ◌-◌, ◌/◌, ◌<◌}
use native.Mathlib.Omega.{arith}
use mathlib.Core.Path.{◌≡◌, refl, sym, ap, ◌∙◌}
use mathlib.Core.Bool.{Bool, true, false, not, ◌&&◌, ◌||◌}
use mathlib.Core.List.Memᴰ
use mathlib.Core.List.{List, [], ◌∷◌, Memᴰ}
use mathlib.Core.Logic.{⊎_elim}
use lib.ListN.{length, get_or}
use lib.IntN.{ℤ}
use Rattle.lists.specs.Signed.{at, less_then}
use Rattle.joining.specs.Cursor.{FieldsBelow}
use Rattle.lists.specs.Order.{record_before, first_not_ascending}
use Rattle.lists.proofs.Search.{never, first_nothing}
use lib.Signed.{lt_z}
use Rattle.lists.proofs.Signed.{lt_z_neither}
use Rattle.lists.proofs.Ordering.{then_rest, then_step, ascending_at}
use Rattle.joining.specs.Split.{records_of}
use Rattle.joining.specs.Merge.{comes_before}
use Rattle.joining.proofs.Merges.{Rising, rising_at, neighbours_rising}
use Rattle.joining.proofs.Splits.{records_length, field_at}

pub before_self : (fields : List ℕ) (r : List ℤ) → comes_before fields r r ≡ false
unfolding comes_before
before_self [] r = refl
before_self (f ∷ fields) r = then_rest (at r f) (at r f) (comes_before fields r r) refl ∙ before_self fields r

pub before_step : (fields : List ℕ) (r s t : List ℤ) → comes_before fields r s ≡ true → comes_before fields s t ≡ true → comes_before fields r t ≡ true
unfolding comes_before
before_step [] r s t p q = p
before_step (f ∷ fields) r s t p q =
    then_step (at r f) (at s f) (at t f) (comes_before fields r s) (comes_before fields s t) (comes_before fields r t) (before_step fields r s t) p q

-- neither is less: the numbers are the same, and what decides after them does not hold
neither_then : (a b : ℤ) (r s : Bool) → less_then a b r ≡ false → less_then b a s ≡ false → (a ≡ b) × ((r ≡ false) × (s ≡ false))
neither_then a b r s e f = go (lt_z a b) refl (lt_z b a) refl e f
  where
    go : (p : Bool) → lt_z a b ≡ p → (q : Bool) → lt_z b a ≡ q → (p || (not q && r)) ≡ false → (q || (not p && s)) ≡ false → (a ≡ b) × ((r ≡ false) × (s ≡ false))
    go true p q g u v = never (sym u)
    go false p true g u v = never (sym v)
    go false p false g u v = (lt_z_neither a b p g, (u, v))

pub neither_same : (fields : List ℕ) (r s : List ℤ) → comes_before fields r s ≡ false → comes_before fields s r ≡ false
    → {f : ℕ} → Memᴰ f fields → at r f ≡ at s f
unfolding comes_before
neither_same [] r s p q m = absurd (Memᴰ.not-nil m)
neither_same (g ∷ fields) r s p q {f} m =
    let n = neither_then (at r g) (at s g) (comes_before fields r s) (comes_before fields s r) p q in
    ⊎_elim (λ (e : f ≡ g). rw e n.0) (λ l. neither_same fields r s n.1.0 n.1.1 l) (Memᴰ.cases_cons m)

module _ (w : ℕ) (list : List ℤ) where
  pub before_records : (fields : List ℕ) → FieldsBelow w fields → (j k : ℕ) → j < length list / w → k < length list / w
      → record_before fields list (j * w) (k * w) ≡ comes_before fields (get_or (records_of w list) j []) (get_or (records_of w list) k [])
  unfolding FieldsBelow record_before comes_before
  before_records [] inside j k hj hk = refl
  before_records (f ∷ fields) inside j k hj hk =
      rw (field_at w list j f hj inside.0, field_at w list k f hk inside.0)
      (ap (λ (t : Bool). less_then (at list (j * w + f)) (at list (k * w + f)) t) (before_records fields inside.1 j k hj hk))

  module _ (fields : List ℕ) (inside : FieldsBelow w fields) where
    pub ascending_rising : first_not_ascending fields w list ≡ None → Rising (comes_before fields) (records_of w list)
    ascending_rising e =
        neighbours_rising (comes_before fields) (before_step fields) [] (records_of w list) (λ k h.
        let l : suc k < length list / w = omega (arith, records_length w (length list / w) list) in
        sym (before_records fields inside k (suc k) (omega arith) l) ∙ ascending_at fields w list e k l)

    pub rising_ascending : Rising (comes_before fields) (records_of w list) → first_not_ascending fields w list ≡ None
    unfolding first_not_ascending
    rising_ascending r =
        first_nothing (λ k. not (record_before fields list ((k - 1) * w) (k * w))) 1 (length list / w - 1) (λ k a b.
        ap not (before_records fields inside (k - 1) k (omega arith) (omega arith)
        ∙ rising_at (comes_before fields) [] (records_of w list) r (k - 1) k (omega arith) (omega (arith, records_length w (length list / w) list))))
