-- An array that `array::from_fn` made by a closure that stays as it is: what each call gives holds of each element. `made_by` takes the
-- record whole: with 1,024 places antt would run out of steps if it unfolded it. Assumes nothing.
use Rattle.std.proofs.Common.{◌≡◌, ℕ, zero, suc, ◌+◌, ◌≤◌, ◌<◌, List, slice_index_or, subst, sym, ⊎_elim, eq-or-lt_of_le, arith}
use Rattle.std.specs.Array.{IsFromFnResultFrom, IsFromFnResult}
use denote.Param.Members.{Mut, Called}

module _ {F B : Type 0} (g : Mut F (ℕ × Unit {0}) B) (R : ℕ → B → Type 0) (f : F)
    (call : (j : ℕ) (y : B) (f' : F) → Called g f (j, tt) y f' → R j y × (f' ≡ f)) where
  made_from : (ys : List B) (i n : ℕ) → IsFromFnResultFrom g f ys i n → (j : ℕ) (d : B) → i ≤ j → j < i + n → R j (slice_index_or ys j d)
  made_from ys i zero made j d h l = absurd (omega arith)
  made_from ys i (suc n) (q, y, at, called, rest) j d h l =
      ⊎_elim
      (λ (e : i ≡ j). subst (λ (k : ℕ). R k (slice_index_or ys k d)) e (subst (R i) (sym (at.1 d)) (call i y q called).0))
      (λ (lt : i < j). made_from ys (i + 1) n (subst (λ (p : F). IsFromFnResultFrom g p ys (i + 1) n) (call i y q called).1 rest) j d (omega arith) (omega arith))
      (eq-or-lt_of_le h)

  pub made_by : (ys : List B) (n : ℕ) → IsFromFnResult g f ys n → (j : ℕ) (d : B) → j < n → R j (slice_index_or ys j d)
  made_by ys n made j d h = made_from ys 0 n made.each j d (omega arith) (omega arith)
