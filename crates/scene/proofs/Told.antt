-- Numbers written one after the other into a slice.
--     Told                              the numbers of the connections below k, and how many of these are kept
--     none_told, one_told, all_told     none at first, one connection more, and all
--     says_told, told_answered          what the numbers that were written say, and what the entry answers then
-- Assumes nothing.
use Rattle.std.specs.Prelude.{Ok}
use mathlib.Core.Path.{◌≡◌, refl, ap, ◌∙◌}
use mathlib.Core.Bool.{Bool, true, false, cond}
use mathlib.Core.List.{List, [], ◌∷◌, ◌++◌, append_assoc}
use Prim.Native.Nat.{ℕ, zero, suc, ◌+◌, ◌*◌, ◌≤◌, ◌<◌}
use mathlib.Core.Logic.{⊎_elim}
use native.Mathlib.Nat.{eq-or-lt_of_le, le_of_suc-le-suc}
use native.Mathlib.Numerals.{add-one}
use native.Mathlib.Omega.{arith}
use lib.Dec.{eqb}
use lib.ListN.{length, get_or, set, length-append, get_or-append}
use lib.Seq.{get_or_at, drop-cons, set_at}
use lib.IntN.{ℤ}
use mir.Val.{bool_byte}
use Rattle.lists.specs.First.{tabulate}
use Rattle.lists.specs.Limits.{port_width}
use Rattle.lists.specs.Slices.{laid}
use Rattle.lists.specs.Records.{connection, connection_count}
use Rattle.scene.specs.Kept.{kept_row, rows_below}
use Rattle.scene.specs.Reasons.{reason_of, ReasonSays, reasons_of, reasons_refusal, AllTold, ReasonsAnswered}
use Rattle.scene.proofs.LeftOut.{kept_long, reason_says}

pub record Told (rules : ℕ) (cs ps : List ℤ) (old out : List ℕ) (count k : ℕ) : Type 0 where
  pub numbers : out ≡ laid (tabulate (λ i. reason_of rules cs (connection ps i)) k) old
  pub full : count * port_width ≡ length (rows_below rules cs ps k)
  pub few : count ≤ k

-- ---- lists of values

module _ (f : ℕ → ℕ) where
  long : (n : ℕ) → length (tabulate f n) ≡ n
  unfolding tabulate
  long zero = refl
  long (suc n) = length-append (tabulate f n) (f n ∷ []) ∙ omega (arith, long n)

  more : (n : ℕ) → tabulate f (n + 1) ≡ tabulate f n ++ (f n ∷ [])
  unfolding tabulate
  more n = rw (add-one n)

  value : (n k : ℕ) → k < n → get_or (tabulate f n) k 0 ≡ f k
  unfolding tabulate
  value zero k h = absurd (omega arith)
  value (suc n) k h =
      ⊎_elim
      (λ (same : k ≡ n). rw same (get_or_at (tabulate f n) (f n) [] 0 n (long n)))
      (λ (less : k < n). get_or-append (tabulate f n) (f n ∷ []) 0 k (rw (long n) less) ∙ value n k less)
      (eq-or-lt_of_le (le_of_suc-le-suc h))

-- one number more
set_laid : (l old : List ℕ) (v k : ℕ) → length l ≡ k → k < length old → set (laid l old) k v ≡ laid (l ++ (v ∷ [])) old
set_laid l old v k e h = rw (e, drop-cons old k v h, set_at l _ _ _ k e, length-append, e, add-one, append_assoc)

-- ---- the connections below k

module _ (rules : ℕ) (cs ps : List ℤ) where
  abbrev number : ℕ → ℕ
  number i = reason_of rules cs (connection ps i)

  pub none_told : (old : List ℕ) → Told rules cs ps old old 0 0
  unfolding rows_below tabulate
  none_told old = record { numbers = refl; full = refl; few = omega arith }

  step_full : (count k d r : ℕ) → count * port_width ≡ length (rows_below rules cs ps k) → d ≡ bool_byte (eqb r 0)
      → length (kept_row rules cs ps k) ≡ cond (eqb r 0) port_width 0 → (count + d) * port_width ≡ length (rows_below rules cs ps (k + 1))
  unfolding rows_below
  step_full count k d r full e long =
      rw (add-one k, length-append (rows_below rules cs ps k) (kept_row rules cs ps k), long) (go (eqb r 0) e)
    where
      go : (t : Bool) → d ≡ bool_byte t → (count + d) * port_width ≡ length (rows_below rules cs ps k) + cond t port_width 0
      go true e = omega (arith, full)
      go false e = omega (arith, full)

  few_more : {count k d : ℕ} (t : Bool) → d ≡ bool_byte t → count ≤ k → count + d ≤ k + 1
  few_more true e h = omega arith
  few_more false e h = omega arith

  pub one_told : (old out : List ℕ) (count k r d : ℕ) → Told rules cs ps old out count k → k < length old → r ≡ number k → d ≡ bool_byte (eqb r 0)
      → Told rules cs ps old (set out k r) (count + d) (k + 1)
  one_told old out count k r d i room e f =
      record {
        numbers = rw (i.numbers, more number k, ← e) (set_laid (tabulate number k) old r k (long number k) room);
        full = step_full count k d r i.full f (rw e (kept_long rules cs ps k));
        few = few_more (eqb r 0) f i.few;
      }

  pub all_told : (old out : List ℕ) (count k : ℕ) → connection_count ps ≡ k → Told rules cs ps old out count k → AllTold rules cs ps old out count
  all_told old out count k e i = record { numbers = rw e i.numbers; count = rw e (omega (arith, i.full)) }

  pub says_told : (old out : List ℕ) → out ≡ laid (reasons_of rules cs ps) old
      → (k : ℕ) → k < connection_count ps → ReasonSays rules cs ps k (get_or out k 0)
  says_told old out e k h =
      let at : get_or out k 0 ≡ number k = ap (λ (l : List ℕ). get_or l k 0) e
      ∙ get_or-append (reasons_of rules cs ps) _ 0 k (omega (arith, long number (connection_count ps))) ∙ value number (connection_count ps) k h in
      rw at (reason_says rules cs ps k)

  -- what the entry answers of an accepted scene
  pub told_answered : (old out : List ℕ) (r : ℕ) → reasons_refusal rules cs ps (length old) ≡ Ok tt → AllTold rules cs ps old out r
      → ReasonsAnswered rules cs ps old out (Ok r)
  told_answered old out r ok told =
      record {
        answer = rw ok (ap (λ (n : ℕ). 0 ∷ n ∷ []) told.count);
        left = rw ok told.numbers;
        says = λ e. says_told old out told.numbers;
      }
