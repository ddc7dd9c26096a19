-- Differences counted a place at a time: what was counted, and what the rest of both lists has.
--     Counted                      the differences before place i
--     counted_none, -more, -all    none at first, one place more, all places of the shorter list
-- Assumes nothing.
use Prim.Native.Nat.{ℕ, suc, ◌+◌, ◌≤◌, ◌<◌, min}
use native.Mathlib.Numerals.{add-one}
use native.Mathlib.Omega.{arith}
use mathlib.Core.Path.{◌≡◌, refl, ap, ◌∙◌}
use Rattle.std.proofs.Common.{ap₂}
use Rattle.std.specs.Int.{from_bool, abs_diff}
use mathlib.Core.Bool.{Bool, true, false, not}
use mathlib.Core.Logic.{⊎_elim}
use mathlib.Core.List.{List, [], ◌∷◌}
use lib.ListN.{length, get_or, drop, length-drop}
use lib.Seq.{drop-cons}
use Rattle.tables.specs.Laws.{order?}
use Rattle.replay.specs.Differing.{one_unless, differing}

-- 1 where a place differs, as the code counts it
by : (b : Bool) → from_bool (not b) ≡ one_unless b
by true = refl
by false = refl

one_most : (same : Bool) → one_unless same ≤ 1
one_most true = omega arith
one_most false = omega arith

module _ {A : Type 0} {B : Type 0} (same : A → B → Bool) where
  -- a place of both
  place : (xs : List A) (ys : List B) (d : A) (e : B) (i : ℕ) → i < length xs → i < length ys
      → differing same (drop i xs) (drop i ys) ≡ one_unless (same (get_or xs i d) (get_or ys i e)) + differing same (drop (i + 1) xs) (drop (i + 1) ys)
  unfolding differing
  place xs ys d e i h l = rw (drop-cons xs i d h, drop-cons ys i e l, add-one)

  -- one of them has ended
  rest : (xs : List A) (ys : List B) → (length xs ≡ 0 → differing same xs ys ≡ length ys) × (length ys ≡ 0 → differing same xs ys ≡ length xs)
  unfolding differing
  rest [] [] = (λ e. refl, λ e. refl)
  rest [] (y ∷ ys) = (λ e. refl, λ (e : suc (length ys) ≡ 0). absurd (omega arith))
  rest (x ∷ xs) [] = (λ (e : suc (length xs) ≡ 0). absurd (omega arith), λ e. refl)
  rest (x ∷ xs) (y ∷ ys) = (λ (e : suc (length xs) ≡ 0). absurd (omega arith), λ (e : suc (length ys) ≡ 0). absurd (omega arith))

  module _ (xs : List A) (ys : List B) where
    pub record Counted (count i : ℕ) : Type 0 where
      pub first : i ≤ length xs
      pub second : i ≤ length ys
      pub few : count ≤ i
      pub whole : count + differing same (drop i xs) (drop i ys) ≡ differing same xs ys

    pub counted_none : Counted 0 0
    counted_none = record { first = omega arith; second = omega arith; few = omega arith; whole = omega arith }

    -- a place more, of which a loop over both says what stands there
    pub counted_more : {count i : ℕ} (x : A) (y : B) (b : Bool) (one n : ℕ) → Counted count i
        → (i < length xs) × (i < length ys) × ((d : A) → x ≡ get_or xs i d) × ((d : B) → y ≡ get_or ys i d)
        → b ≡ same x y → one ≡ from_bool (not b) → n ≡ i + 1 → Counted (count + one) n
    counted_more {count} {i} x y b one n c turn e o m =
        let p = place xs ys x y i turn.0 turn.1 in
        let s : same x y ≡ same (get_or xs i x) (get_or ys i y) = ap₂ same (turn.2 x) (turn.3 y) in
        let u : one ≡ one_unless (same (get_or xs i x) (get_or ys i y)) = o ∙ by b ∙ ap one_unless (e ∙ s) in
        let few = one_most (same (get_or xs i x) (get_or ys i y)) in
        let at : differing same (drop n xs) (drop n ys) ≡ differing same (drop (i + 1) xs) (drop (i + 1) ys) = ap (λ k. differing same (drop k xs) (drop k ys)) m in
        record {
          first = omega (arith, turn.0, m);
          second = omega (arith, turn.1, m);
          few = omega (arith, c.few, u, few, m);
          whole = omega (arith, c.whole, p, u, at);
        }

    pub counted_all : {count i : ℕ} → Counted count i → i ≡ min (length xs) (length ys)
        → count + abs_diff (length xs) (length ys) ≡ differing same xs ys
    counted_all {count} {i} c h =
        let r = rest (drop i xs) (drop i ys) in
        let x = length-drop i xs in
        let y = length-drop i ys in
        ⊎_elim
        (λ (l : length xs ≤ i). omega (arith, c.whole, c.first, c.second, x, y, r.0 (omega (arith, l, x))))
        (λ (l : i < length xs). omega (arith, c.whole, c.first, c.second, x, y, r.1 (omega (arith, l, h, y))))
        (order? (length xs) i)
