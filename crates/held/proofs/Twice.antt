-- Numbers that stand twice in a list, by its sorted neighbours.
--     count_twice, twice_at     a number at two places, and the places of a number that stands twice
--     differ                    no number stands twice exactly if no two neighbours of the sorted list are the same
-- Assumes nothing.
use mathlib.Core.Path.{◌≡◌, refl, sym, ap, ◌∙◌}
use mathlib.Core.Bool.{Bool, true, false}
use mathlib.Core.List.{List, [], ◌∷◌}
use mathlib.Core.Logic.{⊎_elim}
use Prim.Native.Nat.{ℕ, zero, suc, ◌+◌, ◌≤◌, ◌<◌}
use native.Mathlib.Omega.{arith}
use lib.Dec.{eqb}
use lib.ListN.{length, get_or}
use borrow.Author.Tests.{eq-eqb, ne_eqb}
use Rattle.tables.specs.Order.{one, count, Sorted}
use Rattle.tables.specs.Laws.{same?}
use Rattle.held.specs.Inspected.{NeighboursDiffer, Differ}

count_at : (v : ℕ) (xs : List ℕ) (k : ℕ) → k < length xs → get_or xs k 0 ≡ v → 1 ≤ count v xs
count_at v [] k h e = absurd (omega arith)
count_at v (x ∷ xs) zero h e = rw (eq-eqb v x (sym e)) (omega arith)
count_at v (x ∷ xs) (suc k) h e = omega (arith, count_at v xs k (omega arith) e)

pub count_twice : (v : ℕ) (xs : List ℕ) (i j : ℕ) → i < j → j < length xs → get_or xs i 0 ≡ v → get_or xs j 0 ≡ v → 2 ≤ count v xs
count_twice v [] i j l h e f = absurd (omega arith)
count_twice v (x ∷ xs) i zero l h e f = absurd (omega arith)
count_twice v (x ∷ xs) zero (suc j) l h e f = rw (eq-eqb v x (sym e)) (omega (arith, count_at v xs j (omega arith) f))
count_twice v (x ∷ xs) (suc i) (suc j) l h e f = omega (arith, count_twice v xs i j (omega arith) (omega arith) e f)

none : (v x : ℕ) → (v ≡ x → ⊥) → one (eqb v x) ≡ 0
none v x n = ap one (ne_eqb v x n)

most : (b : Bool) → one b ≤ 1
most true = omega arith
most false = omega arith

at_count : (v : ℕ) (xs : List ℕ) → 1 ≤ count v xs → (k : ℕ) × (k < length xs) × (get_or xs k 0 ≡ v)
at_count v [] h = absurd (omega arith)
at_count v (x ∷ xs) h =
    ⊎_elim
    (λ (e : v ≡ x). (0, omega arith, sym e))
    (λ (n : v ≡ x → ⊥). let r = at_count v xs (omega (arith, h, none v x n)) in (suc r.0, omega (arith, r.1), r.2))
    (same? v x)

pub twice_at : (v : ℕ) (xs : List ℕ) → 2 ≤ count v xs → (i : ℕ) × (j : ℕ) × (i < j) × (j < length xs) × (get_or xs i 0 ≡ get_or xs j 0)
twice_at v [] h = absurd (omega arith)
twice_at v (x ∷ xs) h =
    ⊎_elim
    (λ (e : v ≡ x).
    let r = at_count v xs (omega (arith, h, most (eqb v x))) in
    (0, suc r.0, omega arith, omega (arith, r.1), sym e ∙ sym r.2))
    (λ (n : v ≡ x → ⊥).
    let r = twice_at v xs (omega (arith, h, none v x n)) in
    (suc r.0, suc r.1, omega (arith, r.2), omega (arith, r.3), r.4))
    (same? v x)

pub differ : (xs ys : List ℕ) (r : Bool) → Sorted xs ys → NeighboursDiffer ys r → Differ xs r
differ xs ys r s d = record {
  all = λ e i j l h same.
      let v = get_or xs j 0 in
      let here = twice_at v ys (omega (arith, count_twice v xs i j l h same refl, s.rearranged.same v)) in
      let a = here.0 in
      let b = here.1 in
      let less : get_or ys a 0 ≤ get_or ys (a + 1) 0 = s.ascending.at a (a + 1) (omega arith) (omega (arith, here.2, here.3)) in
      let more : get_or ys (a + 1) 0 ≤ get_or ys b 0 = s.ascending.at (a + 1) b (omega (arith, here.2)) here.3 in
      d.all e a (omega (arith, here.2, here.3)) (omega (arith, less, more, here.4));
  some = λ e.
      let f = d.some e in
      let v = get_or ys (f.0 + 1) 0 in
      twice_at v xs (omega (arith, count_twice v ys f.0 (f.0 + 1) (omega arith) f.1 f.2 refl, s.rearranged.same v));
}
