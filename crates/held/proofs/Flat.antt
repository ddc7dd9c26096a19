-- Records one after the other in a list of numbers, and zeros.
--     Long, length_flat, drop_flat, record_flat       records of one width, laid out
--     flat_tabulate                                   the records of a list, laid out again
--     zeros_are, are_zeros, padded_is                 zeros, and a list that ends in zeros
-- Assumes nothing.
use mathlib.Core.Path.{◌≡◌, refl, sym, ap, ◌∙◌}
use mathlib.Core.Bool.{true}
use mathlib.Core.List.{List, [], ◌∷◌, ◌++◌, append_assoc, append-nil}
use Prim.Native.Nat.{ℕ, zero, suc, ◌+◌, ◌*◌, ◌-◌, ◌≤◌, ◌<◌}
use native.Mathlib.Nat.{suc-mul, zero-mul}
use native.Mathlib.Omega.{arith}
use lib.ListN.{length, get_or, take, drop, replicate, length-append, length-drop, take-append-drop}
use lib.Seq.{drop-append-add, take_at, take-add, length-take-le, drop-cons}
use lib.Dec.{eqb}
use lib.IntN.{ℤ, pos}
use borrow.Author.Tests.{eqb-true}
use Rattle.lists.specs.First.{tabulate}
use Rattle.lists.proofs.Search.{both}
use Rattle.lists.proofs.Signed.{eq_z_same}
use Rattle.held.specs.Tests.{every}
use Rattle.held.specs.Plot.{Record}
use Rattle.held.specs.Lent.{flat, padded, record_at, is_zero, zeros_from}

-- ---- records of one width

abbrev pub Long : ℕ → List Record → Type 0
Long w [] = Unit
Long w (r ∷ rs) = (length r ≡ w) × Long w rs

pub length_flat : (w : ℕ) (rs : List Record) → Long w rs → length (flat rs) ≡ length rs * w
unfolding flat
length_flat w [] l = sym (zero-mul w)
length_flat w (r ∷ rs) l = length-append r (flat rs) ∙ omega (arith, l.0, length_flat w rs l.1, suc-mul (length rs) w)

pub drop_flat : (w : ℕ) (rs : List Record) (k : ℕ) (rest : List ℤ) → Long w rs → k ≤ length rs → drop (k * w) (flat rs ++ rest) ≡ flat (drop k rs) ++ rest
unfolding flat
drop_flat w rs zero rest l h = rw (zero-mul w)
drop_flat w [] (suc k) rest l h = absurd (omega arith)
drop_flat w (r ∷ rs) (suc k) rest l h =
    let size : suc k * w ≡ length r + k * w = omega (arith, l.0, suc-mul k w) in
    rw (size, append_assoc r (flat rs) rest, drop-append-add r (flat rs ++ rest) (k * w)) (drop_flat w rs k rest l.1 (omega arith))

long_at : (w : ℕ) (rs : List Record) (k : ℕ) (d : Record) → Long w rs → k < length rs → length (get_or rs k d) ≡ w
long_at w [] k d l h = absurd (omega arith)
long_at w (r ∷ rs) zero d l h = l.0
long_at w (r ∷ rs) (suc k) d l h = long_at w rs k d l.1 (omega arith)

-- record k of the layout is record k
pub record_flat : (w : ℕ) (rs : List Record) (k : ℕ) (rest : List ℤ) (d : Record) → Long w rs → k < length rs → record_at w (flat rs ++ rest) k ≡ get_or rs k d
unfolding flat
record_flat w rs k rest d l h =
    let there : drop (k * w) (flat rs ++ rest) ≡ flat (drop k rs) ++ rest = drop_flat w rs k rest l (omega arith) in
    rw there (rw (drop-cons rs k d h) (front (get_or rs k d) (drop (suc k) rs) (long_at w rs k d l h)))
  where
    front : (r : Record) (more : List Record) → length r ≡ w → take w (flat (r ∷ more) ++ rest) ≡ r
    front r more e = rw (append_assoc r (flat more) rest) (take_at r (flat more ++ rest) w e)

-- one more record
pub flat_snoc : (rs : List Record) (r : Record) → flat (rs ++ (r ∷ [])) ≡ flat rs ++ r
unfolding flat
flat_snoc [] r = append-nil r
flat_snoc (s ∷ rs) r = rw (flat_snoc rs r) (sym (append_assoc s (flat rs) r))

-- the records of a list, laid out again
pub flat_tabulate : (w : ℕ) (l : List ℤ) (n : ℕ) → flat (tabulate (record_at w l) n) ≡ take (n * w) l
unfolding tabulate flat
flat_tabulate w l zero = rw (zero-mul w)
flat_tabulate w l (suc n) =
    flat_snoc (tabulate (record_at w l) n) (record_at w l n) ∙ (rw (flat_tabulate w l n, suc-mul n w) (sym (take-add (n * w) w l)))

-- ---- zeros

pub zeros_are : (l : List ℤ) → every is_zero l ≡ true → l ≡ replicate (length l) (pos 0)
unfolding every
zeros_are [] e = refl
zeros_are (v ∷ l) e =
    let p = both (is_zero v) (every is_zero l) e in
    rw (← eq_z_same (pos 0) v p.0) (ap (λ (t : List ℤ). pos 0 ∷ t) (zeros_are l p.1))

pub are_zeros : (n : ℕ) → every is_zero (replicate n (pos 0)) ≡ true
unfolding every
are_zeros zero = refl
are_zeros (suc n) = are_zeros n

pub nothing_are : (l : List ℕ) → every (eqb 0) l ≡ true → l ≡ replicate (length l) 0
unfolding every
nothing_are [] e = refl
nothing_are (v ∷ l) e =
    let p = both (eqb 0 v) (every (eqb 0) l) e in
    rw (← eqb-true 0 v p.0) (ap (λ (t : List ℕ). 0 ∷ t) (nothing_are l p.1))

pub are_nothing : (n : ℕ) → every (eqb 0) (replicate n 0) ≡ true
unfolding every
are_nothing zero = refl
are_nothing (suc n) = are_nothing n

-- a list that is zero from m on
pub padded_is : (l : List ℤ) (m : ℕ) → m ≤ length l → zeros_from m l ≡ true → l ≡ padded (length l) (take m l)
padded_is l m h z =
    let size : length (drop m l) ≡ length l - length (take m l) = omega (arith, length-drop m l, length-take-le m l h) in
    let rest : drop m l ≡ replicate (length l - length (take m l)) (pos 0) = zeros_are (drop m l) z ∙ ap (λ (n : ℕ). replicate n (pos 0)) size in
    sym (take-append-drop m l) ∙ ap (λ (t : List ℤ). take m l ++ t) rest
