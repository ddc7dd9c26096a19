-- Rows written one after the other into a slice.
--     one_put                   a row of one number, stored
--     put_nothing, put_more     no row changes nothing; rows after rows
-- Assumes nothing.
use mathlib.Core.Path.{◌≡◌, sym, ap, ◌∙◌}
use mathlib.Core.List.{List, [], ◌∷◌, ◌++◌, append_assoc}
use Prim.Native.Nat.{ℕ, ◌+◌, ◌≤◌}
use native.Mathlib.Nat.{add-zero}
use native.Mathlib.Omega.{arith}
use lib.ListN.{length, set, take, drop, length-append, length-take, take-append-drop}
use lib.Seq.{sets-eq, take_at, drop-append-add, drop-drop}
use Rattle.assessment.specs.Rows.{Put}

pub one_put : (a : ℕ) (l : List ℕ) (i : ℕ) → i + 1 ≤ length l → Put (a ∷ []) i l (set l i a) (i + 1)
one_put a l i h = record { place = omega arith; is = sets-eq (a ∷ []) l i h ∙ append_assoc (take i l) (a ∷ []) (drop (i + 1) l) }

pub put_nothing : (l : List ℕ) (i : ℕ) → Put [] i l l i
put_nothing l i = record { place = sym (add-zero i); is = rw add-zero (sym (take-append-drop i l)) }

-- rows put after rows
pub put_more : {rows more : List ℕ} {at : ℕ} {old new newer : List ℕ} {r s : ℕ} → at ≤ length old → Put rows at old new r → Put more r new newer s
    → Put (rows ++ more) at old newer s
put_more {rows} {more} {at} {old} {new} {newer} {r} {s} h p q =
    let front : List ℕ = take at old ++ rows in
    let front_long : length front ≡ r = simp (length-append, length-take) (omega (arith, p.place)) in
    let new_is : new ≡ front ++ drop r old = p.is ∙ rw p.place (sym (append_assoc (take at old) rows (drop (at + length rows) old))) in
    let before : take r new ≡ front = rw new_is (take_at front (drop r old) r front_long) in
    let after : drop (r + length more) new ≡ drop (r + length more) old =
    ap (drop (r + length more)) new_is
    ∙ ap (λ (k : ℕ). drop (k + length more) (front ++ drop r old)) (sym front_long)
    ∙ drop-append-add front (drop r old) (length more)
    ∙ drop-drop (length more) r old in
    let end : at + length (rows ++ more) ≡ r + length more = rw length-append (omega (arith, p.place)) in
    record { place = omega (arith, q.place, end); is = q.is ∙ rw (before, after, end) (simp append_assoc) }
