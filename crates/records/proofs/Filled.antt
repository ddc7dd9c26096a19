-- The numbers of records, and of one record more.
-- Assumes nothing.
use mathlib.Core.Path.{◌≡◌, refl, ap}
use mathlib.Core.List.{List, [], ◌∷◌, ◌++◌, append_assoc}
use Prim.Native.Nat.{ℕ, ◌+◌, ◌-◌, ◌*◌, ◌<◌}
use native.Mathlib.Numerals.{add-one}
use native.Mathlib.Omega.{arith}
use lib.ListN.{length, get_or, take, drop, length-append}
use lib.Seq.{take-suc, take-append_seam, drop_at, drop-drop, length-take-le}
use lib.IntN.{ℤ, pos}
use borrow.Rule.Slice.PartMut.{put_mid}
use Rattle.records.specs.declared.PortRecord.{PortRecord}
use Rattle.lists.specs.Slices.{laid}
use Rattle.records.specs.Records.{fields, flatten}

flatten_append : (xs ys : List PortRecord) → flatten (xs ++ ys) ≡ flatten xs ++ flatten ys
unfolding flatten
flatten_append [] ys = refl
flatten_append (r ∷ xs) ys = ap (λ (l : List ℤ). fields r ++ l) (flatten_append xs ys)

pub length_flatten : (xs : List PortRecord) → length (flatten xs) ≡ length xs * 5
unfolding flatten
length_flatten [] = refl
length_flatten (r ∷ xs) = omega (arith, length_flatten xs)

-- what a read past the end gives
abbrev pub nil : PortRecord
nil = record { source = pos 0; source_port = pos 0; sink = pos 0; sink_port = pos 0; transfer = pos 0 }

-- one record more, written over the five numbers after those of the first i
pub one_more : (rs : List PortRecord) (old flat part : List ℤ) (i : ℕ) → i < length rs → flat ≡ laid (flatten (take i rs)) old → part ≡ fields (get_or rs i nil)
    → put_mid (i * 5) (i * 5 + 5 - i * 5) flat part ≡ laid (flatten (take (i + 1) rs)) old
unfolding flatten
one_more rs old flat part i h e f =
    let r = get_or rs i nil in
    let front = flatten (take i rs) in
    let size : length front ≡ i * 5 = omega (arith, length_flatten (take i rs), length-take-le i rs (omega arith)) in
    let width : i * 5 + 5 - i * 5 ≡ 5 = omega arith in
    let next : flatten (take (i + 1) rs) ≡ front ++ fields r = rw (add-one, take-suc rs i nil) (flatten_append (take i rs) (r ∷ [])) in
    rw (f, e, width, ← size, next, length-append, append_assoc, take-append_seam, drop_at front (drop (length front) old) (length front) refl, drop-drop)
