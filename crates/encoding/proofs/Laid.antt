-- Rows laid at the front of a slice.
--     laid_more           one element more
--     laid_then           further rows, laid at the front of the rest
--     laid_front          what stands at the front
--     laid_length         the slice keeps its length
-- Assumes nothing.
use mathlib.Core.Path.{◌≡◌}
use mathlib.Core.List.{List, [], ◌∷◌, ◌++◌, append_assoc}
use Prim.Native.Nat.{ℕ, ◌≤◌, ◌<◌}
use native.Mathlib.Numerals.{add-one}
use native.Mathlib.Omega.{arith}
use lib.ListN.{length, take, drop, set, length-append, length-drop}
use lib.Seq.{drop-cons, drop-drop, set_at, take_at, drop_at}
use Rattle.lists.specs.Slices.{laid}

module _ {A : Type 0} (rows old : List A) (k : ℕ) (e : length rows ≡ k) where
  pub laid_more : (a : A) → k < length old → set (laid rows old) k a ≡ laid (rows ++ (a ∷ [])) old
  laid_more a h = rw (e, drop-cons old k a h, set_at rows _ _ _ k e, length-append, e, add-one, append_assoc)

  pub laid_front : take k (laid rows old) ≡ rows
  laid_front = take_at rows _ k e

  pub laid_then : (more : List A) → take k (laid rows old) ++ laid more (drop k (laid rows old)) ≡ laid (rows ++ more) old
  laid_then more =
      rw (laid_front, drop_at rows (drop (length rows) old) k e, drop-drop (length more) (length rows) old, length-append, append_assoc)

  pub laid_length : k ≤ length old → length (laid rows old) ≡ length old
  laid_length h = simp (length-append, length-drop) (omega arith)
