-- Numbers stored one after the other: what the first call laid over the front of a list, and the second over the front of the rest, is what
-- both laid. Assumes nothing.
use Prim.Native.Nat.{ℕ, ◌-◌, ◌≤◌}
use mathlib.Core.Path.{◌≡◌, sym, ap, ◌∙◌}
use mathlib.Core.List.{List, ◌++◌, append_assoc, append-nil}
use lib.ListN.{length, take, drop, length-append, length-drop}
use lib.Seq.{take_at, drop_at, take-length, drop-drop, drop-length}
use Rattle.lists.specs.Slices.{laid}
use Rattle.lines.proofs.Writing.{length_laid}

module _ {A : Type 0} (xs zs old : List A) (n : ℕ) (e : length xs ≡ n) (h : n ≤ length old) where
  pub laid_then : (out ys : List A) → out ≡ laid xs old → ys ≡ laid zs (take (length out - n) (drop n out))
      → take n out ++ (ys ++ drop (length out - n) (drop n out)) ≡ laid (xs ++ zs) old
  laid_then out ys o y =
      let rest : drop n out ≡ drop (length xs) old = rw o (drop_at xs (drop (length xs) old) n e) in
      let front : take n out ≡ xs = rw o (take_at xs (drop (length xs) old) n e) in
      let l : length out - n ≡ length (drop (length xs) old) = rw (o, length_laid xs old (rw e h), length-drop (length xs) old) (ap (λ (m : ℕ). length old - m) (sym e)) in
      let y' : ys ≡ laid zs (drop (length xs) old) = y ∙ rw (rest, l, take-length) in
      rw (front, rest, l, drop-length (drop (length xs) old), append-nil ys, y', drop-drop (length zs) (length xs) old, length-append xs zs)
      (sym (append_assoc xs zs _))
