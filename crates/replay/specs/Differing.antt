-- In how many places a recorded list and an answer differ.
-- Assumes nothing: these are definitions.
use Rattle.std.specs.Prelude.{ℕ, suc, ◌+◌, Bool, cond, List, [], ◌∷◌, length, ℤ, pos}
use Rattle.lists.specs.Signed.{eq_z}

abbrev pub one_unless : Bool → ℕ
one_unless same = cond same 0 1

-- a recorded number is the unsigned number that was answered
abbrev pub eq_n : ℤ → ℕ → Bool
eq_n recorded answered = eq_z recorded (pos answered)

-- places that only one of the lists has count
module _ {A : Type 0} {B : Type 0} (same : A → B → Bool) where
  unfoldable pub differing : List A → List B → ℕ
  differing [] ys = length ys
  differing (x ∷ xs) [] = suc (length xs)
  differing (x ∷ xs) (y ∷ ys) = one_unless (same x y) + differing xs ys
