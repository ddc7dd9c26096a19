-- An answer compared with the recorded list of a word.
-- Assumes nothing: these are definitions.
use Rattle.std.specs.Prelude.{ℕ, ◌-◌, Bool, cond, List, leb, ℤ, length}
use Rattle.lines.specs.Line.{Taken, taken, refused}
use Rattle.replay.specs.Differing.{differing}
use Rattle.replay.specs.Counts.{after_numbers}
use Rattle.replay.specs.declared.compare.Tally.{Tally}

-- the tally afterwards, in a text of n bytes: its numbers are compared and its differences counted. A list that is refused, or longer than
-- any answer, is one difference, and nothing is read behind it
module _ {B : Type 0} (same : ℤ → B → Bool) (longest n : ℕ) where
  abbrev pub compared : Taken (List ℤ) → List B → Tally → Tally
  compared (taken zs s) answered t =
      cond (leb (length zs) longest) (after_numbers t (n - length s) (length zs) (differing same zs answered)) (after_numbers t n 0 1)
  compared refused answered t = after_numbers t n 0 1
