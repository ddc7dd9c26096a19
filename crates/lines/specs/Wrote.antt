-- A text written into a lent buffer (document 01, "The sheet and the program": "each report line is written into the unused rest of the
-- lent buffer").
-- Assumes nothing: these are definitions.
use Rattle.std.specs.Prelude.{◌≡◌, List, ◌++◌, ℕ, ◌≤◌, length, drop}

-- what each writer ensures: the bytes s, for which there was room in `before`, stand at its front, the rest is as it was, and n says how
-- many they are
pub record Wrote (s before after : List ℕ) (n : ℕ) : Type 0 where
  pub room : length s ≤ length before
  pub bytes : after ≡ s ++ drop (length s) before
  pub count : n ≡ length s
