-- What is read into a lent list is within it.
-- Assumes nothing: these are definitions.
use Rattle.std.specs.Prelude.{ℕ, ◌≤◌, Option, Some, None}

-- a list that was read has at most so many numbers
abbrev pub AtMost : ℕ → Option (ℕ × ℕ) → Type 0
AtMost most (Some (n, next)) = n ≤ most
AtMost most None = Unit {0}
