-- What a writer at a position ensures, whatever room there is: it writes its text where there is room, and always says where the text ends.
-- So a text is measured by the same call on an empty buffer. No line of a report rests on these.
--     greatest     the greatest position
--     Printed      what each writer ensures
-- Assumes nothing: these are definitions.
use Rattle.std.specs.Prelude.{◌≡◌, ℕ, ◌+◌, ◌-◌, ◌^◌, ◌≤◌, ◌<◌, List, ◌++◌, min, length, take, drop}

-- a sum of lengths past it stays there
abbrev pub greatest : ℕ
greatest = 2 ^ 64 - 1

-- the bytes s end at n, and where they fit they stand from `at` on, the rest as it was. The buffer is as long as it was, and as any slice
-- shorter than the greatest position: so they fit just where n is within it
pub record Printed (at : ℕ) (s before after : List ℕ) (n : ℕ) : Type 0 where
  pub short : length before < greatest
  pub long : length after ≡ length before
  pub count : n ≡ min (at + length s) greatest
  pub bytes : at + length s ≤ length before → after ≡ take at before ++ (s ++ drop (at + length s) before)
