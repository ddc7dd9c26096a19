-- Yes and no as the tests ask for them, as a number.
-- Assumes nothing: these are definitions.
use Rattle.std.specs.Prelude.{ℕ, Bool, true, false}

-- 1 for yes
abbrev pub as_number : Bool → ℕ
as_number true = 1
as_number false = 0
