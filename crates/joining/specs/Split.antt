-- A list of numbers as a list of records of one width, and back.
-- Assumes nothing: these are definitions.
use Rattle.std.specs.Prelude.{ℕ, zero, suc, ◌/◌, List, [], ◌∷◌, ◌++◌, length, take, drop, ℤ}

-- the first n records
unfoldable pub records : ℕ → ℕ → List ℤ → List (List ℤ)
records width zero list = []
records width (suc n) list = take width list ∷ records width n (drop width list)

-- all whole records, in order
abbrev pub records_of : ℕ → List ℤ → List (List ℤ)
records_of width list = records width (length list / width) list

-- the numbers of records, one record after the other
unfoldable pub flat : List (List ℤ) → List ℤ
flat [] = []
flat (r ∷ rs) = r ++ flat rs
