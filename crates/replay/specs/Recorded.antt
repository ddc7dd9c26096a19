-- A recorded list (crates/replay/README.md): a line `word=count`, and then so many numbers, one to a line.
-- Assumes nothing: these are definitions.
use Rattle.std.specs.Prelude.{ℕ, zero, suc, ◌-◌, ◌<◌, ◌≡◌, List, [], ◌∷◌, ℤ, length, Option, Some, None}
use Rattle.lists.specs.Slices.{laid}
use Rattle.lines.specs.Line.{Taken, taken, refused, read_number, read_line, natural}

-- a number, and those behind it
abbrev pub before : ℤ → Taken (List ℤ) → Taken (List ℤ)
before z (taken zs s) = taken (z ∷ zs) s
before z refused = refused

abbrev pub and_then : Taken ℤ → (List ℕ → Taken (List ℤ)) → Taken (List ℤ)
and_then (taken z s) more = before z (more s)
and_then refused more = refused

-- n numbers, one to a line
unfoldable pub read_numbers : ℕ → List ℕ → Taken (List ℤ)
read_numbers zero s = taken [] s
read_numbers (suc n) s = and_then (read_number s) (read_numbers n)

abbrev pub numbers_of : Taken ℕ → Taken (List ℤ)
numbers_of (taken n s) = read_numbers n s
numbers_of refused = refused

-- the list of a word
abbrev pub read_list : List ℕ → List ℕ → Taken (List ℤ)
read_list word s = numbers_of (natural (read_line word s))

-- ---- the code's answers, in a text of n bytes

-- the numbers fill the lent list, and r says where they end
abbrev pub Filled : ℕ → Taken (List ℤ) → List ℤ → Option ℕ → Type 0
Filled n (taken zs s) out' r = (out' ≡ zs) × (r ≡ Some (n - length s))
Filled n refused out' r = r ≡ None

-- the numbers stand at the front of the lent list, where it is long enough
abbrev pub ReadFrom : ℕ → Taken (List ℤ) → List ℤ → List ℤ → Option (ℕ × ℕ) → Type 0
ReadFrom n (taken zs s) out out' (Some (count, next)) = (out' ≡ laid zs out) × (count ≡ length zs) × (next ≡ n - length s)
ReadFrom n refused out out' (Some (count, next)) = ⊥
ReadFrom n (taken zs s) out out' None = length out < length zs
ReadFrom n refused out out' None = Unit {0}
