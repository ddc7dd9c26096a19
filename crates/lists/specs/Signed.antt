-- Numbers of a list, signed, and their tests.
-- Assumes nothing: these are definitions.
use Rattle.std.specs.Prelude.{ℕ, Bool, false, not, ◌&&◌, ◌||◌, List, get_or, eqb, ℤ, pos, negsuc}
use Rattle.std.specs.Int.Signed.{le_z, lt_z}

-- the number at a place, 0 past the end
abbrev pub at : List ℤ → ℕ → ℤ
at list i = get_or list i (pos 0)

-- low ≤ v ≤ high
abbrev pub in_range : ℤ → ℤ → ℤ → Bool
in_range low high v = le_z low v && le_z v high

-- a is less than b, or it is not greater and `rest` decides
abbrev pub less_then : ℤ → ℤ → Bool → Bool
less_then a b rest = lt_z a b || (not (lt_z b a) && rest)

-- a and b are the same number
abbrev pub eq_z : ℤ → ℤ → Bool
eq_z (pos a) (pos b) = eqb a b
eq_z (pos a) (negsuc b) = false
eq_z (negsuc a) (pos b) = false
eq_z (negsuc a) (negsuc b) = eqb a b
