-- Writing a line (document 01, "The sheet and the program"): the decimal digits of a number by repeated division, a signed number with its
-- minus, the line of a key. Each definition of a number takes the text t that follows, so that no `++` stands in the way.
-- The bytes: 10 LF, 45 minus, 48 the digit 0, 61 the sign `=`.
-- Assumes nothing: these are definitions.
use Rattle.std.specs.Prelude.{ℕ, zero, suc, ◌+◌, ◌/◌, ◌%◌, ◌≤◌, cond, List, [], ◌∷◌, ◌++◌, ltb, ℤ, pos, negsuc, nat_abs}

-- the largest magnitude that a line may hold
abbrev pub limit : ℕ
limit = 4294967295

abbrev pub InRange : ℤ → Type 0
InRange z = nat_abs z ≤ limit

-- the digits of n, most significant first, and then t. There are at most `more` digits before the last one
unfoldable pub digits_then : ℕ → ℕ → List ℕ → List ℕ
digits_then zero n t = (48 + n) ∷ t
digits_then (suc more) n t = let tens = digits_then more (n / 10) ((48 + n % 10) ∷ t) in cond (ltb n 10) ((48 + n) ∷ t) tens

-- twenty digits hold every number below 2 ^ 64
abbrev pub digits : ℕ → List ℕ → List ℕ
digits n t = digits_then 19 n t

abbrev pub number : ℤ → List ℕ → List ℕ
number (pos n) t = digits n t
number (negsuc n) t = 45 ∷ digits (suc n) t

-- the line `key=z`, ended by LF
abbrev pub line_of : List ℕ → ℤ → List ℕ
line_of key z = key ++ 61 ∷ number z (10 ∷ [])
