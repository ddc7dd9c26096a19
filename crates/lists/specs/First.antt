-- The first place at which a test holds, a test that holds at each place of a run or at some, and the list of a function's values.
-- Assumes nothing: these are definitions.
use Rattle.std.specs.Prelude.{Option, Some, None}
use Rattle.std.specs.Prelude.{ℕ, zero, suc, Bool, true, false, cond, ◌&&◌, List, [], ◌∷◌, ◌++◌}

-- the first of the n places k, k + 1, .. at which `test` holds
unfoldable pub first_from : (ℕ → Bool) → ℕ → ℕ → Option ℕ
first_from test k zero = None
first_from test k (suc n) = cond (test k) (Some k) (first_from test (suc k) n)

-- `test` holds at each of the n places k, k + 1, ..
unfoldable pub all_from : (ℕ → Bool) → ℕ → ℕ → Bool
all_from test k zero = true
all_from test k (suc n) = test k && all_from test (suc k) n

-- a search found a place
abbrev pub is_found : Option ℕ → Bool
is_found (Some k) = true
is_found None = false

-- `test` holds at some place below n
abbrev pub some : (ℕ → Bool) → ℕ → Bool
some test n = is_found (first_from test 0 n)

-- f 0, f 1, .., f (n - 1)
unfoldable pub tabulate : {A : Type 0} → (ℕ → A) → ℕ → List A
tabulate f zero = []
tabulate f (suc n) = tabulate f n ++ (f n ∷ [])
