-- Tests over lists.
-- Assumes nothing: these are definitions.
use Rattle.std.specs.Prelude.{Bool, true, false, not, cond, ◌&&◌, ◌||◌, List, [], ◌∷◌, ℤ}
use Rattle.lists.specs.Signed.{eq_z}

-- some element passes
unfoldable pub any : {A : Type 0} → (A → Bool) → List A → Bool
any test [] = false
any test (x ∷ xs) = test x || any test xs

-- every element passes
unfoldable pub every : {A : Type 0} → (A → Bool) → List A → Bool
every test [] = true
every test (x ∷ xs) = test x && every test xs

-- no element is the same as an earlier one
unfoldable pub distinct : {A : Type 0} → (A → A → Bool) → List A → Bool
distinct same [] = true
distinct same (x ∷ xs) = not (any (λ later. same later x) xs) && distinct same xs

-- the elements that pass, in their order
unfoldable pub keep : {A : Type 0} → (A → Bool) → List A → List A
keep test [] = []
keep test (x ∷ xs) = cond (test x) (x ∷ keep test xs) (keep test xs)

-- two lists of the same numbers
unfoldable pub same_numbers : List ℤ → List ℤ → Bool
same_numbers [] [] = true
same_numbers [] (b ∷ bs) = false
same_numbers (a ∷ as') [] = false
same_numbers (a ∷ as') (b ∷ bs) = eq_z a b && same_numbers as' bs
