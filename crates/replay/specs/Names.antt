-- Sets as lists of numbers.
-- Assumes nothing: these are definitions.
use Rattle.std.specs.Prelude.{ℕ, zero, suc, ◌/◌, ◌≡◌, cond, List, [], ◌∷◌, ◌++◌, ltb, length, get_or}
use Rattle.lists.specs.Slices.{laid}
use Rattle.tables.specs.Pairs.{span}
use Rattle.sets.specs.Members.{as_nat, member_of}

-- the id of a member by the table of ids; a number that is in no table stands for itself
abbrev pub name_of : List ℕ → ℕ → ℕ
name_of keys m = cond (ltb m (length keys)) (get_or keys m 0 / span) m

-- the names of the members below n, rising
unfoldable pub names_below : List ℕ → List ℕ → ℕ → List ℕ
names_below keys words zero = []
names_below keys words (suc n) = names_below keys words n ++ cond (member_of words n) (name_of keys n ∷ []) []

-- 1 for each number below n that is a member, 0 for the others
unfoldable pub flags_below : List ℕ → ℕ → List ℕ
flags_below words zero = []
flags_below words (suc n) = flags_below words n ++ (as_nat (member_of words n) ∷ [])

-- the numbers stand at the front of the lent list, and r says how many these are
pub record Written (numbers out out' : List ℕ) (r : ℕ) : Type 0 where
  pub front : out' ≡ laid numbers out
  pub count : r ≡ length numbers
