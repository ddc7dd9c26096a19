-- Places as the tests ask for them: one more than the place, or 0 for none.
-- Assumes nothing: these are definitions.
use Rattle.std.specs.Prelude.{⊤, Option, Some, None, Result, Ok, Err}
use Rattle.std.specs.Prelude.{ℕ, suc, ◌≤◌, ◌<◌, ◌≡◌, List, ℤ}
use Rattle.lists.specs.Limits.{component_limit}
use Rattle.lists.specs.Records.{component_count}
use Rattle.lists.specs.Ids.{place_of, member_of}
use Rattle.lists.specs.declared.Refusal.{Refusal}

-- a place of a component, or none
abbrev pub IsPlace : Option ℕ → Type 0
IsPlace (Some k) = k < component_limit
IsPlace None = Unit

abbrev pub answer_of : Option ℕ → ℕ
answer_of (Some k) = suc k
answer_of None = 0

-- how many components there are where they are accepted
abbrev pub count_among : Result ⊤ Refusal → List ℤ → Option ℕ
count_among (Ok tt) cs = Some (component_count cs)
count_among (Err refusal) cs = None

-- the list place of an id where the components are accepted
abbrev pub place_among : Result ⊤ Refusal → List ℤ → ℕ → Option ℕ
place_among (Ok tt) cs id = place_of cs id
place_among (Err refusal) cs id = None

-- the list place of the component with the k-th smallest id, where the components are accepted and there are so many
pub record MemberAnswer (checked : Result ⊤ Refusal) (cs : List ℤ) (k r : ℕ) : Type 0 where
  pub refused : (refusal : Refusal) → checked ≡ Err refusal → r ≡ 0
  pub past : component_count cs ≤ k → r ≡ 0
  pub found : checked ≡ Ok tt → k < component_count cs → (p : ℕ) × ((r ≡ suc p) × ((p < component_count cs) × (member_of cs p ≡ k)))
