-- What an answer says: the checks' refusal or none, and sets; and a count that is 0 beside a refusal.
-- Assumes nothing: these are definitions.
use Rattle.std.specs.Prelude.{⊤, Result, Ok, Err}
use Rattle.lists.specs.declared.Refusal.{Refusal}
use Rattle.std.specs.Prelude.{ℕ, ◌≡◌, Bool, ◌&&◌, List, ltb}
use Rattle.sets.specs.Members.{member_of}

-- the words keep the numbers below n of which P holds, and no other
pub record SetWhere (n : ℕ) (P : ℕ → Bool) (words : List ℕ) : Type 0 where
  pub member : (k : ℕ) → member_of words k ≡ (ltb k n && P k)

-- what the checks said, by an answer with a value: its refusal, or none
abbrev pub checked : {A : Type 0} → Result A Refusal → Result ⊤ Refusal
checked (Ok value) = Ok tt
checked (Err refusal) = Err refusal

-- a count, by what the checks say
abbrev pub counted : Result ⊤ Refusal → ℕ → ℕ
counted (Ok tt) n = n
counted (Err refusal) n = 0
