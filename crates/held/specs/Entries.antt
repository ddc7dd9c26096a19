-- What the entries answer, and what they leave in the slices that they are lent.
-- Assumes nothing: these are definitions.
use Rattle.std.specs.Prelude.{⊤, Result, Ok, Err}
use Rattle.lists.specs.declared.Refusal.{Refusal}
use Rattle.std.specs.Prelude.{ℕ, ◌≡◌, List, ℤ}
use Rattle.held.specs.Plot.{Record, seat, opening, opened}
use Rattle.held.specs.Left.{place, break, connect}
use Rattle.held.specs.Lent.{Lent, plot_in, has_room, layout, lent_if, lent_answer, lent_after}

-- where the checks accept, the place of the block
abbrev pub with_place : Result ⊤ Refusal → ℕ → Result ℕ Refusal
with_place (Ok tt) k = Ok k
with_place (Err refusal) k = Err refusal

-- placing: the answer, and the slices afterwards, those that are not written included
pub record PlacedBy (lent after : Lent) (numbers : Record) (r : Result ℕ Refusal) : Type 0 where
  pub answer : r ≡ with_place (lent_answer lent (place numbers)) (seat (plot_in lent))
  pub left : after ≡ lent_after lent (place numbers)

-- breaking: the answer, and the slices afterwards
pub record BrokenBy (lent after : Lent) (id : ℕ) (r : Result ⊤ Refusal) : Type 0 where
  pub answer : r ≡ lent_answer lent (break id)
  pub left : after ≡ lent_after lent (break id)

-- connecting: the answer, and the slices afterwards
pub record ConnectedBy (lent after : Lent) (numbers : Record) (r : Result ⊤ Refusal) : Type 0 where
  pub answer : r ≡ lent_answer lent (connect numbers)
  pub left : after ≡ lent_after lent (connect numbers)

-- an opening: the answer, and the slices afterwards. What was in them is not looked at.
pub record OpenedBy (lent after : Lent) (rules : ℕ) (given : List ℤ) (r : Result ⊤ Refusal) : Type 0 where
  pub answer : r ≡ opening rules given (has_room lent)
  pub left : after ≡ lent_if (opening rules given (has_room lent)) (layout lent (opened rules given)) lent
