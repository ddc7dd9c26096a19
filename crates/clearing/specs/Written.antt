-- What the inner functions of the clearing tool hand on.
-- Assumes nothing: these are definitions.
use Rattle.std.specs.Prelude.{◌≡◌, Option, Some, None, ℕ, cond, List, ℤ}
use Rattle.lists.specs.Ids.{end_missing}
use Rattle.lists.specs.Slices.{laid}
use Rattle.clearing.specs.Parts.{ends_of, kept_rows, dropped_rows}
use Rattle.clearing.specs.Entry.{CountsOf}
use Rattle.clearing.specs.declared.Cleared.{Cleared}
use Rattle.clearing.specs.declared.Missing.{Missing}

-- the missing ends of port connection k, where it is dropped
abbrev pub fate_of : List ℤ → List ℤ → ℕ → Option Missing
fate_of cs ps k = cond (end_missing cs ps k) (Some (ends_of cs ps k)) None

-- the rows of both lists stand at their front
pub record PartedFor (cs ps kept kept' : List ℤ) (dropped dropped' : List ℕ) (r : Cleared) : Type 0 where
  pub counts : CountsOf cs ps r
  pub kept_left : kept' ≡ laid (kept_rows cs ps) kept
  pub dropped_left : dropped' ≡ laid (dropped_rows cs ps) dropped
