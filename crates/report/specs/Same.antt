-- The same rules and lists give the same report (document 02, R-6), in whichever form a sheet says them.
--     SameReport     the statement, of two sheets that the entry is handed with the same work lists and the same buffer
-- The theorem is `same_report` of proofs/SameReport.antt. No contract rests on it.
-- Assumes nothing: these are statements.
use Rattle.std.specs.Prelude.{ℕ, ◌≡◌, List, ℤ, Result}
use Rattle.lists.specs.Rules.{rules_limit}
use Rattle.lists.specs.declared.Refusal.{Refusal}
use Rattle.forms.specs.Sheet.{Parsed, Sheet, parse}
use Rattle.forms.specs.declared.Style.{Style}
use Rattle.report.specs.Entry.{Reported}

-- two calls answer the same, and leave the same in every slice
pub record Alike (r₁ r₂ : Result ℕ Refusal) (out₁ out₂ : List ℕ) (a₁ a₂ b₁ b₂ c₁ c₂ : List ℤ) : Type 0 where
  pub answers : r₁ ≡ r₂
  pub bytes : out₁ ≡ out₂
  pub components : a₁ ≡ a₂
  pub connections : b₁ ≡ b₂
  pub frontiers : c₁ ≡ c₂

-- two texts, each with limits of its own, say the same rules and lists, the first in one form, the second in another or the same
pub record SayTheSame (rules : ℕ) (cs ps fs : List ℤ) (first second : Parsed) : Type 0 where
  pub first_form : Style
  pub second_form : Style
  pub first_is : first ≡ Sheet first_form rules cs ps fs
  pub second_is : second ≡ Sheet second_form rules cs ps fs

abbrev pub SameReport : Type 0
SameReport =
    (x₁ y₁ z₁ x₂ y₂ z₂ : ℕ) (text₁ text₂ : List ℕ) (rules : ℕ) (cs ps fs : List ℤ)
    → SayTheSame rules cs ps fs (parse rules_limit x₁ y₁ z₁ text₁) (parse rules_limit x₂ y₂ z₂ text₂)
    → (a b c a₁ a₂ b₁ b₂ c₁ c₂ : List ℤ) (out out₁ out₂ : List ℕ) (r₁ r₂ : Result ℕ Refusal)
    → Reported (parse rules_limit x₁ y₁ z₁ text₁) a a₁ b b₁ c c₁ out out₁ r₁
    → Reported (parse rules_limit x₂ y₂ z₂ text₂) a a₂ b b₂ c c₂ out out₂ r₂
    → Alike r₁ r₂ out₁ out₂ a₁ a₂ b₁ b₂ c₁ c₂
