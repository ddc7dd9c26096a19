-- The same rules and lists give the same report: of a parsed sheet its answer and what it leaves are functions of these alone.
-- Assumes nothing.
use Rattle.std.specs.Prelude.{Result}
use mathlib.Core.Path.{◌≡◌, sym, ◌∙◌}
use mathlib.Core.List.{List}
use Prim.Native.Nat.{ℕ}
use lib.IntN.{ℤ}
use Rattle.lists.specs.declared.Refusal.{Refusal}
use Rattle.forms.specs.Sheet.{Parsed, Sheet}
use Rattle.forms.specs.declared.Style.{Style}
use Rattle.report.specs.Entry.{Reported}
use Rattle.report.specs.Same.{Alike, SameReport}

module _ (style₁ style₂ : Style) (rules : ℕ) (cs ps fs : List ℤ) (p q : Parsed) (e : p ≡ Sheet style₁ rules cs ps fs) (g : q ≡ Sheet style₂ rules cs ps fs)
    {a b c a₁ a₂ b₁ b₂ c₁ c₂ : List ℤ} {out out₁ out₂ : List ℕ} {r₁ r₂ : Result ℕ Refusal} where
  alike : Reported p a a₁ b b₁ c c₁ out out₁ r₁ → Reported q a a₂ b b₂ c c₂ out out₂ r₂ → Alike r₁ r₂ out₁ out₂ a₁ a₂ b₁ b₂ c₁ c₂
  alike m n =
      let m' : Reported (Sheet style₁ rules cs ps fs) a a₁ b b₁ c c₁ out out₁ r₁ = rw e at m in
      let n' : Reported (Sheet style₂ rules cs ps fs) a a₂ b b₂ c c₂ out out₂ r₂ = rw g at n in
      record {
        answers = m'.printed.answer ∙ sym n'.printed.answer;
        bytes = m'.printed.left ∙ sym n'.printed.left;
        components = m'.components_left ∙ sym n'.components_left;
        connections = m'.connections_left ∙ sym n'.connections_left;
        frontiers = m'.frontiers_left ∙ sym n'.frontiers_left;
      }

pub same_report : SameReport
same_report x₁ y₁ z₁ x₂ y₂ z₂ text₁ text₂ rules cs ps fs s a b c a₁ a₂ b₁ b₂ c₁ c₂ out out₁ out₂ r₁ r₂ m n = alike s.first_form s.second_form rules cs ps fs _ _ s.first_is s.second_is m n
