-- A chain of checks: where the first of two refuses, the chain ends there; where it accepts, the second decides.
-- Assumes nothing.
use Rattle.std.specs.Prelude.{⊤, Result, Ok, Err}
use mathlib.Core.Path.{◌≡◌, refl, sym, ◌∙◌}
use mathlib.Core.List.{List}
use lib.IntN.{ℤ}
use Prim.Native.Nat.{ℕ}
use native.Mathlib.Omega.{arith}
use Rattle.checks.specs.Refusals.{◌or_else◌}
use Rattle.checks.specs.Checks.{CheckedBy}
use Rattle.lists.specs.declared.Refusal.{Refusal}

pub stops : {a x : Result ⊤ Refusal} {r : Refusal} → a ≡ x → a ≡ Err r → (y : Result ⊤ Refusal) → a ≡ x or_else y
stops {a} {x} {r} e f y = let g : x ≡ Err r = cc in rw g f

pub goes : {a b x y : Result ⊤ Refusal} → a ≡ x → a ≡ Ok tt → b ≡ y → b ≡ (x or_else y)
goes {a} {b} {x} {y} e f q = let g : x ≡ Ok tt = cc in rw g q

pub or_else_assoc : (a b c : Result ⊤ Refusal) → (a or_else b) or_else c ≡ a or_else (b or_else c)
or_else_assoc (Ok tt) b c = refl
or_else_assoc (Err r) b c = refl

pub refused_not : {r : Refusal} → ◌≡◌ {A = Result ⊤ Refusal} (Err r) (Ok tt) → ⊥
refused_not e = let z : ◌≡◌ {A = ℕ} 0 1 = cc in omega arith

-- a chain that accepts accepts at each check
pub both_accept : (a b : Result ⊤ Refusal) → a or_else b ≡ Ok tt → (a ≡ Ok tt) × (b ≡ Ok tt)
both_accept (Ok tt) b e = (refl, e)
both_accept (Err r) b e = absurd (refused_not e)

-- what the checks say where they refuse
pub refused : {g : Result ⊤ Refusal} {cs : List ℤ} {keys : List ℕ} {e : Refusal} {r : Result ⊤ Refusal}
    → r ≡ Err e → r ≡ g → CheckedBy g cs keys r
refused back answer = record {
  answer = answer;
  table = λ e. absurd (refused_not (sym back ∙ e));
  places = λ e. absurd (refused_not (sym back ∙ e));
}

-- and where the first of two refuses
pub stopped : {x : Result ⊤ Refusal} (y g : Result ⊤ Refusal) {cs : List ℤ} {keys : List ℕ} {e : Refusal} {r : Result ⊤ Refusal}
    → CheckedBy x cs keys (Err e) → r ≡ Err e → x or_else y ≡ g → CheckedBy g cs keys r
stopped y g s back parts = refused back (stops (back ∙ s.answer) back y ∙ parts)
