-- The loops of a program over the definitions of `Kosaraju`: what one more turn does. A loop's invariant is the left side at its counter.
-- Assumes nothing.
use mathlib.Core.Path.{◌≡◌, refl, ap, ◌∙◌}
use mathlib.Core.List.{List, [], ◌∷◌, ◌++◌}
use Prim.Native.Nat.{ℕ, zero, suc, ◌+◌}
use mathlib.Core.Logic.{inl, inr}
use native.Mathlib.Omega.{arith}
use Rattle.regions.specs.Graph.{range, each}
use Rattle.regions.proofs.Laws.Lists.{◌∈◌}

pub each_append : {S : Type 0} (f : ℕ → S → S) (l m : List ℕ) (s : S) → each f (l ++ m) s ≡ each f m (each f l s)
unfolding each
each_append f [] m s = refl
each_append f (x ∷ l) m s = each_append f l m (f x s)

pub range_suc : (a k : ℕ) → range a (suc k) ≡ range a k ++ ((a + k) ∷ [])
unfolding range
range_suc a zero = ap {B = List ℕ} (λ x. x ∷ []) (omega arith)
range_suc a (suc k) = ap {B = List ℕ} (λ l. a ∷ l) (range_suc (suc a) k ∙ ap (λ (x : ℕ). range (suc a) k ++ (x ∷ [])) (omega arith))

-- what f keeps at each node of the list
pub each_keeps : {S : Type 0} (P : S → Type 0) (f : ℕ → S → S) (l : List ℕ) → ((x : ℕ) → x ∈ l → (s : S) → P s → P (f x s)) → (s : S) → P s → P (each f l s)
unfolding each
each_keeps P f [] h s p = p
each_keeps P f (x ∷ l) h s p = each_keeps P f l (λ y k. h y (inr k)) (f x s) (h x (inl refl) s p)
