-- Walks from a list of nodes, one after the other: the list, and what is not visited yet.
-- Assumes nothing.
use mathlib.Core.Path.{◌≡◌, refl, sym, ap, ◌∙◌, subst}
use mathlib.Core.Bool.{Bool, true, false, cond}
use mathlib.Core.List.{List, [], ◌∷◌, ◌++◌, append-nil}
use Prim.Native.Nat.{ℕ, zero, suc, ◌+◌, ◌-◌, ◌≤◌}
use native.Mathlib.Nat.{zero-add}
use native.Mathlib.Numerals.{add-one}
use native.Mathlib.Omega.{arith}
use lib.ListN.{drop, replicate}
use lib.Seq.{drop-drop}
use Rattle.regions.specs.Graph.{marked, range, filter}
use Rattle.regions.specs.Kosaraju.{starts_of}
use Rattle.regions.specs.Search.{weight, fresh}
use Rattle.regions.proofs.Laws.Loops.{range_suc}

pub fresh_none : (n : ℕ) → fresh (replicate n false) ≡ n
unfolding weight
fresh_none zero = refl
fresh_none (suc n) = let h = fresh_none n in omega (arith, h)

-- what holds past a place holds past a later one
pub drop_more : {A : Type 0} (l m : List A) {i j : ℕ} → i ≤ j → drop i l ≡ drop i m → drop j l ≡ drop j m
drop_more l m {i} {j} h e =
    let p : i + (j - i) ≡ j = omega arith in
    subst (λ (k : ℕ). drop k l ≡ drop k m) p (sym (drop-drop (j - i) i l) ∙ ap (drop (j - i)) e ∙ drop-drop (j - i) i m)

-- ---- the nodes to walk from

-- every node before `start`
pub range_next : (start : ℕ) → range zero (start + 1) ≡ range zero start ++ (start ∷ [])
range_next start =
    ap (range zero) (add-one start) ∙ range_suc zero start ∙ ap (λ (k : ℕ). range zero start ++ (k ∷ [])) (zero-add start)

filter_append : (p : ℕ → Bool) (l m : List ℕ) → filter p (l ++ m) ≡ filter p l ++ filter p m
unfolding filter
filter_append p [] m = refl
filter_append p (x ∷ l) m = go (p x) (filter_append p l m)
  where
    go : (b : Bool) → filter p (l ++ m) ≡ filter p l ++ filter p m
        → cond b (x ∷ filter p (l ++ m)) (filter p (l ++ m)) ≡ cond b (x ∷ filter p l) (filter p l) ++ filter p m
    go true ih = ap (λ t. x ∷ t) ih
    go false ih = ih

module _ (marks : List Bool) (start : ℕ) where
  starts_next : starts_of (start + 1) marks ≡ starts_of start marks ++ filter (marked marks) (start ∷ [])
  starts_next = ap (filter (marked marks)) (range_next start) ∙ filter_append (marked marks) (range zero start) (start ∷ [])

  pub starts_more : marked marks start ≡ true → starts_of (start + 1) marks ≡ starts_of start marks ++ (start ∷ [])
  unfolding filter
  starts_more e = starts_next ∙ ap (λ b. starts_of start marks ++ cond b (start ∷ []) []) e

  pub starts_same : marked marks start ≡ false → starts_of (start + 1) marks ≡ starts_of start marks
  unfolding filter
  starts_same e = starts_next ∙ ap (λ b. starts_of start marks ++ cond b (start ∷ []) []) e ∙ append-nil (starts_of start marks)

-- ---- the invariant: the arrays hold what the walks from the nodes of l leave
