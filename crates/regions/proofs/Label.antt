-- The second walk: the loop of `paint`, what `label_from` does, and the loop of `label_all` with its invariant `Labelling`.
-- Assumes nothing.
use mathlib.Core.Path.{◌≡◌, sym, ap, ap₂, ◌∙◌, subst}
use mathlib.Core.Bool.{Bool, true, false, cond}
use mathlib.Core.List.{List, [], ◌∷◌}
use mathlib.Core.Logic.{⊎_elim}
use Prim.Native.Nat.{ℕ, zero, suc, ◌+◌, ◌≤◌, ◌<◌}
use native.Mathlib.Numerals.{add-one}
use native.Mathlib.Omega.{arith}
use lib.ListN.{length, get_or, set, take}
use lib.Seq.{take-suc}
use Rattle.regions.specs.Graph.{each, Edges, flip, next}
use Rattle.regions.specs.Kosaraju.{Walk, visit, mark, push, paint, Labels, new_region, label}
use Rattle.regions.specs.Search.{walk_of, weight, fresh, Zeros, Searched, labels_of, Labelled}
use Rattle.regions.proofs.Laws.Lists.{◌∈◌, ∈-++, get_or-∈}
use Rattle.regions.proofs.Laws.Loops.{each_append, each_keeps}
use Rattle.regions.proofs.Laws.Walks.{∈-next}

-- ---- paint

pub paint_more : (r : ℕ) (members l l' : List ℕ) (i : ℕ) → i < length members → l' ≡ paint r (take i members) l
    → set l' (get_or members i 0) r ≡ paint r (take (i + 1) members) l
unfolding paint each
paint_more r members l l' i h is =
    ap (λ m. set m (get_or members i 0) r) is
    ∙ sym (ap (λ m. paint r m l) (ap (λ (k : ℕ). take k members) (add-one i) ∙ take-suc members i 0 h)
    ∙ each_append (λ x m. set m x r) (take i members) (get_or members i 0 ∷ []) l)

-- ---- a walk adds nodes below n to the order

abbrev Low : ℕ → Walk → Type 0
Low n s = (y : ℕ) → y ∈ s.order → y < n

visit_low : (n : ℕ) (edge : Edges) (fuel x : ℕ) (s : Walk) → x < n → Low n s → Low n (visit n edge fuel x s)
unfolding visit
visit_low n edge zero x s lt low = low
visit_low n edge (suc fuel) x s lt low = go (get_or s.visited x false) (visit_low n edge fuel)
  where
    go : (b : Bool) → ((y : ℕ) (t : Walk) → y < n → Low n t → Low n (visit n edge fuel y t))
        → Low n (cond b s (push x (each (λ k t. visit n edge fuel k t) (next n edge x) (mark x s))))
    go true ih = low
    go false ih = λ y h.
        ⊎_elim (each_keeps (Low n) (λ k t. visit n edge fuel k t) (next n edge x) (λ k m t p. ih k t (∈-next n edge x k m).0 p) (mark x s) low y)
        (⊎_elim (λ e. subst (λ (z : ℕ). z < n) (sym e) lt) absurd)
        (∈-++ y (each (λ k t. visit n edge fuel k t) (next n edge x) (mark x s)).order (x ∷ []) h)

-- ---- label_from

pub fresh_le : (l : List Bool) → fresh l ≤ length l
unfolding weight
fresh_le [] = omega arith
fresh_le (true ∷ l) = let h = fresh_le l in omega (arith, h)
fresh_le (false ∷ l) = let h = fresh_le l in omega (arith, h)

module _ (n : ℕ) (edge : Edges) (x : ℕ) (s : Labels) where
  label_old : get_or s.visited x false ≡ true → label n edge x s ≡ s
  unfolding label
  label_old e = ap (λ b. cond b s (new_region n edge x s)) e

  label_new : get_or s.visited x false ≡ false → label n edge x s ≡ new_region n edge x s
  unfolding label
  label_new e = ap (λ b. cond b s (new_region n edge x s)) e

pub labelled_old : (n : ℕ) (edge : Edges) (x : ℕ) (visited : List Bool) (region_of : List ℕ) (count : ℕ) (stack : List ℕ) → Zeros stack
    → get_or visited x false ≡ true → Labelled n edge x visited region_of count visited region_of count stack
labelled_old n edge x visited region_of count stack z old = record { labels = sym (label_old n edge x (labels_of visited region_of count) old); stack_zeros = z }

-- after the search for the members
module _ {n : ℕ} {edge : Edges} {x : ℕ} {visited₀ visited : List Bool} {members₀ members stack : List ℕ} {size : ℕ}
    (lt : x < n) (s : Searched n edge x visited₀ members₀ 0 visited members size stack) where
  -- the members are nodes
  pub members_low : (i : ℕ) → i < length (take size members) → get_or (take size members) i 0 < n
  members_low i h =
      visit_low n edge n x (walk_of visited₀ members₀ 0) lt (λ y m. absurd m) (get_or (take size members) i 0)
      (subst (λ w. get_or (take size members) i 0 ∈ w.order) s.visits (get_or-∈ (take size members) i 0 h))

  pub labelled_new : (region_of : List ℕ) (count : ℕ) → get_or visited₀ x false ≡ false
      → Labelled n (flip edge) x visited₀ region_of count visited (paint count (take size members) region_of) (count + 1) stack
  labelled_new region_of count new =
      record {
        labels =
            ap₂ (λ w (k : ℕ). labels_of w.visited (paint count w.order region_of) k) s.visits (add-one count)
            ∙ sym (label_new n (flip edge) x (labels_of visited₀ region_of count) new);
        stack_zeros = s.stack_zeros;
      }

-- ---- regions

pub label_count : (n : ℕ) (edge : Edges) (x : ℕ) (s : Labels) → (label n edge x s).count ≤ suc s.count
unfolding label
label_count n edge x s = go (get_or s.visited x false)
  where
    go : (b : Bool) → (cond b s (new_region n edge x s)).count ≤ suc s.count
    go true = omega arith
    go false = omega arith
