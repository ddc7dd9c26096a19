-- Where the test says of two nodes whether each reaches the other, the numbers are those of the quick walk.
-- Assumes nothing.
use mathlib.Core.Path.{◌≡◌, refl, sym, ap, ap₂, ◌∙◌, subst}
use mathlib.Core.Bool.{Bool, true, false, cond, ◌||◌}
use mathlib.Core.List.{List, [], ◌∷◌, ◌++◌, reverse, reverse-reverse}
use mathlib.Core.Logic.{◌⊎◌, inl, inr, ⊎_elim, ◌↔◌}
use Prim.Native.Nat.{ℕ, zero, suc, ◌<◌, zero-le}
use native.Mathlib.Omega.{arith}
use lib.ListN.{length}
use Rattle.tables.specs.Order.{member}
use Rattle.lists.specs.First.{tabulate}
use Rattle.regions.specs.Graph.{Edges, Within, Both, each}
use Rattle.regions.specs.Kosaraju.{unlabelled, order, labels}
use Rattle.regions.proofs.Laws.Lists.{◌∈◌, mem-∈, mem-∉, ∈-mem, ∉-mem, member?, ∈-++, ∈-left, ∈-right, range-∈, table, table_of, table_replicate, get_or_table}
use Rattle.regions.proofs.Laws.Model.{explored, assigned, collect, found, regions, number}
use Rattle.regions.proofs.Laws.Regions.{Components, Ready, readies, collecting}
use Rattle.regions.proofs.Laws.Refine.{labelled, order_refines, labels_refines}
use Rattle.regions.proofs.Laws.Walks.{Reach·trans, Inv, walked}
use Rattle.signals.proofs.Tabulated.{tabulated_length, tabulated_at}
use Rattle.reach_table.specs.Numbers.{number_class, number_next, numbers}
use Rattle.reach_table.proofs.Rows.{equal_tests}

-- the list of a function's values, two ways
tabulated : {B : Type 0} (f : ℕ → B) (g : ℕ → B) (n : ℕ) → ((i : ℕ) → i < n → f i ≡ g i) → B → tabulate f n ≡ table n g
tabulated f g n h d = table_of n g d (tabulate f n) (tabulated_length f n) (λ i l. tabulated_at f d n i l ∙ h i l)

or_turned : (a b : Bool) → (a || b) ≡ (b || a)
or_turned true true = refl
or_turned true false = refl
or_turned false true = refl
or_turned false false = refl

pub member_append : (y : ℕ) (l m : List ℕ) → (member y l || member y m) ≡ member y (l ++ m)
member_append y l m = equal_tests (member y l || member y m) (member y (l ++ m)) to from
  where
    to : (member y l || member y m) ≡ true → member y (l ++ m) ≡ true
    to e = go (member? y l)
      where
        go : (y ∈ l) ⊎ (¬ (y ∈ l)) → member y (l ++ m) ≡ true
        go (inl h) = ∈-mem y (l ++ m) (∈-left y l m h)
        go (inr h) = ∈-mem y (l ++ m) (∈-right y l m (mem-∈ y m (sym (ap (λ t. t || member y m) (∉-mem y l h)) ∙ e)))

    from : member y (l ++ m) ≡ true → (member y l || member y m) ≡ true
    from e = ⊎_elim (λ h. rw (∈-mem y l h)) right (∈-++ y l m (mem-∈ y (l ++ m) e))
      where
        right : y ∈ m → (member y l || member y m) ≡ true
        right h = or_turned (member y l) (member y m) ∙ rw (∈-mem y m h)

module _ (n : ℕ) (edge same : Edges) (within : Within n edge) (both : (a b : ℕ) → a < n → b < n → (same a b ≡ true) ↔ Both edge a b) where
  -- the class of x is what the walk against the edges collects
  class_is : (x : ℕ) (l : List ℕ) (rs : List (List ℕ)) → Ready n edge (x ∷ l) rs → member x (assigned rs) ≡ false
      → (y : ℕ) → y < n → same x y ≡ member y (collect n edge x (assigned rs))
  unfolding found collect
  class_is x l rs w new y hy = equal_tests (same x y) (member y r)
      (λ e. let p = (both x y hx hy).0 e in ∈-mem y r (c.0.whole y (Reach·trans root.0 p.0, Reach·trans p.1 root.1)))
      (λ e. let q = c.0.sound y (mem-∈ y r e) in (both x y hx hy).1 (Reach·trans root.1 q.0, Reach·trans q.1 root.0))
    where
      hx : x < n
      hx = w.below x (inl refl)

      r : List ℕ
      r = collect n edge x (assigned rs)

      c : Components n edge (r ∷ rs)
      c = (subst (λ (t : Bool). Ready n edge l (cond t rs (r ∷ rs))) new (readies n edge within x l rs w)).components

      in-class : x ∈ r
      in-class =
          let v = collecting n edge within x (assigned rs) hx in
          ⊎_elim (λ h. absurd (mem-∉ x (assigned rs) new h)) (⊎_elim absurd (λ h. h)) (v.inv.seen x (v.done x (inl refl)))

      root : Both edge c.0.root x
      root = c.0.sound x in-class

  -- one node
  next_is : (x : ℕ) (l : List ℕ) (rs : List (List ℕ)) → Ready n edge (x ∷ l) rs → number_next n same x (labelled n rs) ≡ labelled n (found n edge x rs)
  unfolding number_next found assigned number
  next_is x l rs w =
      ap (λ t. cond t (labelled n rs) (number_class n same x (labelled n rs))) (get_or_table n (λ y. member y (assigned rs)) x false (w.below x (inl refl)))
      ∙ go (member x (assigned rs)) refl
    where
      r : List ℕ
      r = collect n edge x (assigned rs)

      go : (t : Bool) → member x (assigned rs) ≡ t → cond t (labelled n rs) (number_class n same x (labelled n rs)) ≡ labelled n (cond t rs (r ∷ rs))
      go true e = refl
      go false e =
          ap₂ (λ v a. record { visited = v; region_of = a; count = suc (length rs) })
          (tabulated _ (λ y. member y (r ++ assigned rs)) n (λ y h.
          ap₂ ◌||◌ (get_or_table n (λ y. member y (assigned rs)) y false h) (class_is x l rs w e y h)
          ∙ or_turned (member y (assigned rs)) (member y r) ∙ member_append y r (assigned rs)) false)
          (tabulated _ (λ y. cond (member y r) (length rs) (number rs y)) n (λ y h.
          ap₂ (λ t v. cond t (length rs) v) (class_is x l rs w e y h) (get_or_table n (number rs) y 0 h)) 0)

  -- all nodes of a list
  each_next : (l : List ℕ) (rs : List (List ℕ)) → Ready n edge l rs → each (number_next n same) l (labelled n rs) ≡ labelled n (each (found n edge) l rs)
  unfolding each
  each_next [] rs w = refl
  each_next (x ∷ l) rs w = ap (each (number_next n same) l) (next_is x l rs w) ∙ each_next l (found n edge x rs) (readies n edge within x l rs w)

  inv : Inv n edge [] [] (explored n edge)
  inv = (walked n edge within).inv

  ready : Ready n edge (explored n edge).finished []
  unfolding assigned
  ready =
      record {
        ends = inv.ends;
        nodup = inv.nodup;
        below = inv.below;
        cover = λ y h. inl (⊎_elim absurd (⊎_elim absurd (λ k. k)) (inv.seen y ((walked n edge within).done y (range-∈ y zero n zero-le (omega arith)))));
        closed = λ a b e h. h;
        components = tt;
      }

  pub numbers_same : numbers n same (order n edge) ≡ labels n edge
  unfolding numbers regions assigned member number
  numbers_same =
      ap (λ l. each (number_next n same) l (unlabelled n)) (ap reverse (order_refines n edge) ∙ reverse-reverse (explored n edge).finished)
      ∙ ap₂ (λ v a. each (number_next n same) (explored n edge).finished (record { visited = v; region_of = a; count = zero }))
      (table_replicate n (λ y. member y []) false (λ y. refl)) (table_replicate n (number []) zero (λ y. refl))
      ∙ each_next (explored n edge).finished [] ready
      ∙ sym (labels_refines n edge within ready)
