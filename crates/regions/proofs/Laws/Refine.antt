-- The arrays of `Kosaraju` hold what the lists of `Model` say: `visit` and `explore` go step by step, and so do `label` and `found`.
-- Assumes nothing.
use mathlib.Core.Path.{◌≡◌, refl, sym, ap, ap₂, ◌∙◌}
use mathlib.Core.Bool.{Bool, true, false, cond, ◌||◌}
use mathlib.Core.List.{List, [], ◌∷◌, ◌++◌, reverse, reverse-cons, reverse-reverse}
use mathlib.Core.Logic.{inl, inr, ⊎_elim}
use Prim.Native.Nat.{ℕ, zero, suc, ◌<◌}
use native.Mathlib.Omega.{arith}
use borrow.Author.Tests.{eq-eqb, ne_eqb}
use lib.Dec.{eqb}
use lib.ListN.{length, set}
use Rattle.tables.specs.Order.{member}
use Rattle.regions.specs.Graph.{at, range, each, Edges, Within, flip, next}
use Rattle.regions.specs.Kosaraju as Kosaraju
use Rattle.regions.specs.Kosaraju.{Walk, mark, push, visit, unvisited, order, Labels, paint, label, unlabelled, labels}
use Rattle.regions.proofs.Laws.Lists.{◌∈◌, ∈-mem, ∉-mem, member?, ∈-++, ∈-left, ∈-right, ∈-reverse, reverse-∈, ∈-range, table, table_ext, table_replicate, table_set, get_or_table}
use Rattle.regions.proofs.Laws.Model.{Trace, enter, leave, begin, explore, explored, assigned, collect, found, regions, number}
use Rattle.regions.proofs.Laws.Regions.{Ready, readies, collecting}
use Rattle.regions.proofs.Laws.Walks.{Inv, ∈-next}

-- two ways to do something at each node of a list, one of which follows the other through φ as long as P holds
each_refines : {S U : Type 0} (φ : S → U) (P : S → Type 0) (f : ℕ → S → S) (g : ℕ → U → U) (l : List ℕ)
    → ((x : ℕ) → x ∈ l → (s : S) → P s → (φ (f x s) ≡ g x (φ s)) × P (f x s))
    → (s : S) → P s → (φ (each f l s) ≡ each g l (φ s)) × P (each f l s)
unfolding each
each_refines φ P f g [] c s h = (refl, h)
each_refines φ P f g (x ∷ l) c s h =
    let p = c x (inl refl) s h in
    let q = each_refines φ P f g l (λ y k. c y (inr k)) (f x s) p.1 in
    (q.0 ∙ ap (each g l) p.0, q.1)

mem_same : (y : ℕ) (l m : List ℕ) → (y ∈ l → y ∈ m) → (y ∈ m → y ∈ l) → member y l ≡ member y m
mem_same y l m to from =
    ⊎_elim (λ h. ∈-mem y l h ∙ sym (∈-mem y m (to h))) (λ h. ∉-mem y l h ∙ sym (∉-mem y m (λ k. h (from k)))) (member? y l)

mem_here : (x : ℕ) (v : List ℕ) → member x (x ∷ v) ≡ true
mem_here x v = ∈-mem x (x ∷ v) (inl refl)

mem_other : (y x : ℕ) (v : List ℕ) → ¬ (y ≡ x) → member y v ≡ member y (x ∷ v)
unfolding member
mem_other y x v ne = ap (λ b. b || member y v) (sym (ne_eqb y x ne))

-- ---- the first walk

abbrev pub cells : ℕ → Trace → Walk
cells n s = record { visited = table n (λ y. member y s.visited); order = reverse s.finished }

pub cells_enter : (n x : ℕ) (s : Trace) → x < n → cells n (enter x s) ≡ mark x (cells n s)
cells_enter n x s lt =
    ap (λ v. record { visited = v; order = reverse s.finished })
    (sym (table_set n (λ y. member y s.visited) (λ y. member y (x ∷ s.visited)) x lt (λ y ne. mem_other y x s.visited ne))
    ∙ ap (set (table n (λ y. member y s.visited)) x) (mem_here x s.visited))

cells_leave : (n x : ℕ) (s : Trace) → cells n (leave x s) ≡ push x (cells n s)
cells_leave n x s = ap (λ o. record { visited = table n (λ y. member y s.visited); order = o }) (reverse-cons x s.finished)

visit_refines : (n : ℕ) (edge : Edges) (fuel x : ℕ) (s : Trace) → x < n → cells n (explore n edge fuel x s) ≡ visit n edge fuel x (cells n s)
unfolding visit explore
visit_refines n edge zero x s lt = refl
visit_refines n edge (suc fuel) x s lt =
    go (member x s.visited) (visit_refines n edge fuel) ∙ ap (λ c. cond c (cells n s) new) (sym (get_or_table n (λ y. member y s.visited) x false lt))
  where
    new : Walk
    new = push x (each (λ k t. visit n edge fuel k t) (next n edge x) (mark x (cells n s)))

    go : (b : Bool) → ((y : ℕ) (s : Trace) → y < n → cells n (explore n edge fuel y s) ≡ visit n edge fuel y (cells n s))
        → cells n (cond b s (leave x (each (λ k t. explore n edge fuel k t) (next n edge x) (enter x s)))) ≡ cond b (cells n s) new
    go true ih = refl
    go false ih =
        cells_leave n x (each (λ k t. explore n edge fuel k t) (next n edge x) (enter x s))
        ∙ ap (push x)
        ((each_refines (cells n) (λ t. Unit {0}) (λ k t. explore n edge fuel k t) (λ k t. visit n edge fuel k t) (next n edge x)
        (λ y h t u. (ih y t (∈-next n edge x y h).0, tt)) (enter x s) tt).0
        ∙ ap (each (λ k t. visit n edge fuel k t) (next n edge x)) (cells_enter n x s lt))

pub each_visit_refines : (n : ℕ) (edge : Edges) (fuel : ℕ) (l : List ℕ) → ((y : ℕ) → y ∈ l → y < n)
    → (s : Trace) → cells n (each (explore n edge fuel) l s) ≡ each (visit n edge fuel) l (cells n s)
each_visit_refines n edge fuel l below s =
    (each_refines (cells n) (λ t. Unit {0}) (explore n edge fuel) (visit n edge fuel) l (λ y h t u. (visit_refines n edge fuel y t (below y h), tt)) s tt).0

pub cells_begin : (n : ℕ) → unvisited n ≡ cells n (begin [])
unfolding member
cells_begin n = ap (λ v. record { visited = v; order = [] }) (table_replicate n (λ y. member y []) false (λ y. refl))

pub order_refines : (n : ℕ) (edge : Edges) → order n edge ≡ reverse (explored n edge).finished
unfolding order explored
order_refines n edge =
    ap (λ s. s.order)
    (ap (each (visit n edge n) (range zero n)) (cells_begin n)
    ∙ sym (each_visit_refines n edge n (range zero n) (λ x h. let p = ∈-range x zero n h in omega (arith, p)) (begin [])))

-- ---- the second walk

-- a store of v at each node of a list
paint_table : (n : ℕ) (f : ℕ → ℕ) (v : ℕ) (l : List ℕ) → ((y : ℕ) → y ∈ l → y < n) → paint v l (table n f) ≡ table n (λ y. cond (member y l) v (f y))
unfolding paint each member
paint_table n f v [] below = table_ext n f f (λ y h. refl)
paint_table n f v (x ∷ l) below =
    ap (paint v l) (ap (set (table n f) x) (sym here) ∙ table_set n f g x (below x (inl refl)) other)
    ∙ paint_table n g v l (λ y h. below y (inr h))
    ∙ table_ext n (λ y. cond (member y l) v (g y)) (λ y. cond (eqb y x || member y l) v (f y)) (λ y h. both (eqb y x) (member y l) (f y))
  where
    g : ℕ → ℕ
    g y = cond (eqb y x) v (f y)

    here : g x ≡ v
    here = ap (λ b. cond b v (f x)) (eq-eqb x x refl)

    other : (y : ℕ) → ¬ (y ≡ x) → f y ≡ g y
    other y ne = ap (λ b. cond b v (f y)) (sym (ne_eqb y x ne))

    both : (a b : Bool) (k : ℕ) → cond b v (cond a v k) ≡ cond (a || b) v k
    both true true k = refl
    both true false k = refl
    both false b k = refl

abbrev pub labelled : ℕ → List (List ℕ) → Labels
labelled n rs = record { visited = table n (λ y. member y (assigned rs)); region_of = table n (number rs); count = length rs }

label_refines : (n : ℕ) (edge : Edges) → Within n edge → (x : ℕ) (l : List ℕ) (rs : List (List ℕ)) → Ready n edge (x ∷ l) rs
    → labelled n (found n edge x rs) ≡ label n edge x (labelled n rs)
unfolding found label collect assigned number
label_refines n edge wi x l rs w =
    go (member x (assigned rs)) ∙ ap (λ c. cond c (labelled n rs) new) (sym (get_or_table n (λ y. member y (assigned rs)) x false lt))
  where
    lt : x < n
    lt = w.below x (inl refl)

    t : Trace
    t = explore n (flip edge) n x (begin (assigned rs))

    inv : Inv n (flip edge) (assigned rs) [] t
    inv = (collecting n edge wi x (assigned rs) lt).inv

    walk : Walk
    walk = Kosaraju.collect n edge x (table n (λ y. member y (assigned rs)))

    walk_is : cells n t ≡ walk
    walk_is = visit_refines n (flip edge) n x (begin (assigned rs)) lt

    new : Labels
    new = record { visited = walk.visited; region_of = paint (length rs) walk.order (table n (number rs)); count = suc (length rs) }

    -- the nodes that the walk entered are the new region and those that were entered before
    entered : (y : ℕ) → member y (t.finished ++ assigned rs) ≡ member y t.visited
    entered y =
        mem_same y (t.finished ++ assigned rs) t.visited
        (λ h. ⊎_elim (inv.of_finished y) (inv.of_base y) (∈-++ y t.finished (assigned rs) h))
        (λ h. ⊎_elim (∈-right y t.finished (assigned rs)) (⊎_elim absurd (∈-left y t.finished (assigned rs))) (inv.seen y h))

    painted : table n (λ y. cond (member y t.finished) (length rs) (number rs y)) ≡ paint (length rs) (reverse t.finished) (table n (number rs))
    painted =
        table_ext n _ (λ y. cond (member y (reverse t.finished)) (length rs) (number rs y))
        (λ y h. ap (λ b. cond b (length rs) (number rs y)) (mem_same y t.finished (reverse t.finished) (reverse-∈ y t.finished) (∈-reverse y t.finished)))
        ∙ sym (paint_table n (number rs) (length rs) (reverse t.finished) (λ y h. inv.below y (∈-reverse y t.finished h)))

    go : (b : Bool) → labelled n (cond b rs (t.finished ∷ rs)) ≡ cond b (labelled n rs) new
    go true = refl
    go false =
        ap₂ (λ v a. record { visited = v; region_of = a; count = suc (length rs) })
        (table_ext n (λ y. member y (t.finished ++ assigned rs)) (λ y. member y t.visited) (λ y h. entered y)) painted
        ∙ ap (λ u. record { visited = u.visited; region_of = paint (length rs) u.order (table n (number rs)); count = suc (length rs) }) walk_is

pub each_label_refines : (n : ℕ) (edge : Edges) → Within n edge → (l : List ℕ) (rs : List (List ℕ)) → Ready n edge l rs
    → labelled n (each (found n edge) l rs) ≡ each (label n edge) l (labelled n rs)
unfolding each
each_label_refines n edge wi [] rs w = refl
each_label_refines n edge wi (x ∷ l) rs w =
    each_label_refines n edge wi l (found n edge x rs) (readies n edge wi x l rs w) ∙ ap (each (label n edge) l) (label_refines n edge wi x l rs w)

pub labels_refines : (n : ℕ) (edge : Edges) → Within n edge → Ready n edge (explored n edge).finished [] → labels n edge ≡ labelled n (regions n edge)
unfolding labels regions assigned member number
labels_refines n edge wi w =
    ap (λ l. each (label n edge) l (unlabelled n)) (ap reverse (order_refines n edge) ∙ reverse-reverse (explored n edge).finished)
    ∙ ap₂ (λ v a. each (label n edge) (explored n edge).finished (record { visited = v; region_of = a; count = zero }))
    (table_replicate n (λ y. member y []) false (λ y. refl)) (table_replicate n (number []) zero (λ y. refl))
    ∙ sym (each_label_refines n edge wi (explored n edge).finished [] w)

-- a node's entry is its number
pub labelled_at : (n : ℕ) (rs : List (List ℕ)) (a : ℕ) → a < n → at (labelled n rs).region_of a ≡ number rs a
labelled_at n rs a lt = get_or_table n (number rs) a 0 lt
