-- The second walk: each list that it finds is a whole strongly connected component, and no edge leads from a later one back to an earlier one.
-- Assumes nothing.
use mathlib.Core.Path.{◌≡◌, refl, sym, ap, ◌∙◌, subst}
use mathlib.Core.Bool.{Bool, true, false, cond}
use mathlib.Core.List.{List, [], ◌∷◌, ◌++◌}
use mathlib.Core.Logic.{◌⊎◌, inl, inr, ⊎_elim}
use Prim.Native.Nat.{ℕ, suc, ◌≤◌, ◌<◌, zero-le}
use native.Mathlib.Nat.{eq-or-lt_of_le, le_of_suc-le-suc, not-suc-le-zero}
use native.Mathlib.Omega.{arith}
use lib.ListN.{length}
use Rattle.tables.specs.Order.{member}
use Rattle.regions.specs.Graph.{each, Edges, Within, flip, Reach, here, step, Both}
use Rattle.regions.proofs.Laws.Model.{begin, explore, assigned, collect, found, number}
use Rattle.regions.proofs.Laws.Lists.{◌∈◌, Nodup, mem-∈, mem-∉, ∈-mem, ∉-mem, member?, ∈-++, ∈-left, ∈-right, nodup_below}
use Rattle.regions.proofs.Laws.Walks.{Reach·trans, Reach·flip, Reach·same, Ends, Visits, visits, starts, unstacked}

-- each node from which an edge leads into the list is in the list
abbrev pub Closed : Edges → List ℕ → Type 0
Closed edge v = (a b : ℕ) → edge a b ≡ true → b ∈ v → a ∈ v

closed_back : {edge : Edges} (v : List ℕ) → Closed edge v → {a b : ℕ} → Reach edge a b → b ∈ v → a ∈ v
closed_back v c here h = h
closed_back v c (step {a} {b} e p) h = c a b e (closed_back v c p h)

reach_below : {n : ℕ} {edge : Edges} → Within n edge → {a b : ℕ} → Reach edge a b → b < n → a < n
reach_below wi here h = h
reach_below wi (step {a} {b} e p) h = (wi a b e).0

-- ---- one region

-- what the walk against the edges from x collects, where the nodes `old` have a region
record Collected (n : ℕ) (edge : Edges) (x : ℕ) (old r : List ℕ) : Type 0 where
  root : x ∈ r
  back : (y : ℕ) → y ∈ r → Reach edge y x
  apart : (y : ℕ) → y ∈ r → ¬ (y ∈ old)
  below : (y : ℕ) → y ∈ r → y < n
  preds : (a b : ℕ) → edge a b ≡ true → b ∈ r → (a ∈ r) ⊎ (a ∈ old)

pub collecting : (n : ℕ) (edge : Edges) → Within n edge → (x : ℕ) (old : List ℕ) → x < n
    → Visits n (flip edge) old [] (x ∷ []) (begin old) (explore n (flip edge) n x (begin old))
collecting n edge wi x old lt =
    visits n (flip edge) old (λ a b e. ((wi b a e).1, (wi b a e).0)) n x [] (begin old) lt (unstacked n (flip edge) x) (starts n (flip edge) old)

collects : (n : ℕ) (edge : Edges) → Within n edge → (x : ℕ) (old : List ℕ) → x < n → ¬ (x ∈ old) → Collected n edge x old (collect n edge x old)
unfolding collect
collects n edge wi x old lt new =
    let v = collecting n edge wi x old lt in
    let i = v.inv in
    record {
      root = ⊎_elim (λ h. absurd (new h)) (⊎_elim absurd (λ h. h)) (i.seen x (v.done x (inl refl)));
      back = λ y h. ⊎_elim absurd (λ r. Reach·flip (subst (λ (z : ℕ). Reach (flip edge) z y) (⊎_elim (λ e. e) absurd r.1) r.2)) (v.from y h);
      apart = λ y h k. i.base_apart y k h;
      below = i.below;
      preds = λ a b e h. ⊎_elim inr (⊎_elim absurd inl) (i.seen a (i.closed b a h e));
    }

-- a chain of edges that begins in the list ends in it, or leaves it by some edge v → w
exit : {edge : Edges} (m : List ℕ) {u x : ℕ} → Reach edge u x → u ∈ m
    → (x ∈ m) ⊎ ((v w : ℕ) × (v ∈ m) × (¬ (w ∈ m)) × (edge v w ≡ true) × Reach edge u w × Reach edge w x)
exit m here h = inl h
exit {edge} m (step {a} {b} {c} e p) h = go (member? b m) (exit m p)
  where
    go : (b ∈ m) ⊎ (¬ (b ∈ m)) → (b ∈ m → (c ∈ m) ⊎ ((v w : ℕ) × (v ∈ m) × (¬ (w ∈ m)) × (edge v w ≡ true) × Reach edge b w × Reach edge w c))
        → (c ∈ m) ⊎ ((v w : ℕ) × (v ∈ m) × (¬ (w ∈ m)) × (edge v w ≡ true) × Reach edge a w × Reach edge w c)
    go (inl k) ih = ⊎_elim inl (λ r. inr (r.0, r.1, r.2, r.3, r.4, step e r.5, r.6)) (ih k)
    go (inr k) ih = inr (a, b, h, k, e, step e here, p)

-- Let x be finished after all nodes of m, and each node without a region that reaches x be in m or reached from x. Then all of them are
-- reached from x: the last finished node y of m has a chain to x, which leaves m by an edge to some w; w reaches y, and x reaches w.
reached : {edge : Edges} {x : ℕ} (old : List ℕ) → Closed edge old → (m : List ℕ) → Ends edge [] m → ¬ (x ∈ m)
    → ((b : ℕ) → ¬ (b ∈ old) → Reach edge b x → (b ∈ m) ⊎ Reach edge x b)
    → (b : ℕ) → ¬ (b ∈ old) → Reach edge b x → Reach edge x b
reached old c [] en nx known = λ b nb p. ⊎_elim absurd (λ r. r) (known b nb p)
reached {edge} {x} old c (y ∷ m) en nx known = reached old c m en.1 (λ h. nx (inr h)) known'
  where
    top : (b : ℕ) → b ≡ y → ¬ (b ∈ old) → Reach edge b x → Reach edge x b
    top b e nb p = ⊎_elim (λ h. absurd (nx h)) leaving (exit (y ∷ m) p (inl e))
      where
        leaving : ((v w : ℕ) × (v ∈ (y ∷ m)) × (¬ (w ∈ (y ∷ m))) × (edge v w ≡ true) × Reach edge b w × Reach edge w x) → Reach edge x b
        leaving r =
            let w = r.1 in
            let from-x : Reach edge x w = ⊎_elim (λ h. absurd (r.3 h)) (λ q. q) (known w (λ h. nb (closed_back old c r.5 h)) r.6) in
            let to-y : Reach edge w y = ⊎_elim absurd (⊎_elim (λ h. absurd (r.3 h)) (λ q. q)) (en.0 r.0 w r.2 r.4) in
            Reach·trans from-x (Reach·trans to-y (Reach·same (sym e)))

    known' : (b : ℕ) → ¬ (b ∈ old) → Reach edge b x → (b ∈ m) ⊎ Reach edge x b
    known' b nb p = ⊎_elim (λ h. ⊎_elim (λ e. inr (top b e nb p)) inl h) inr (known b nb p)

-- ---- the regions

-- the region r, found after the regions rs: the nodes that reach its root and are reached from it
pub record Component (n : ℕ) (edge : Edges) (r : List ℕ) (rs : List (List ℕ)) : Type 0 where
  pub root : ℕ
  pub new : ¬ (root ∈ assigned rs)
  pub below : (y : ℕ) → y ∈ r → y < n
  pub sound : (y : ℕ) → y ∈ r → Both edge root y
  pub whole : (y : ℕ) → Both edge root y → y ∈ r
  pub closed : Closed edge (assigned rs)

abbrev pub Components : ℕ → Edges → List (List ℕ) → Type 0
Components n edge [] = Unit {0}
Components n edge (r ∷ rs) = Component n edge r rs × Components n edge rs

component : (n : ℕ) (edge : Edges) → Within n edge → (x : ℕ) (l : List ℕ) (rs : List (List ℕ)) → x < n → ¬ (x ∈ assigned rs)
    → Ends edge [] l → ¬ (x ∈ l) → ((y : ℕ) → y < n → (y ∈ (x ∷ l)) ⊎ (y ∈ assigned rs)) → Closed edge (assigned rs)
    → Component n edge (collect n edge x (assigned rs)) rs
component n edge wi x l rs lt new en nx cover cl =
    record {
      root = x;
      new = new;
      below = k.below;
      sound = λ y h. (reached (assigned rs) cl l en nx known y (k.apart y h) (k.back y h), k.back y h);
      whole = λ y p. ⊎_elim (λ h. h) (λ h. absurd (new (closed_back (assigned rs) cl p.0 h))) (pulled p.1 (inl k.root));
      closed = cl;
    }
  where
    k : Collected n edge x (assigned rs) (collect n edge x (assigned rs))
    k = collects n edge wi x (assigned rs) lt new

    known : (b : ℕ) → ¬ (b ∈ assigned rs) → Reach edge b x → (b ∈ l) ⊎ Reach edge x b
    known b nb p = ⊎_elim (λ h. ⊎_elim (λ e. inr (Reach·same (sym e))) inl h) (λ h. absurd (nb h)) (cover b (reach_below wi p lt))

    pulled : {a b : ℕ} → Reach edge a b → (b ∈ collect n edge x (assigned rs)) ⊎ (b ∈ assigned rs) → (a ∈ collect n edge x (assigned rs)) ⊎ (a ∈ assigned rs)
    pulled here h = h
    pulled (step {a} {b} e p) h = ⊎_elim (k.preds a b e) (λ q. inr (cl a b e q)) (pulled p h)

closed_assigned : {n : ℕ} {edge : Edges} {x : ℕ} (r : List ℕ) (rs : List (List ℕ)) → Collected n edge x (assigned rs) r → Closed edge (assigned rs) → Closed edge (assigned (r ∷ rs))
unfolding assigned
closed_assigned r rs k cl a b e h =
    ⊎_elim (λ p. ⊎_elim (∈-left a r (assigned rs)) (∈-right a r (assigned rs)) (k.preds a b e p)) (λ p. ∈-right a r (assigned rs) (cl a b e p)) (∈-++ b r (assigned rs) h)

-- the second walk between two nodes: l are the nodes to come, rs the regions found so far
pub record Ready (n : ℕ) (edge : Edges) (l : List ℕ) (rs : List (List ℕ)) : Type 0 where
  pub ends : Ends edge [] l
  pub nodup : Nodup l
  pub below : (y : ℕ) → y ∈ l → y < n
  pub cover : (y : ℕ) → y < n → (y ∈ l) ⊎ (y ∈ assigned rs)
  pub closed : Closed edge (assigned rs)
  pub components : Components n edge rs

pub readies : (n : ℕ) (edge : Edges) → Within n edge → (x : ℕ) (l : List ℕ) (rs : List (List ℕ)) → Ready n edge (x ∷ l) rs → Ready n edge l (found n edge x rs)
unfolding found assigned
readies n edge wi x l rs w = go (member x (assigned rs)) refl
  where
    goes : (rs' : List (List ℕ)) → ((y : ℕ) → (y ≡ x) ⊎ (y ∈ assigned rs) → y ∈ assigned rs') → Closed edge (assigned rs') → Components n edge rs' → Ready n edge l rs'
    goes rs' into cl cs =
        record {
          ends = w.ends.1;
          nodup = w.nodup.1;
          below = λ y h. w.below y (inr h);
          cover = λ y h. ⊎_elim (λ k. ⊎_elim (λ e. inr (into y (inl e))) inl k) (λ k. inr (into y (inr k))) (w.cover y h);
          closed = cl;
          components = cs;
        }

    go : (b : Bool) → member x (assigned rs) ≡ b → Ready n edge l (cond b rs (collect n edge x (assigned rs) ∷ rs))
    go true q = goes rs (λ y h. ⊎_elim (λ e. subst (λ (z : ℕ). z ∈ assigned rs) (sym e) (mem-∈ x (assigned rs) q)) (λ k. k) h) w.closed w.components
    go false q =
        let lt = w.below x (inl refl) in
        let new = mem-∉ x (assigned rs) q in
        let r = collect n edge x (assigned rs) in
        let k = collects n edge wi x (assigned rs) lt new in
        goes (r ∷ rs)
        (λ y h. ⊎_elim (λ e. ∈-left y r (assigned rs) (subst (λ (z : ℕ). z ∈ r) (sym e) k.root)) (∈-right y r (assigned rs)) h)
        (closed_assigned r rs k w.closed)
        (component n edge wi x l rs lt new w.ends.1 w.nodup.0 w.cover w.closed, w.components)

pub parts : (n : ℕ) (edge : Edges) → Within n edge → (l : List ℕ) (rs : List (List ℕ)) → Ready n edge l rs → Ready n edge [] (each (found n edge) l rs)
unfolding each
parts n edge wi [] rs w = w
parts n edge wi (x ∷ l) rs w = parts n edge wi l (found n edge x rs) (readies n edge wi x l rs w)

-- there are no more regions than nodes, and fewer while a node has none: their roots are distinct
roots : (n : ℕ) (edge : Edges) (rs : List (List ℕ)) → Components n edge rs → List ℕ
roots n edge [] cs = []
roots n edge (r ∷ rs) cs = cs.0.root ∷ roots n edge rs cs.1

length_roots : (n : ℕ) (edge : Edges) (rs : List (List ℕ)) (cs : Components n edge rs) → length (roots n edge rs cs) ≡ length rs
unfolding roots
length_roots n edge [] cs = refl
length_roots n edge (r ∷ rs) cs = ap suc (length_roots n edge rs cs.1)

roots_assigned : (n : ℕ) (edge : Edges) (rs : List (List ℕ)) (cs : Components n edge rs) (y : ℕ) → y ∈ roots n edge rs cs → y ∈ assigned rs
unfolding roots assigned
roots_assigned n edge [] cs y h = absurd h
roots_assigned n edge (r ∷ rs) cs y (inl e) = ∈-left y r (assigned rs) (subst (λ (z : ℕ). z ∈ r) (sym e) (cs.0.whole cs.0.root (here, here)))
roots_assigned n edge (r ∷ rs) cs y (inr h) = ∈-right y r (assigned rs) (roots_assigned n edge rs cs.1 y h)

nodup_roots : (n : ℕ) (edge : Edges) (rs : List (List ℕ)) (cs : Components n edge rs) → Nodup (roots n edge rs cs)
unfolding roots
nodup_roots n edge [] cs = tt
nodup_roots n edge (r ∷ rs) cs = (λ h. cs.0.new (roots_assigned n edge rs cs.1 cs.0.root h), nodup_roots n edge rs cs.1)

assigned_below : (n : ℕ) (edge : Edges) (rs : List (List ℕ)) → Components n edge rs → (y : ℕ) → y ∈ assigned rs → y < n
unfolding assigned
assigned_below n edge [] cs y h = absurd h
assigned_below n edge (r ∷ rs) cs y h = ⊎_elim (cs.0.below y) (assigned_below n edge rs cs.1 y) (∈-++ y r (assigned rs) h)

pub regions_le : (n : ℕ) (edge : Edges) (rs : List (List ℕ)) → Components n edge rs → length rs ≤ n
regions_le n edge rs cs =
    subst (λ (k : ℕ). k ≤ n) (length_roots n edge rs cs)
    (nodup_below n (roots n edge rs cs) (nodup_roots n edge rs cs) (λ y h. assigned_below n edge rs cs y (roots_assigned n edge rs cs y h)))

-- ---- the numbers

pub number_in : (r : List ℕ) (rs : List (List ℕ)) (a : ℕ) → a ∈ r → number (r ∷ rs) a ≡ length rs
unfolding number
number_in r rs a h = ap (λ b. cond b (length rs) (number rs a)) (∈-mem a r h)

pub number_out : (r : List ℕ) (rs : List (List ℕ)) (a : ℕ) → ¬ (a ∈ r) → number (r ∷ rs) a ≡ number rs a
unfolding number
number_out r rs a h = ap (λ b. cond b (length rs) (number rs a)) (∉-mem a r h)

-- where a stands: in the last region, or in one of the others
data Place (r : List ℕ) (rs : List (List ℕ)) (a : ℕ) : Type 0 where
  last : a ∈ r → number (r ∷ rs) a ≡ length rs → Place r rs a
  other : ¬ (a ∈ r) → number (r ∷ rs) a ≡ number rs a → Place r rs a

place : (r : List ℕ) (rs : List (List ℕ)) (a : ℕ) → Place r rs a
place r rs a = ⊎_elim (λ h. last h (number_in r rs a h)) (λ h. other h (number_out r rs a h)) (member? a r)

rest : (r : List ℕ) (rs : List (List ℕ)) (a : ℕ) → a ∈ assigned (r ∷ rs) → ¬ (a ∈ r) → a ∈ assigned rs
unfolding assigned
rest r rs a h k = ⊎_elim (λ p. absurd (k p)) (λ p. p) (∈-++ a r (assigned rs) h)

-- no node of an earlier region is in a later one
disjoint : {n : ℕ} {edge : Edges} (r : List ℕ) (rs : List (List ℕ)) → Component n edge r rs → (a : ℕ) → a ∈ assigned rs → ¬ (a ∈ r)
disjoint r rs c a h k = c.new (closed_back (assigned rs) c.closed (c.sound a k).0 h)

pub number_le : (rs : List (List ℕ)) (a : ℕ) → number rs a ≤ length rs
unfolding number
number_le [] a = zero-le
number_le (r ∷ rs) a = go (place r rs a) (number_le rs a)
  where
    go : Place r rs a → number rs a ≤ length rs → number (r ∷ rs) a ≤ suc (length rs)
    go (last h e) ih = omega (arith, e)
    go (other h e) ih = omega (arith, e, ih)

pub number_lt : (rs : List (List ℕ)) (a : ℕ) → a ∈ assigned rs → number rs a < length rs
unfolding assigned
number_lt [] a h = absurd h
number_lt (r ∷ rs) a h = go (place r rs a) (number_lt rs a)
  where
    go : Place r rs a → (a ∈ assigned rs → number rs a < length rs) → number (r ∷ rs) a < suc (length rs)
    go (last k e) ih = omega (arith, e)
    go (other k e) ih = let p = ih (rest r rs a h k) in omega (arith, e, p)

pub same→both : (n : ℕ) (edge : Edges) (rs : List (List ℕ)) → Components n edge rs → (a b : ℕ) → a ∈ assigned rs → b ∈ assigned rs
    → number rs a ≡ number rs b → Both edge a b
unfolding assigned
same→both n edge [] cs a b ha hb e = absurd ha
same→both n edge (r ∷ rs) cs a b ha hb e = go (place r rs a) (place r rs b) (same→both n edge rs cs.1 a b)
  where
    go : Place r rs a → Place r rs b → (a ∈ assigned rs → b ∈ assigned rs → number rs a ≡ number rs b → Both edge a b) → Both edge a b
    go (last ka ea) (last kb eb) ih =
        let p = cs.0.sound a ka in
        let q = cs.0.sound b kb in
        (Reach·trans p.1 q.0, Reach·trans q.1 p.0)
    go (last ka ea) (other kb eb) ih = let p = number_lt rs b (rest r rs b hb kb) in absurd (omega (arith, e, ea, eb, p))
    go (other ka ea) (last kb eb) ih = let p = number_lt rs a (rest r rs a ha ka) in absurd (omega (arith, e, ea, eb, p))
    go (other ka ea) (other kb eb) ih = ih (rest r rs a ha ka) (rest r rs b hb kb) (sym ea ∙ e ∙ eb)

pub both→same : (n : ℕ) (edge : Edges) (rs : List (List ℕ)) → Components n edge rs → (a b : ℕ) → Both edge a b → number rs a ≡ number rs b
unfolding number
both→same n edge [] cs a b p = refl
both→same n edge (r ∷ rs) cs a b p = go (place r rs a) (place r rs b) (both→same n edge rs cs.1 a b p)
  where
    joins : (y z : ℕ) → Both edge y z → y ∈ r → z ∈ r
    joins y z q h = let k = cs.0.sound y h in cs.0.whole z (Reach·trans k.0 q.0, Reach·trans q.1 k.1)

    go : Place r rs a → Place r rs b → number rs a ≡ number rs b → number (r ∷ rs) a ≡ number (r ∷ rs) b
    go (last ka ea) (last kb eb) ih = ea ∙ sym eb
    go (last ka ea) (other kb eb) ih = absurd (kb (joins a b p ka))
    go (other ka ea) (last kb eb) ih = absurd (ka (joins b a (p.1, p.0) kb))
    go (other ka ea) (other kb eb) ih = ea ∙ ih ∙ sym eb

pub number_onto : (n : ℕ) (edge : Edges) (rs : List (List ℕ)) → Components n edge rs → (k : ℕ) → k < length rs
    → (a : ℕ) × (a < n) × (a ∈ assigned rs) × (number rs a ≡ k)
unfolding assigned
number_onto n edge [] cs k h = absurd (not-suc-le-zero h)
number_onto n edge (r ∷ rs) cs k h = go (eq-or-lt_of_le (le_of_suc-le-suc h)) (number_onto n edge rs cs.1 k)
  where
    go : (k ≡ length rs) ⊎ (k < length rs) → (k < length rs → (a : ℕ) × (a < n) × (a ∈ assigned rs) × (number rs a ≡ k))
        → (a : ℕ) × (a < n) × (a ∈ (r ++ assigned rs)) × (number (r ∷ rs) a ≡ k)
    go (inl e) ih =
        let x = cs.0.root in
        let m = cs.0.whole x (here, here) in
        (x, cs.0.below x m, ∈-left x r (assigned rs) m, number_in r rs x m ∙ sym e)
    go (inr l) ih =
        let p = ih l in
        (p.0, p.1, ∈-right p.0 r (assigned rs) p.2, number_out r rs p.0 (disjoint r rs cs.0 p.0 p.2) ∙ p.3)

pub number_rises : (n : ℕ) (edge : Edges) (rs : List (List ℕ)) → Components n edge rs → (a b : ℕ) → edge a b ≡ true → b ∈ assigned rs
    → number rs a ≤ number rs b
unfolding assigned number
number_rises n edge [] cs a b e h = zero-le
number_rises n edge (r ∷ rs) cs a b e h = go (place r rs a) (place r rs b) (number_rises n edge rs cs.1 a b e)
  where
    go : Place r rs a → Place r rs b → (b ∈ assigned rs → number rs a ≤ number rs b) → number (r ∷ rs) a ≤ number (r ∷ rs) b
    go (last ka ea) (last kb eb) ih = omega (arith, ea, eb)
    go (other ka ea) (last kb eb) ih = let p = number_le rs a in omega (arith, ea, eb, p)
    go (last ka ea) (other kb eb) ih = absurd (disjoint r rs cs.0 a (cs.0.closed a b e (rest r rs b h kb)) ka)
    go (other ka ea) (other kb eb) ih = let p = ih (rest r rs b h kb) in omega (arith, ea, eb, p)
