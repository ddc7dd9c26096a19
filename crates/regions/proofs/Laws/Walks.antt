-- What `explore` does to the state of a walk. The proof follows the calls with two lists that the code does not have: `gray`, the nodes whose
-- calls are open, the innermost first, and `base`, the nodes that were visited before the walk began.
-- Assumes nothing.
use mathlib.Core.Path.{◌≡◌, refl, sym, subst}
use mathlib.Core.Bool.{Bool, true, false, cond}
use mathlib.Core.List.{List, [], ◌∷◌}
use mathlib.Core.Logic.{◌⊎◌, inl, inr, ⊎_elim}
use Prim.Native.Nat.{ℕ, zero, suc, ◌+◌, ◌≤◌, ◌<◌, zero-le}
use native.Mathlib.Omega.{arith}
use lib.ListN.{length}
use Rattle.tables.specs.Order.{member}
use Rattle.regions.specs.Graph.{range, each, Edges, Within, flip, next, Reach, here, step}
use Rattle.regions.proofs.Laws.Model.{Trace, enter, leave, begin, explore, explored}
use Rattle.regions.proofs.Laws.Lists.{◌∈◌, Nodup, mem-∈, mem-∉, member?, ∈-range, range-∈, ∈-filter, filter-∈, nodup_below}

-- ---- chains of edges

pub Reach·trans : {edge : Edges} {a b c : ℕ} → Reach edge a b → Reach edge b c → Reach edge a c
Reach·trans here q = q
Reach·trans (step e p) q = step e (Reach·trans p q)

pub Reach·flip : {edge : Edges} {a b : ℕ} → Reach (flip edge) a b → Reach edge b a
Reach·flip here = here
Reach·flip (step e p) = Reach·trans (Reach·flip p) (step e here)

pub Reach·same : {edge : Edges} {a b : ℕ} → a ≡ b → Reach edge a b
Reach·same {edge} {a} e = subst (λ (z : ℕ). Reach edge a z) e here

-- ---- the neighbours

pub ∈-next : (n : ℕ) (edge : Edges) (x b : ℕ) → b ∈ next n edge x → (b < n) × (edge x b ≡ true)
unfolding next
∈-next n edge x b h =
    let p = ∈-filter (edge x) b (range zero n) h in
    let q = ∈-range b zero n p.0 in
    (omega (arith, q), p.1)

pub next-∈ : (n : ℕ) (edge : Edges) (x b : ℕ) → b < n → edge x b ≡ true → b ∈ next n edge x
unfolding next
next-∈ n edge x b h e = filter-∈ (edge x) b (range zero n) (range-∈ b zero n zero-le (omega arith)) e

-- ---- the invariant

-- For each node z of the list and what stands after it, which was finished before z: an edge that leads out of these nodes leads to a node
-- of `base`, or to one that reaches z.
abbrev pub Ends : Edges → List ℕ → List ℕ → Type 0
Ends edge base [] = Unit {0}
Ends edge base (z ∷ l) = ((y b : ℕ) → y ∈ (z ∷ l) → edge y b ≡ true → (b ∈ base) ⊎ (b ∈ (z ∷ l)) ⊎ Reach edge b z) × Ends edge base l

pub record Inv (n : ℕ) (edge : Edges) (base gray : List ℕ) (s : Trace) : Type 0 where
  -- the visited nodes are those of the three lists, and a finished node is in neither of the other two
  pub seen : (y : ℕ) → y ∈ s.visited → (y ∈ base) ⊎ (y ∈ gray) ⊎ (y ∈ s.finished)
  pub of_base : (y : ℕ) → y ∈ base → y ∈ s.visited
  pub of_gray : (y : ℕ) → y ∈ gray → y ∈ s.visited
  pub of_finished : (y : ℕ) → y ∈ s.finished → y ∈ s.visited
  pub base_apart : (y : ℕ) → y ∈ base → ¬ (y ∈ s.finished)
  pub gray_apart : (y : ℕ) → y ∈ gray → ¬ (y ∈ s.finished)
  pub nodup : Nodup s.finished
  pub below : (y : ℕ) → y ∈ s.finished → y < n
  -- a finished node's neighbours are visited
  pub closed : (y b : ℕ) → y ∈ s.finished → edge y b ≡ true → b ∈ s.visited
  pub ends : Ends edge base s.finished

-- what the calls for the nodes `roots` do, from s to t
pub record Visits (n : ℕ) (edge : Edges) (base gray roots : List ℕ) (s t : Trace) : Type 0 where
  pub inv : Inv n edge base gray t
  pub kept : (y : ℕ) → y ∈ s.visited → y ∈ t.visited
  pub done : (y : ℕ) → y ∈ roots → y ∈ t.visited
  pub from : (y : ℕ) → y ∈ t.finished → (y ∈ s.finished) ⊎ ((r : ℕ) × (r ∈ roots) × Reach edge r y)

-- the open calls lead to x, and there is fuel for as many more as there are nodes left
pub record Stack (n : ℕ) (edge : Edges) (fuel : ℕ) (gray : List ℕ) (x : ℕ) : Type 0 where
  pub gray_nodup : Nodup gray
  pub gray_below : (g : ℕ) → g ∈ gray → g < n
  pub reaches : (g : ℕ) → g ∈ gray → Reach edge g x
  pub fueled : n ≤ fuel + length gray

module _ (n : ℕ) (edge : Edges) (base : List ℕ) where
  -- ---- the calls for a list of nodes, one after the other

  nothing : {gray : List ℕ} {s : Trace} → Inv n edge base gray s → Visits n edge base gray [] s s
  nothing i = record { inv = i; kept = λ y h. h; done = λ y h. absurd h; from = λ y h. inl h }

  both : {gray l : List ℕ} {x : ℕ} {s t u : Trace}
      → Visits n edge base gray (x ∷ []) s t → Visits n edge base gray l t u → Visits n edge base gray (x ∷ l) s u
  both {gray} {l} {x} {s} {t} {u} p q =
      record {
        inv = q.inv;
        kept = λ y h. q.kept y (p.kept y h);
        done = λ y h. ⊎_elim (λ e. q.kept y (p.done y (inl e))) (q.done y) h;
        from = λ y h. ⊎_elim (λ k. ⊎_elim inl (λ r. inr (first y r)) (p.from y k)) (λ r. inr (r.0, inr r.1, r.2)) (q.from y h);
      }
    where
      first : (y : ℕ) → ((r : ℕ) × (r ∈ (x ∷ [])) × Reach edge r y) → (r : ℕ) × (r ∈ (x ∷ l)) × Reach edge r y
      first y r = (r.0, ⊎_elim inl absurd r.1, r.2)

  pub each_visits : (f : ℕ → Trace → Trace) (gray l : List ℕ)
      → ((x : ℕ) → x ∈ l → (s : Trace) → Inv n edge base gray s → Visits n edge base gray (x ∷ []) s (f x s))
      → (s : Trace) → Inv n edge base gray s → Visits n edge base gray l s (each f l s)
  unfolding each
  each_visits f gray [] c s i = nothing i
  each_visits f gray (x ∷ l) c s i =
      let p = c x (inl refl) s i in
      both p (each_visits f gray l (λ y h. c y (inr h)) (f x s) p.inv)

  -- ---- one call

  stay : {gray : List ℕ} {x : ℕ} {s : Trace} → x ∈ s.visited → Inv n edge base gray s → Visits n edge base gray (x ∷ []) s s
  stay {gray} {x} {s} h i =
      record {
        inv = i;
        kept = λ y k. k;
        done = λ y k. ⊎_elim (λ e. subst (λ (z : ℕ). z ∈ s.visited) (sym e) h) absurd k;
        from = λ y k. inl k;
      }

  pub enters : {gray : List ℕ} {x : ℕ} {s : Trace} → ¬ (x ∈ s.visited) → Inv n edge base gray s → Inv n edge base (x ∷ gray) (enter x s)
  enters {gray} {x} {s} new i =
      record {
        seen = λ y h. ⊎_elim (λ e. inr (inl (inl e))) (λ k. ⊎_elim inl (λ m. inr (⊎_elim (λ g. inl (inr g)) inr m)) (i.seen y k)) h;
        of_base = λ y h. inr (i.of_base y h);
        of_gray = λ y h. ⊎_elim inl (λ g. inr (i.of_gray y g)) h;
        of_finished = λ y h. inr (i.of_finished y h);
        base_apart = i.base_apart;
        gray_apart = λ y h k. ⊎_elim (λ e. new (subst (λ (z : ℕ). z ∈ s.visited) e (i.of_finished y k))) (λ g. i.gray_apart y g k) h;
        nodup = i.nodup;
        below = i.below;
        closed = λ y b h e. inr (i.closed y b h e);
        ends = i.ends;
      }

  leaves : {gray : List ℕ} {x : ℕ} {s : Trace} → x < n → ¬ (x ∈ base) → ¬ (x ∈ gray)
      → ((b : ℕ) → edge x b ≡ true → b ∈ s.visited) → ((g : ℕ) → g ∈ gray → Reach edge g x)
      → Inv n edge base (x ∷ gray) s → Inv n edge base gray (leave x s)
  leaves {gray} {x} {s} lt nb ng succ up i =
      record {
        seen = λ y h. ⊎_elim inl (λ m. inr (⊎_elim (λ g. ⊎_elim (λ e. inr (inl e)) inl g) (λ f. inr (inr f)) m)) (i.seen y h);
        of_base = i.of_base;
        of_gray = λ y h. i.of_gray y (inr h);
        of_finished = λ y h. ⊎_elim (λ e. i.of_gray y (inl e)) (i.of_finished y) h;
        base_apart = λ y h k. ⊎_elim (λ e. nb (subst (λ (z : ℕ). z ∈ base) e h)) (i.base_apart y h) k;
        gray_apart = λ y h k. ⊎_elim (λ e. ng (subst (λ (z : ℕ). z ∈ gray) e h)) (i.gray_apart y (inr h)) k;
        nodup = (i.gray_apart x (inl refl), i.nodup);
        below = λ y h. ⊎_elim (λ e. subst (λ (z : ℕ). z < n) (sym e) lt) (i.below y) h;
        closed = shut;
        ends = (λ y b h e. place b (i.seen b (shut y b h e)), i.ends);
      }
    where
      shut : (y b : ℕ) → y ∈ (x ∷ s.finished) → edge y b ≡ true → b ∈ s.visited
      shut y b h e = ⊎_elim (λ q. succ b (subst (λ (z : ℕ). edge z b ≡ true) q e)) (λ k. i.closed y b k e) h

      place : (b : ℕ) → (b ∈ base) ⊎ (b ∈ (x ∷ gray)) ⊎ (b ∈ s.finished) → (b ∈ base) ⊎ (b ∈ (x ∷ s.finished)) ⊎ Reach edge b x
      place b (inl h) = inl h
      place b (inr (inl (inl e))) = inr (inl (inl e))
      place b (inr (inl (inr g))) = inr (inr (up b g))
      place b (inr (inr f)) = inr (inl (inr f))

  -- x is entered, what t does is done, and x is left
  opens : {gray : List ℕ} {x : ℕ} {s t : Trace} → Within n edge → x < n → ¬ (x ∈ s.visited) → Inv n edge base gray s
      → ((g : ℕ) → g ∈ gray → Reach edge g x) → Visits n edge base (x ∷ gray) (next n edge x) (enter x s) t
      → Visits n edge base gray (x ∷ []) s (leave x t)
  opens {gray} {x} {s} {t} wi lt new i up v =
      record {
        inv = leaves lt (λ h. new (i.of_base x h)) (λ h. new (i.of_gray x h)) (λ b e. v.done b (next-∈ n edge x b (wi x b e).1 e)) up v.inv;
        kept = λ y h. v.kept y (inr h);
        done = λ y h. ⊎_elim (λ e. v.inv.of_gray y (inl e)) absurd h;
        from = λ y h. ⊎_elim (λ e. inr (x, inl refl, Reach·same (sym e))) (λ k. ⊎_elim inl (λ r. inr (via y r)) (v.from y k)) h;
      }
    where
      via : (y : ℕ) → ((r : ℕ) × (r ∈ next n edge x) × Reach edge r y) → (r : ℕ) × (r ∈ (x ∷ [])) × Reach edge r y
      via y r = (x, inl refl, step (∈-next n edge x r.0 r.1).1 r.2)

  -- a node that is not visited is not on the stack, so the stack has room for it
  pub room : {gray : List ℕ} {x : ℕ} {fuel : ℕ} → x < n → ¬ (x ∈ gray) → Stack n edge fuel gray x → suc (length gray) ≤ n
  room {gray} {x} lt new k =
      nodup_below n (x ∷ gray) (new, k.gray_nodup) (λ y h. ⊎_elim (λ e. subst (λ (z : ℕ). z < n) (sym e) lt) (k.gray_below y) h)

  pub pushes : {gray : List ℕ} {x b fuel : ℕ} → x < n → ¬ (x ∈ gray) → edge x b ≡ true → Stack n edge (suc fuel) gray x → Stack n edge fuel (x ∷ gray) b
  pushes {gray} {x} {b} {fuel} lt new e k =
      record {
        gray_nodup = (new, k.gray_nodup);
        gray_below = λ g h. ⊎_elim (λ q. subst (λ (z : ℕ). z < n) (sym q) lt) (k.gray_below g) h;
        reaches = λ g h. ⊎_elim (λ q. step (subst (λ (z : ℕ). edge z b ≡ true) (sym q) e) here) (λ m. Reach·trans (k.reaches g m) (step e here)) h;
        fueled = let f = k.fueled in omega (arith, f);
      }

  pub visits : Within n edge → (fuel x : ℕ) (gray : List ℕ) (s : Trace) → x < n → Stack n edge fuel gray x
      → Inv n edge base gray s → Visits n edge base gray (x ∷ []) s (explore n edge fuel x s)
  unfolding explore
  visits wi zero x gray s lt k i = go (member? x s.visited)
    where
      go : (x ∈ s.visited) ⊎ (¬ (x ∈ s.visited)) → Visits n edge base gray (x ∷ []) s s
      go (inl h) = stay h i
      go (inr new) =
          let r = room lt (λ h. new (i.of_gray x h)) k in
          let f = k.fueled in
          absurd (omega (arith, r, f))
  visits wi (suc fuel) x gray s lt k i = go (member x s.visited) refl (visits wi fuel)
    where
      go : (b : Bool) → member x s.visited ≡ b
          → ((y : ℕ) (gray : List ℕ) (s : Trace) → y < n → Stack n edge fuel gray y → Inv n edge base gray s → Visits n edge base gray (y ∷ []) s (explore n edge fuel y s))
          → Visits n edge base gray (x ∷ []) s (cond b s (leave x (each (λ k t. explore n edge fuel k t) (next n edge x) (enter x s))))
      go true q ih = stay (mem-∈ x s.visited q) i
      go false q ih =
          let new = mem-∉ x s.visited q in
          opens wi lt new i k.reaches
          (each_visits (λ k t. explore n edge fuel k t) (x ∷ gray) (next n edge x)
          (λ b h t j. let p = ∈-next n edge x b h in ih b (x ∷ gray) t p.0 (pushes lt (λ g. new (i.of_gray x g)) p.1 k) j)
          (enter x s) (enters new i))

-- ---- a walk that begins with no open call

-- before the walk: the nodes of `base` are visited, and none is finished
pub starts : (n : ℕ) (edge : Edges) (base : List ℕ) → Inv n edge base [] (begin base)
starts n edge base =
    record {
      seen = λ y h. inl h;
      of_base = λ y h. h;
      of_gray = λ y h. absurd h;
      of_finished = λ y h. absurd h;
      base_apart = λ y h k. k;
      gray_apart = λ y h k. k;
      nodup = tt;
      below = λ y h. absurd h;
      closed = λ y b h e. absurd h;
      ends = tt;
    }

pub unstacked : (n : ℕ) (edge : Edges) (x : ℕ) → Stack n edge n [] x
unstacked n edge x = record { gray_nodup = tt; gray_below = λ g h. absurd h; reaches = λ g h. absurd h; fueled = omega arith }

-- the first walk
pub walked : (n : ℕ) (edge : Edges) → Within n edge → Visits n edge [] [] (range zero n) (begin []) (explored n edge)
unfolding explored
walked n edge wi =
    each_visits n edge [] (explore n edge n) [] (range zero n)
    (λ x h s i. let p = ∈-range x zero n h in visits n edge [] wi n x [] s (omega (arith, p)) (unstacked n edge x) i)
    (begin []) (starts n edge [])
