-- A node put into the queue: what stays, and what is new.
-- Assumes nothing.
use Prim.Native.Nat.{ℕ, zero, suc, ◌<◌}
use mathlib.Core.Path.{◌≡◌, refl, sym, ap, ◌∙◌}
use mathlib.Core.List.{List, [], ◌∷◌}
use mathlib.Core.Logic.{◌⊎◌, inl, inr, ⊎_elim}
use native.Mathlib.Omega.{arith}
use borrow.Author.Tests.{eq-eqb, ne_eqb}
use lib.ListN.{length, set, replicate, length-set, get_or-eq_default}
use lib.Seq.{get_or-set_same, get_or-set_other}
use Rattle.tables.specs.Laws.{same?, order?}
use Rattle.regions.specs.Graph.{at}
use Rattle.trail.specs.Waves.{zeros, Queue, level_at}

-- ---- places

-- a place that holds something is a place of the list
pub held : (l : List ℕ) (x : ℕ) → 0 < at l x → x < length l
held l x h = ⊎_elim (λ le. absurd (let e : at l x ≡ 0 = get_or-eq_default l 0 le in omega arith)) (λ lt. lt) (order? (length l) x)

-- a place after a store
pub look : (l : List ℕ) (i v j : ℕ) → i < length l
    → ((j ≡ i) × (at (set l i v) j ≡ v)) ⊎ ((j ≡ i → ⊥) × (at (set l i v) j ≡ at l j))
look l i v j h =
    ⊎_elim
    (λ e. inl (e, ap (at (set l i v)) e ∙ get_or-set_same l i v 0 h))
    (λ ne. inr (ne, get_or-set_other l i j v 0 ne))
    (same? j i)

-- ---- how many nodes have no level

pub zeros_none : (n : ℕ) → zeros (replicate n 0) ≡ n
unfolding zeros
zeros_none zero = refl
zeros_none (suc n) = let h = zeros_none n in omega (arith, h)

pub zeros_set : (l : List ℕ) (x v : ℕ) → x < length l → at l x ≡ 0 → 0 < v → suc (zeros (set l x v)) ≡ zeros l
unfolding zeros
zeros_set [] x v h e p = absurd (omega arith)
zeros_set (a ∷ l) zero v h e p = rw (eq-eqb a 0 e, ne_eqb v 0 (λ q. omega arith)) (omega arith)
zeros_set (a ∷ l) (suc x) v h e p = let r = zeros_set l x v (omega arith) e p in omega (arith, r)

pub zeros_some : (l : List ℕ) (x : ℕ) → x < length l → at l x ≡ 0 → 0 < zeros l
zeros_some l x h e = let r = zeros_set l x 1 h e (omega arith) in omega (arith, r)

-- ---- one more in the queue

module _ {n : ℕ} {levels queue : List ℕ} {tail : ℕ} (q : Queue n levels queue tail) (x v : ℕ) (inside : x < n) (new : at levels x ≡ 0) (some : 0 < v) where
  pub tail_room : tail < length queue
  tail_room = let e = q.levels_long in let z = zeros_some levels x (omega arith) new in let c = q.count in let r = q.room in omega (arith, z, c, r)

  x_place : x < length levels
  x_place = let e = q.levels_long in omega arith

  -- a node that has a level keeps it
  pub keeps : (y : ℕ) → 0 < at levels y → at (set levels x v) y ≡ at levels y
  keeps y h = get_or-set_other levels x y v 0 (λ e. let f : at levels y ≡ at levels x = ap (at levels) e in omega arith)

  pub queue_old : (i : ℕ) → i < tail → at (set queue tail x) i ≡ at queue i
  queue_old i h = get_or-set_other queue tail i x 0 (λ e. omega arith)

  pub queue_new : at (set queue tail x) tail ≡ x
  queue_new = get_or-set_same queue tail x 0 tail_room

  pub level_old : (i : ℕ) → i < tail → level_at (set levels x v) (set queue tail x) i ≡ level_at levels queue i
  level_old i h = ap (at (set levels x v)) (queue_old i h) ∙ keeps (at queue i) (q.queued i h).1

  pub level_new : level_at (set levels x v) (set queue tail x) tail ≡ v
  level_new = ap (at (set levels x v)) queue_new ∙ get_or-set_same levels x v 0 x_place

  -- each place of the queue is an old one or the last
  pub level_at_lem : (i : ℕ) → i < suc tail
      → ((i ≡ tail) × (level_at (set levels x v) (set queue tail x) i ≡ v))
      ⊎ ((i < tail) × (level_at (set levels x v) (set queue tail x) i ≡ level_at levels queue i))
  level_at_lem i h =
      ⊎_elim
      (λ e. inl (e, ap (level_at (set levels x v) (set queue tail x)) e ∙ level_new))
      (λ ne. let lt : i < tail = omega arith in inr (lt, level_old i lt))
      (same? i tail)

  pub queue_add : Queue n (set levels x v) (set queue tail x) (suc tail)
  queue_add =
      record {
        levels_long = length-set levels x v ∙ q.levels_long;
        room = let e = length-set queue tail x in let r = q.room in omega (arith, e, r);
        count = let z = zeros_set levels x v x_place new some in let c = q.count in omega (arith, z, c);
        queued = λ i h. two i h;
        all = λ y h. ⊎_elim (λ w. (tail, omega arith, queue_new ∙ sym w.0)) (λ w. old y (let e = w.1 in omega arith)) (look levels x v y x_place);
      }
    where
      two : (i : ℕ) → i < suc tail → (at (set queue tail x) i < n) × (0 < at (set levels x v) (at (set queue tail x) i))
      two i h =
          ⊎_elim
          (λ e.
          let place = ap (at (set queue tail x)) e ∙ queue_new in
          let level = ap (level_at (set levels x v) (set queue tail x)) e ∙ level_new in
          (omega (arith, place, inside), omega (arith, level, some)))
          (λ ne. let lt : i < tail = omega arith in let w = q.queued i lt in (rw (queue_old i lt) w.0, rw (level_old i lt) w.1))
          (same? i tail)

      old : (y : ℕ) → 0 < at levels y → (i : ℕ) × (i < suc tail) × (at (set queue tail x) i ≡ y)
      old y h = let w = q.all y h in (w.0, omega (arith, w.1), queue_old w.0 w.1 ∙ w.2)
