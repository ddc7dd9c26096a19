-- Levels that are given on along the queue: one node noted, one place of the queue passed, and the nodes that feed the port.
-- Assumes nothing.
use Prim.Native.Nat.{ℕ, suc, ◌+◌, ◌≤◌, ◌<◌}
use mathlib.Core.Path.{◌≡◌, sym, ap, ◌∙◌, subst}
use mathlib.Core.Bool.{Bool, true, false, false≢true}
use mathlib.Core.List.{List}
use mathlib.Core.Logic.{◌⊎◌, ⊎_elim}
use native.Mathlib.Omega.{arith}
use lib.ListN.{length, set, replicate, length-set, get_or-replicate}
use Rattle.tables.specs.Laws.{same?, order?}
use Rattle.regions.specs.Graph.{Edges, at, marked}
use Rattle.trail.specs.Waves.{zeros, Queue, level_at, Noted, Wave, Seeded}
use Rattle.trail.proofs.Queued.{held, look, zeros_none, keeps, queue_old, level_old, level_at_lem, queue_add}

module _ {n : ℕ} {edge : Edges} {feeds : ℕ → Bool} {levels queue : List ℕ} {head tail : ℕ} (w : Wave n edge feeds levels queue head tail) where
  -- ---- a node from which an edge leads to the one at the head is noted
  module _ (lt : head < tail) (x : ℕ) (inside : x < n) (new : at levels x ≡ 0) (along : edge x (at queue head) ≡ true) where
    abbrev v : ℕ
    v = suc (level_at levels queue head)

    wave_add : Wave n edge feeds (set levels x v) (set queue tail x) head (suc tail)
    wave_add =
        record {
          holds = queue_add q x v inside new (omega arith);
          passed = omega arith;
          rising = λ i j le h.
              ⊎_elim
              (λ last. ⊎_elim (λ own. omega (arith, last.1, own.1)) (λ old. let f = top i old.0 in omega (arith, last.1, old.1, f)) (at_place i (omega arith)))
              (λ before. ⊎_elim
              (λ own. absurd (omega (arith, own.0, before.0)))
              (λ old. let f = w.rising i j le before.0 in omega (arith, before.1, old.1, f))
              (at_place i (omega (arith, before.0))))
              (at_place j h);
          near = λ i j le hi hj.
              ⊎_elim
              (λ own. ⊎_elim (λ last. omega (arith, own.1, last.1)) (λ old. let f = top j old.0 in omega (arith, own.1, old.1, f)) (at_place j hj))
              (λ before. ⊎_elim
              (λ last. let f = w.rising head i le before.0 in omega (arith, before.1, last.1, f))
              (λ old. let f = w.near i j le before.0 old.0 in omega (arith, before.1, old.1, f)) (at_place j hj))
              (at_place i hi);
          low = λ i h. ⊎_elim
              (λ own. let f = w.low head lt in omega (arith, own.0, own.1, f))
              (λ old. let f = w.low i old.0 in omega (arith, old.1, f))
              (at_place i h);
          feeders = λ y h. let e = w.feeders y h in keeps q x v inside new (omega arith) y (omega arith) ∙ e;
          only_feeders = λ y h. ⊎_elim
              (λ own. absurd (let p = first_level in omega (arith, own.1, p)))
              (λ old. w.only_feeders y (sym old.1 ∙ h))
              (look levels x v y x_place);
          closed = λ i y h e. before i y h (subst (λ (z : ℕ). edge y z ≡ true) (queue_old q x v inside new (omega arith) i (omega arith)) e);
          down = λ y k h. ⊎_elim (λ own. from y k own.0 (sym own.1 ∙ h)) (λ old. kept (w.down y k (sym old.1 ∙ h))) (look levels x v y x_place);
        }
      where
        q : Queue n levels queue tail
        q = w.holds

        x_place : x < length levels
        x_place = let e = q.levels_long in omega arith

        first_level : 0 < level_at levels queue head
        first_level = (q.queued head lt).1

        at_place : (i : ℕ) → i < suc tail
            → ((i ≡ tail) × (level_at (set levels x v) (set queue tail x) i ≡ v))
            ⊎ ((i < tail) × (level_at (set levels x v) (set queue tail x) i ≡ level_at levels queue i))
        at_place = level_at_lem q x v inside new (omega arith)

        top : (i : ℕ) → i < tail → level_at levels queue i ≤ v
        top i h = w.near head i (omega arith) lt h

        before : (i y : ℕ) → i < head → edge y (at queue i) ≡ true
            → (0 < at (set levels x v) y) × (at (set levels x v) y ≤ suc (level_at (set levels x v) (set queue tail x) i))
        before i y h e =
            let c = w.closed i y h e in
            let k = keeps q x v inside new (omega arith) y c.0 in
            let o = level_old q x v inside new (omega arith) i (omega arith) in
            (omega (arith, k, c.0), omega (arith, k, o, c.1))

        kept : {y k : ℕ} → (z : ℕ) × (edge y z ≡ true) × (at levels z ≡ suc k) → (z : ℕ) × (edge y z ≡ true) × (at (set levels x v) z ≡ suc k)
        kept d = (d.0, d.1, keeps q x v inside new (omega arith) d.0 (let e = d.2 in omega arith) ∙ d.2)

        from : (y k : ℕ) → y ≡ x → v ≡ suc (suc k) → (z : ℕ) × (edge y z ≡ true) × (at (set levels x v) z ≡ suc k)
        from y k same e = (
          at queue head,
          subst (λ (z : ℕ). edge z (at queue head) ≡ true) (sym same) along,
          keeps q x v inside new (omega arith) (at queue head) first_level ∙ omega (arith, e),
        )

    pub wave_noted : {levels' queue' : List ℕ} {tail' : ℕ} → levels' ≡ set levels x v → queue' ≡ set queue tail x → tail' ≡ suc tail
        → Wave n edge feeds levels' queue' head tail'
    wave_noted a b c = rw (a, b, c) wave_add

  -- ---- the place at the head is passed
  pub wave_passed : head < tail → ((x : ℕ) → edge x (at queue head) ≡ true → 0 < at levels x) → Wave n edge feeds levels queue (suc head) tail
  wave_passed lt given =
      record {
        holds = w.holds;
        passed = lt;
        rising = w.rising;
        near = λ i j le hi hj. w.near i j (omega arith) hi hj;
        low = w.low;
        feeders = w.feeders;
        only_feeders = w.only_feeders;
        closed = λ i x h e.
            ⊎_elim
            (λ same. subst (λ (i : ℕ). (0 < at levels x) × (at levels x ≤ suc (level_at levels queue i))) (sym same)
            (last x (subst (λ (i : ℕ). edge x (at queue i) ≡ true) same e)))
            (λ ne. w.closed i x (omega arith) e)
            (same? i head);
        down = w.down;
      }
    where
      last : (x : ℕ) → edge x (at queue head) ≡ true → (0 < at levels x) × (at levels x ≤ suc (level_at levels queue head))
      last x e =
          let p = given x e in
          let a = w.holds.all x p in
          let f = w.near head a.0 (omega arith) lt a.1 in
          (p, subst (λ (y : ℕ). at levels y ≤ suc (level_at levels queue head)) a.2 f)

-- ---- the nodes that feed the port

-- what is noted keeps the lengths
pub noted_lengths : {node level : ℕ} {levels queue : List ℕ} {tail : ℕ} {levels' queue' : List ℕ} {tail' : ℕ}
    → Noted node level levels queue tail levels' queue' tail' → (length levels' ≡ length levels) × (length queue' ≡ length queue)
noted_lengths noted =
    ⊎_elim
    (λ old. (ap length old.1, ap length old.2))
    (λ new. (ap length new.1 ∙ simp length-set, ap length new.2 ∙ simp length-set))
    noted.either

module _ {feeds : List Bool} {x : ℕ} {levels queue : List ℕ} {tail : ℕ} (s : Seeded feeds x levels queue tail) where
  pub seed_next : marked feeds x ≡ false → Seeded feeds (x + 1) levels queue tail
  seed_next out =
      record {
        holds = s.holds;
        ones = λ y h m. ⊎_elim (λ e. absurd (false≢true (sym out ∙ ap (marked feeds) (sym e) ∙ m))) (λ ne. s.ones y (omega arith) m) (same? y x);
        only = λ y h. let o = s.only y h in (omega (arith, o.0), o.1, o.2);
      }

  pub seed_fresh : at levels x ≡ 0
  seed_fresh = ⊎_elim (λ z. omega arith) (λ p. absurd (let o = (s.only x p).0 in omega arith)) (order? (at levels x) 0)

  module _ (inside : x < length feeds) (taken : marked feeds x ≡ true) where
    seed_add : Seeded feeds (x + 1) (set levels x 1) (set queue tail x) (suc tail)
    seed_add =
        record {
          holds = queue_add q x 1 inside seed_fresh (omega arith);
          ones = λ y h m. ⊎_elim (λ own. own.1) (λ old. old.1 ∙ s.ones y (let ne = old.0 in omega_lt y h ne) m) (look levels x 1 y x_place);
          only = λ y h.
              ⊎_elim
              (λ own. (omega (arith, own.0), ap (marked feeds) own.0 ∙ taken, own.1))
              (λ old. let o = s.only y (let e = old.1 in omega arith) in (omega (arith, o.0), o.1, old.1 ∙ o.2))
              (look levels x 1 y x_place);
        }
      where
        q : Queue (length feeds) levels queue tail
        q = s.holds

        x_place : x < length levels
        x_place = let e = q.levels_long in omega arith

        omega_lt : (y : ℕ) → y < x + 1 → (y ≡ x → ⊥) → y < x
        omega_lt y h ne = omega arith

    pub seed_more : {levels' queue' : List ℕ} {tail' : ℕ} → Noted x 1 levels queue tail levels' queue' tail' → Seeded feeds (x + 1) levels' queue' tail'
    seed_more noted =
        ⊎_elim
        (λ old. absurd (let p = old.0 in let z = seed_fresh in omega arith))
        (λ new. rw (new.1, new.2, new.3) seed_add)
        noted.either

pub seed_none : {feeds : List Bool} {levels queue : List ℕ} → levels ≡ replicate (length levels) 0 → length levels ≡ length feeds → length feeds ≤ length queue
    → Seeded feeds 0 levels queue 0
seed_none {feeds} {levels} {queue} e long room =
    record {
      holds =
          record {
            levels_long = long;
            room = room;
            count = let z : zeros levels ≡ length levels = ap zeros e ∙ zeros_none (length levels) in omega (arith, z, long);
            queued = λ i h. absurd (omega arith);
            all = λ x h. absurd (none x h);
          };
      ones = λ y h m. absurd (omega arith);
      only = λ y h. absurd (none y h);
    }
  where
    none : (x : ℕ) → 0 < at levels x → ⊥
    none x h =
        let z : at levels x ≡ 0 = ap (λ (l : List ℕ). at l x) e ∙ get_or-replicate (length levels) x 0 0 (held levels x h) in
        omega arith
