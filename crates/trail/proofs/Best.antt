-- What goes down by levels from the right start is the best trail; there is one best trail; and where no drive source has a level there is
-- no trail.
-- Assumes nothing.
use Prim.Native.Nat.{ℕ, zero, suc, ◌≤◌, ◌<◌}
use mathlib.Core.Path.{◌≡◌, refl, ap}
use mathlib.Core.Bool.{Bool, true, false≢true}
use mathlib.Core.List.{List, [], ◌∷◌}
use mathlib.Core.Logic.{inl, inr, ⊎_elim}
use native.Mathlib.Omega.{arith}
use lib.ListN.{length}
use Rattle.std.proofs.lemmas.Bool.{false_from_ne_true}
use Rattle.tables.specs.Laws.{same?}
use Rattle.lists.proofs.Search.{both}
use Rattle.lists.proofs.Some.{and_true}
use Rattle.regions.specs.Graph.{Edges, at}
use Rattle.trail.specs.Trail.{onward, trail, NotAfter, BestTrail, NoTrail}
use Rattle.trail.specs.Levels.{Levels, StartAt, Descends}

-- ---- there is one best trail

pub not_after_both : (l m : List ℕ) → NotAfter l m → NotAfter m l → l ≡ m
not_after_both [] [] p q = refl
not_after_both [] (y ∷ m) p q = absurd q
not_after_both (x ∷ l) [] p q = absurd p
not_after_both (x ∷ l) (y ∷ m) p q =
    ⊎_elim
    (λ lt. ⊎_elim (λ gt. absurd (omega arith)) (λ e. absurd (let f = e.0 in omega arith)) q)
    (λ e. ⊎_elim (λ gt. absurd (let f = e.0 in omega arith)) (λ f. let r = not_after_both l m e.1 f.1 in let s = e.0 in cc) q)
    p

pub best_once : {drive : ℕ → Bool} {edge : Edges} {feeds : ℕ → Bool} {l m : List ℕ} → BestTrail drive edge feeds l → BestTrail drive edge feeds m → l ≡ m
best_once {l = l} {m = m} b c =
    let p : length l ≤ length m = b.shortest m c.accepted in
    let q : length m ≤ length l = c.shortest l b.accepted in
    not_after_both l m (b.least m c.accepted (omega arith)) (c.least l b.accepted (omega arith))

-- ---- levels

module _ {n : ℕ} {edge : Edges} {feeds : ℕ → Bool} {levels : List ℕ} (v : Levels n edge feeds levels) where
  -- a way has at least as many nodes as its first one's level says
  pub onward_level : (x : ℕ) (l : List ℕ) → onward edge feeds x l ≡ true → (0 < at levels x) × (at levels x ≤ suc (length l))
  unfolding onward
  onward_level x [] h = let e = v.feeders x h in (omega arith, omega arith)
  onward_level x (y ∷ l) h =
      let w = both _ _ h in
      let r = onward_level y l w.1 in
      let c = v.closed x y w.0 r.0 in
      (c.0, omega (arith, r.1, c.1))

  -- what descends is a way with as many nodes as the level says
  pub descends_onward : (x : ℕ) (l : List ℕ) → Descends edge levels x l → (onward edge feeds x l ≡ true) × (at levels x ≡ suc (length l))
  unfolding onward
  descends_onward x [] d = (v.only_feeders x d, d)
  descends_onward x (y ∷ l) d =
      let r = descends_onward y l d.1 in
      let e = d.0.lower in
      (and_true _ _ d.0.along r.0, omega (arith, r.1, e))

  -- and comes after no other way of so many nodes from x on
  pub descends_least : (x : ℕ) (l m : List ℕ) → Descends edge levels x l → onward edge feeds x m ≡ true → length m ≡ length l → NotAfter l m
  unfolding onward
  descends_least x [] m d h e = tt
  descends_least x (y ∷ l) [] d h e = absurd (omega arith)
  descends_least x (y ∷ l) (z ∷ m) d h e =
      let w = both _ _ h in
      let own = descends_onward y l d.1 in
      let other = onward_level z m w.1 in
      let c = v.closed x z w.0 other.0 in
      let step = d.0.lower in
      let level : at levels x ≡ suc (at levels z) = omega (arith, own.1, other.1, c.1, step) in
      let le = d.0.least z w.0 level in
      ⊎_elim
      (λ same. inr (same, descends_least y l m d.1 (rw same w.1) (omega arith)))
      (λ ne. inl (omega arith))
      (same? y z)

  -- from a node with a level there is a way with so many nodes
  levels_way : (k x : ℕ) → at levels x ≡ suc k → (l : List ℕ) × (onward edge feeds x l ≡ true) × (length l ≡ k)
  unfolding onward
  levels_way zero x e = ([], v.only_feeders x e, refl)
  levels_way (suc k) x e =
      let d = v.down x k e in
      let w = levels_way k d.0 d.2 in
      (d.0 ∷ w.0, and_true _ _ d.1 w.1, ap suc w.2)

  module _ {drive : ℕ → Bool} where
    -- from the start down, it is the best trail
    pub best_down : (s : ℕ) (l : List ℕ) → StartAt drive levels s → Descends edge levels s l → BestTrail drive edge feeds (s ∷ l)
    unfolding trail
    best_down s l t d =
        record {
          accepted = and_true _ _ t.drives own.0;
          shortest = λ m h. short m h;
          least = λ m h e. less m h e;
        }
      where
        own : (onward edge feeds s l ≡ true) × (at levels s ≡ suc (length l))
        own = descends_onward s l d

        short : (m : List ℕ) → trail drive edge feeds m ≡ true → suc (length l) ≤ length m
        short [] h = absurd (false≢true h)
        short (z ∷ m) h =
            let w = both _ _ h in
            let r = onward_level z m w.1 in
            let near = t.nearest z w.0 r.0 in
            omega (arith, own.1, r.1)

        less : (m : List ℕ) → trail drive edge feeds m ≡ true → length m ≡ suc (length l) → NotAfter (s ∷ l) m
        less [] h e = absurd (false≢true h)
        less (z ∷ m) h e =
            let w = both _ _ h in
            let r = onward_level z m w.1 in
            let near = t.nearest z w.0 r.0 in
            let le = t.first z w.0 (omega (arith, own.1, r.1)) in
            ⊎_elim
            (λ same. inr (same, descends_least s l m d (rw same w.1) (omega arith)))
            (λ ne. inl (omega arith))
            (same? s z)

    -- where no drive source has a level, there is no trail
    pub none_down : ((z : ℕ) → drive z ≡ true → at levels z ≡ 0) → NoTrail drive edge feeds
    unfolding trail
    none_down none [] = refl
    none_down none (z ∷ m) = false_from_ne_true _ (λ h. let w = both _ _ h in let r = onward_level z m w.1 in let e = none z w.0 in omega (arith, r.0))

-- ---- there is one list of levels

-- where one list has a level, another has one at most as high
levels_le : {n : ℕ} {edge : Edges} {feeds : ℕ → Bool} {levels levels' : List ℕ} → Levels n edge feeds levels → Levels n edge feeds levels'
    → (k x : ℕ) → at levels x ≡ suc k → (0 < at levels' x) × (at levels' x ≤ suc k)
levels_le v w k x e =
    let l = levels_way v k x e in
    let o = onward_level w x l.0 l.1 in
    let s = l.2 in
    (o.0, omega (arith, o.1, s))

pub levels_once : {n : ℕ} {edge : Edges} {feeds : ℕ → Bool} {levels levels' : List ℕ} → Levels n edge feeds levels → Levels n edge feeds levels'
    → (x : ℕ) → at levels x ≡ at levels' x
levels_once {levels = levels} {levels' = levels'} v w x = go (at levels x) refl (at levels' x) refl
  where
    go : (a : ℕ) → at levels x ≡ a → (b : ℕ) → at levels' x ≡ b → a ≡ b
    go zero e zero f = refl
    go zero e (suc b) f = absurd (let r = levels_le w v b x f in omega (arith, e, r.0))
    go (suc a) e zero f = absurd (let r = levels_le v w a x e in omega (arith, f, r.0))
    go (suc a) e (suc b) f = let r = levels_le v w a x e in let s = levels_le w v b x f in omega (arith, e, f, r.1, s.1)
