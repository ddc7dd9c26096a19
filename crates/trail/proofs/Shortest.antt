-- A shortest trail has one drive source, its first, and goes in no circle: else a shorter one would be there.
-- Assumes nothing.
use Prim.Native.Nat.{ℕ, zero, suc, ◌-◌, ◌<◌}
use mathlib.Core.Path.{◌≡◌, sym, subst}
use mathlib.Core.Bool.{Bool, true}
use mathlib.Core.List.{List, [], ◌∷◌, ◌++◌}
use native.Mathlib.Omega.{arith}
use lib.ListN.{length, get_or, take, drop, length-drop, length-append}
use lib.Seq.{length-take-le}
use Rattle.regions.specs.Graph.{Edges}
use Rattle.trail.specs.Trail.{onward, trail, BestTrail}
use Rattle.trail.specs.Theorems.{TrailLaws}
use Rattle.std.proofs.lemmas.Bool.{false_from_ne_true}
use Rattle.lists.proofs.Search.{both}
use Rattle.lists.proofs.Some.{and_true}
use Rattle.trail.proofs.Best.{best_once}

module _ (drive : ℕ → Bool) (edge : Edges) (feeds : ℕ → Bool) where
  -- from each place of a way on it is a way
  onward_on : (x : ℕ) (l : List ℕ) (k : ℕ) → k < length (x ∷ l) → onward edge feeds x l ≡ true
      → onward edge feeds (get_or (x ∷ l) k 0) (drop (suc k) (x ∷ l)) ≡ true
  unfolding onward
  onward_on x l zero h e = e
  onward_on x [] (suc k) h e = absurd (omega arith)
  onward_on x (y ∷ l) (suc k) h e = onward_on y l k (omega arith) (both (edge x y) _ e).1

  -- a way up to a place, and from that node on another way
  onward_cut : (x : ℕ) (l : List ℕ) (i : ℕ) (m : List ℕ) → i < length (x ∷ l) → onward edge feeds x l ≡ true → onward edge feeds (get_or (x ∷ l) i 0) m ≡ true
      → onward edge feeds x (take i l ++ m) ≡ true
  unfolding onward
  onward_cut x l zero m h e f = f
  onward_cut x [] (suc i) m h e f = absurd (omega arith)
  onward_cut x (y ∷ l) (suc i) m h e f = let w = both (edge x y) _ e in and_true _ _ w.0 (onward_cut y l i m (omega arith) w.1 f)

  -- a drive source further on would begin a shorter trail
  later_drive : (l : List ℕ) (k : ℕ) → k < length l → trail drive edge feeds l ≡ true → drive (get_or l k 0) ≡ true
      → (m : List ℕ) × (trail drive edge feeds m ≡ true) × (length m ≡ length l - k)
  unfolding trail
  later_drive [] k h e d = absurd (omega arith)
  later_drive (x ∷ l) k h e d =
      (get_or (x ∷ l) k 0 ∷ drop (suc k) (x ∷ l), and_true _ _ d (onward_on x l k h (both (drive x) _ e).1), let s = length-drop k l in omega (arith, s))

  -- a node that stands twice would let a part of the trail be left out
  twice : (l : List ℕ) (i j : ℕ) → i < j → j < length l → trail drive edge feeds l ≡ true → get_or l i 0 ≡ get_or l j 0
      → (m : List ℕ) × (trail drive edge feeds m ≡ true) × (length m < length l)
  unfolding trail
  twice [] i j a b e same = absurd (omega arith)
  twice (x ∷ l) i j a b e same =
      let w = both (drive x) _ e in
      let rest = onward_on x l j b w.1 in
      let way = onward_cut x l i (drop (suc j) (x ∷ l)) (omega arith) w.1
      (subst (λ (y : ℕ). onward edge feeds y (drop (suc j) (x ∷ l)) ≡ true) (sym same) rest) in (
        x ∷ (take i l ++ drop j l),
        and_true _ _ w.0 way,
        let s = length-append (take i l) (drop j l) in
            let t = length-take-le i l (omega arith) in
            let d = length-drop j l in
            omega (arith, s, t, d),
      )

  pub trail_laws : {l : List ℕ} → BestTrail drive edge feeds l → TrailLaws drive edge feeds l
  trail_laws {l} b =
      record {
        once = λ m c. best_once c b;
        one_drive = λ k p h. false_from_ne_true _ (λ d.
            let m = later_drive l k h b.accepted d in
            let s = b.shortest m.0 m.1 in
            let e = m.2 in
            omega (arith, s, e));
        distinct = λ i j lt h same.
            let m = twice l i j lt h b.accepted same in
            let s = b.shortest m.0 m.1 in
            let e = m.2 in
            omega (arith, s, e);
      }
