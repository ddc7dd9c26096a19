-- Trails under other names: where two sets of tests say the same under a renaming that keeps the order, the best trail of the one is that
-- of the other, renamed.
-- Assumes nothing.
use Prim.Native.Nat.{ℕ, ◌<◌}
use mathlib.Core.Path.{◌≡◌, sym, ap, ◌∙◌}
use mathlib.Core.Bool.{Bool, true, false≢true}
use mathlib.Core.List.{List, [], ◌∷◌, map}
use mathlib.Core.Logic.{inl, inr, ⊎_elim}
use native.Mathlib.Omega.{arith}
use lib.ListN.{length, length-map}
use Rattle.tables.specs.Order.{All}
use Rattle.regions.specs.Graph.{Edges}
use Rattle.trail.specs.Trail.{onward, trail, NotAfter, BestTrail, NoTrail}
use Rattle.std.proofs.lemmas.Bool.{false_from_ne_true}
use Rattle.lists.proofs.Search.{both}
use Rattle.lists.proofs.Some.{and_true}

-- the tests of a node, and of its name; f names a node, and g finds it again
pub record Renaming (drive : ℕ → Bool) (edge : Edges) (feeds : ℕ → Bool) (drive' : ℕ → Bool) (edge' : Edges) (feeds' : ℕ → Bool) (f g : ℕ → ℕ) : Type 0 where
  pub drive_to : (a : ℕ) → drive a ≡ true → drive' (f a) ≡ true
  pub edge_to : (a b : ℕ) → edge a b ≡ true → edge' (f a) (f b) ≡ true
  pub feeds_to : (a : ℕ) → feeds a ≡ true → feeds' (f a) ≡ true
  pub drive_from : (x : ℕ) → drive' x ≡ true → (drive (g x) ≡ true) × (f (g x) ≡ x)
  pub edge_from : (x y : ℕ) → edge' x y ≡ true → (edge (g x) (g y) ≡ true) × (f (g y) ≡ y)
  pub feeds_from : (x : ℕ) → feeds' x ≡ true → feeds (g x) ≡ true

-- the way back alone
pub record Finds (drive : ℕ → Bool) (edge : Edges) (feeds : ℕ → Bool) (drive' : ℕ → Bool) (edge' : Edges) (feeds' : ℕ → Bool) (g : ℕ → ℕ) : Type 0 where
  pub drive_from : (x : ℕ) → drive' x ≡ true → drive (g x) ≡ true
  pub edge_from : (x y : ℕ) → edge' x y ≡ true → edge (g x) (g y) ≡ true
  pub feeds_from : (x : ℕ) → feeds' x ≡ true → feeds (g x) ≡ true

module _ {drive : ℕ → Bool} {edge : Edges} {feeds : ℕ → Bool} {drive' : ℕ → Bool} {edge' : Edges} {feeds' : ℕ → Bool} {g : ℕ → ℕ}
    (r : Finds drive edge feeds drive' edge' feeds' g) where
  onward_found : (x : ℕ) (m : List ℕ) → onward edge' feeds' x m ≡ true → onward edge feeds (g x) (map g m) ≡ true
  unfolding onward
  onward_found x [] h = r.feeds_from x h
  onward_found x (y ∷ m) h = let w = both _ _ h in and_true _ _ (r.edge_from x y w.0) (onward_found y m w.1)

  pub trail_found : (m : List ℕ) → trail drive' edge' feeds' m ≡ true → trail drive edge feeds (map g m) ≡ true
  unfolding trail
  trail_found [] h = absurd (false≢true h)
  trail_found (x ∷ m) h = let w = both _ _ h in and_true _ _ (r.drive_from x w.0) (onward_found x m w.1)

module _ {drive : ℕ → Bool} {edge : Edges} {feeds : ℕ → Bool} {drive' : ℕ → Bool} {edge' : Edges} {feeds' : ℕ → Bool} {f g : ℕ → ℕ}
    (r : Renaming drive edge feeds drive' edge' feeds' f g) where
  -- each name is that of the node that g finds
  abbrev Named : List ℕ → Type 0
  Named m = All (λ y. f (g y) ≡ y) m

  onward_to : (a : ℕ) (l : List ℕ) → onward edge feeds a l ≡ true → onward edge' feeds' (f a) (map f l) ≡ true
  unfolding onward
  onward_to a [] h = r.feeds_to a h
  onward_to a (b ∷ l) h = let w = both _ _ h in and_true _ _ (r.edge_to a b w.0) (onward_to b l w.1)

  finds : Finds drive edge feeds drive' edge' feeds' g
  finds = record { drive_from = λ x h. (r.drive_from x h).0; edge_from = λ x y h. (r.edge_from x y h).0; feeds_from = r.feeds_from }

  onward_named : (x : ℕ) (m : List ℕ) → onward edge' feeds' x m ≡ true → Named m
  unfolding onward
  onward_named x [] h = tt
  onward_named x (y ∷ m) h = let w = both _ _ h in ((r.edge_from x y w.0).1, onward_named y m w.1)

  pub trail_to : (l : List ℕ) → trail drive edge feeds l ≡ true → trail drive' edge' feeds' (map f l) ≡ true
  unfolding trail
  trail_to [] h = absurd (false≢true h)
  trail_to (a ∷ l) h = let w = both _ _ h in and_true _ _ (r.drive_to a w.0) (onward_to a l w.1)

  trail_named : (m : List ℕ) → trail drive' edge' feeds' m ≡ true → Named m
  unfolding trail
  trail_named [] h = tt
  trail_named (x ∷ m) h = let w = both _ _ h in ((r.drive_from x w.0).1, onward_named x m w.1)

  after_to : ((a y : ℕ) → a < g y → f a < y) → (l m : List ℕ) → Named m → NotAfter l (map g m) → NotAfter (map f l) m
  after_to rises [] m n h = tt
  after_to rises (a ∷ l) [] n h = h
  after_to rises (a ∷ l) (y ∷ m) n h =
      ⊎_elim
      (λ lt. inl (rises a y lt))
      (λ e. inr (ap f e.0 ∙ n.0, after_to rises l m n.1 e.1))
      h

  -- where a smaller node has a smaller name
  pub renamed_best : ((a y : ℕ) → a < g y → f a < y) → {l : List ℕ} → BestTrail drive edge feeds l → BestTrail drive' edge' feeds' (map f l)
  renamed_best rises {l} b =
      record {
        accepted = trail_to l b.accepted;
        shortest = λ m h. let s = b.shortest (map g m) (trail_found finds m h) in omega (arith, s, length-map l f, length-map m g);
        least = λ m h e.
            let same : length (map g m) ≡ length l = omega (arith, e, length-map l f, length-map m g) in
            after_to rises l m (trail_named m h) (b.least (map g m) (trail_found finds m h) same);
      }

  pub renamed_none : NoTrail drive edge feeds → NoTrail drive' edge' feeds'
  renamed_none none m = false_from_ne_true _ (λ h. false≢true (sym (none (map g m)) ∙ trail_found finds m h))
