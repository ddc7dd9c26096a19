-- What the check reads: an id by its place, a trail from a place on.
-- Assumes nothing.
use Rattle.std.specs.Prelude.{Option}
use Prim.Native.Nat.{ℕ, ◌+◌, ◌-◌, ◌≤◌, ◌<◌}
use mathlib.Core.Path.{◌≡◌, refl, ap, ◌∙◌}
use mathlib.Core.Bool.{Bool, true, false, ◌&&◌}
use mathlib.Core.List.{List, [], ◌∷◌}
use native.Mathlib.Numerals.{add-one}
use native.Mathlib.Omega.{arith}
use lib.ListN.{length, get_or, drop, drop_of_length-le}
use lib.Seq.{drop-cons}
use lib.IntN.{ℤ}
use Rattle.lists.specs.Ids.{place_of}
use Rattle.regions.specs.Graph.{Edges}
use Rattle.trail.specs.Trail.{onward, trail}
use Rattle.trail.specs.Port.{drive_at, is_drive_id}

-- an id by its place
pub drive_by : (cs fs : List ℤ) (id : ℕ) {place : Option ℕ} → place_of cs id ≡ place → is_drive_id cs fs id ≡ drive_at cs fs place
unfolding is_drive_id
drive_by cs fs id e = ap (drive_at cs fs) e

-- ---- a trail from a place on

module _ (edge : Edges) (feeds : ℕ → Bool) (l : List ℕ) (i : ℕ) where
  onward_turn : i < length l → 0 < i
      → onward edge feeds (get_or l (i - 1) 0) (drop i l) ≡ (edge (get_or l (i - 1) 0) (get_or l i 0) && onward edge feeds (get_or l i 0) (drop (i + 1) l))
  unfolding onward
  onward_turn h p = rw (add-one, drop-cons l i 0 h)

  pub onward_fails : i < length l → 0 < i → edge (get_or l (i - 1) 0) (get_or l i 0) ≡ false → onward edge feeds (get_or l (i - 1) 0) (drop i l) ≡ false
  onward_fails h p e = onward_turn h p ∙ ap (λ (t : Bool). t && onward edge feeds (get_or l i 0) (drop (i + 1) l)) e

  pub onward_goes : i < length l → 0 < i → edge (get_or l (i - 1) 0) (get_or l i 0) ≡ true
      → onward edge feeds (get_or l (i - 1) 0) (drop i l) ≡ onward edge feeds (get_or l (i + 1 - 1) 0) (drop (i + 1) l)
  onward_goes h p e =
      onward_turn h p
      ∙ ap (λ (t : Bool). t && onward edge feeds (get_or l i 0) (drop (i + 1) l)) e
      ∙ ap (λ (j : ℕ). onward edge feeds (get_or l j 0) (drop (i + 1) l)) (omega arith)

  pub onward_ends : length l ≤ i → onward edge feeds (get_or l (i - 1) 0) (drop i l) ≡ feeds (get_or l (i - 1) 0)
  unfolding onward
  onward_ends h = ap (onward edge feeds (get_or l (i - 1) 0)) (drop_of_length-le l h)

-- the whole
pub trail_first : (drive : ℕ → Bool) (edge : Edges) (feeds : ℕ → Bool) (l : List ℕ) → 0 < length l
    → trail drive edge feeds l ≡ (drive (get_or l 0 0) && onward edge feeds (get_or l 0 0) (drop 1 l))
unfolding trail
trail_first drive edge feeds [] h = absurd (omega arith)
trail_first drive edge feeds (x ∷ l) h = refl

pub trail_empty : (drive : ℕ → Bool) (edge : Edges) (feeds : ℕ → Bool) (l : List ℕ) → length l ≡ 0 → trail drive edge feeds l ≡ false
unfolding trail
trail_empty drive edge feeds [] h = refl
trail_empty drive edge feeds (x ∷ l) h = absurd (omega arith)
