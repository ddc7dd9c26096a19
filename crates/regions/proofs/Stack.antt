-- The stack that a walk is lent, as frames.
-- Assumes nothing.
use mathlib.Core.Path.{◌≡◌, refl, ap, ap₂, ◌∙◌}
use mathlib.Core.Bool.{Bool, true, false, cond}
use mathlib.Core.List.{List, [], ◌∷◌}
use mathlib.Core.Logic.{⊎_elim}
use Prim.Native.Nat.{ℕ, zero, suc, ◌+◌, ◌*◌, ◌-◌, ◌≤◌, ◌<◌}
use native.Mathlib.Nat.{not-suc-le-zero, le_of_suc-le-suc}
use native.Mathlib.Omega.{arith}
use lib.ListN.{length, get_or, set, length-set}
use lib.Seq.{get_or-set_same, get_or-set_other}
use Rattle.regions.specs.Search.{weight}
use Rattle.tables.specs.Laws.{same?}
use Rattle.regions.proofs.Frames.{Frame, frame}

-- ---- arrays

-- marking a node takes its weight away
pub weight_mark : (w : ℕ) (l : List Bool) (k : ℕ) → k < length l → get_or l k false ≡ false → weight w l ≡ w + weight w (set l k true)
unfolding weight
weight_mark w [] k h e = absurd (not-suc-le-zero h)
weight_mark w (b ∷ l) zero h e = let p = ap (λ c. cond {A = ℕ} c 0 w) e in omega (arith, p)
weight_mark w (b ∷ l) (suc k) h e = let p = weight_mark w l k (le_of_suc-le-suc h) e in omega (arith, p)

get_or_set_zero : (l : List ℕ) (i : ℕ) → get_or (set l i 0) i 0 ≡ 0
get_or_set_zero [] i = refl
get_or_set_zero (x ∷ l) zero = refl
get_or_set_zero (x ∷ l) (suc i) = get_or_set_zero l i

pub zero_set : (l : List ℕ) (i j : ℕ) → (¬ (j ≡ i) → get_or l j 0 ≡ 0) → get_or (set l i 0) j 0 ≡ 0
zero_set l i j h =
    ⊎_elim (λ e. ap (λ (k : ℕ). get_or (set l i 0) k 0) e ∙ get_or_set_zero l i) (λ ne. get_or-set_other l i j 0 0 ne ∙ h ne) (same? j i)

-- ---- the frames that a stack of the depth d holds, the top first

unfoldable pub frames : ℕ → List ℕ → List Frame
frames zero st = []
frames (suc d) st = frame (get_or st (2 * d) 0) (get_or st (2 * d + 1) 0) ∷ frames d st

pub frames_set : (d : ℕ) (st : List ℕ) (i v : ℕ) → 2 * d ≤ i → frames d (set st i v) ≡ frames d st
unfolding frames
frames_set zero st i v h = refl
frames_set (suc d) st i v h =
    let a = get_or-set_other st i (2 * d) v 0 (λ e. omega arith) in
    let b = get_or-set_other st i (2 * d + 1) v 0 (λ e. omega arith) in
    let t = frames_set d st i v (omega arith) in
    ap₂ (λ (x : ℕ) (y : ℕ). frame x y ∷ frames d (set st i v)) a b ∙ ap (λ fs. frame (get_or st (2 * d) 0) (get_or st (2 * d + 1) 0) ∷ fs) t

-- the top frame gets another place
pub frames_place : (d : ℕ) (st : List ℕ) (v : ℕ) → 2 * d + 1 < length st
    → frames (suc d) (set st (2 * d + 1) v) ≡ frame (get_or st (2 * d) 0) v ∷ frames d st
unfolding frames
frames_place d st v h =
    let a = get_or-set_other st (2 * d + 1) (2 * d) v 0 (λ e. omega arith) in
    let b = get_or-set_same st (2 * d + 1) v 0 h in
    let t = frames_set d st (2 * d + 1) v (omega arith) in
    ap₂ (λ (x : ℕ) (y : ℕ). frame x y ∷ frames d (set st (2 * d + 1) v)) a b ∙ ap (λ fs. frame (get_or st (2 * d) 0) v ∷ fs) t

-- a frame is put on top
pub frames_push : (d : ℕ) (st : List ℕ) (v p : ℕ) → 2 * d + 1 < length st → frames (suc d) (set (set st (2 * d) v) (2 * d + 1) p) ≡ frame v p ∷ frames d st
frames_push d st v p h =
    frames_place d (set st (2 * d) v) p (simp length-set (omega arith))
    ∙ ap₂ (λ (x : ℕ) fs. frame x p ∷ fs) (get_or-set_same st (2 * d) v 0 (omega arith)) (frames_set d st (2 * d) v (omega arith))

-- ---- the measure

-- the places that are left of the open calls, and one for leaving each
unfoldable pub work : ℕ → List Frame → ℕ
work m [] = 0
work m (f ∷ fs) = (suc m - f.place) + work m fs
