-- The rows with slopes, and what is left of them without.
--     sloped_long                  as many rows
--     cut_append, slopes_append    rows one after the other
--     five_at, slope_at_row, cut_map     number by number
--     sloped_count                 how many rows
--     cut_sloped                   cut to five numbers each they are the rows that are kept
--     code_most, slopes_most, sloped_small     a slope is at most 2
-- Assumes nothing.
use Rattle.std.specs.Prelude.{Option, Some, None}
use mathlib.Core.Path.{◌≡◌, refl, ap, ◌∙◌}
use mathlib.Core.List.{List, [], ◌∷◌, ◌++◌, map}
use mathlib.Core.Logic.{⊎_elim}
use Prim.Native.Nat.{ℕ, zero, suc, ◌+◌, ◌-◌, ◌*◌, ◌≤◌, ◌<◌}
use native.Mathlib.Omega.{arith}
use lib.IntN.{ℤ}
use lib.ListN.{length, length-append, get_or, get_or-append}
use lib.Seq.{get_or-append-add}
use Rattle.std.proofs.lemmas.Bool.{cases_lt}
use Rattle.lists.specs.Limits.{port_width, kept_width}
use Rattle.lists.specs.Records.{Connection, component, connection, connection_count}
use Rattle.lists.specs.Ids.{place_of}
use Rattle.faces.specs.Codes.{slope_code}
use Rattle.faces.specs.Step as step
use Rattle.faces.specs.declared.step.Slope.{Slope}
use Rattle.faces.specs.declared.step.Slope.TheVariants.{Level, Rising, Falling}
use Rattle.faces.proofs.Steps.{slope_most}
use Rattle.scene.specs.Kept.{link_of, row_by, kept_row, rows_below, kept_rows, kept_count, slope_at, slope_along, sloped_by, sloped_row, sloped_below, sloped_rows, without_slopes, slopes_of}

-- ---- how long they are

row_long : (p : Connection) (l : Option (ℕ × ℕ)) (slope : ℕ) → length (sloped_by p l slope) * port_width ≡ length (row_by p l) * kept_width
row_long p (Some (i, j)) slope = refl
row_long p None slope = refl

pub sloped_long : (rules : ℕ) (cs ps : List ℤ) (k : ℕ) → length (sloped_below rules cs ps k) * port_width ≡ length (rows_below rules cs ps k) * kept_width
unfolding rows_below sloped_below
sloped_long rules cs ps zero = refl
sloped_long rules cs ps (suc k) =
    let p = connection ps k in
    omega (
      arith,
      sloped_long rules cs ps k,
      row_long p (link_of rules cs p) (slope_along cs p),
      length-append (sloped_below rules cs ps k) (sloped_row rules cs ps k),
      length-append (rows_below rules cs ps k) (kept_row rules cs ps k),
    )

row_whole : (p : Connection) (l : Option (ℕ × ℕ)) (slope : ℕ) → (turns : ℕ) × (length (sloped_by p l slope) ≡ turns * kept_width)
row_whole p (Some (i, j)) slope = (1, refl)
row_whole p None slope = (0, refl)

pub sloped_whole : (rules : ℕ) (cs ps : List ℤ) (k : ℕ) → (turns : ℕ) × (length (sloped_below rules cs ps k) ≡ turns * kept_width)
unfolding sloped_below
sloped_whole rules cs ps zero = (0, refl)
sloped_whole rules cs ps (suc k) =
    let p = connection ps k in
    let before = sloped_whole rules cs ps k in
    let last = row_whole p (link_of rules cs p) (slope_along cs p) in
    (before.0 + last.0, omega (arith, before.1, last.1, length-append (sloped_below rules cs ps k) (sloped_row rules cs ps k)))

-- ---- rows one after the other

pub cut_append : {A : Type 0} (turns : ℕ) (rows more : List A) → length rows ≡ turns * kept_width → without_slopes (rows ++ more) ≡ without_slopes rows ++ without_slopes more
unfolding without_slopes
cut_append {A} zero [] more h = refl
cut_append {A} zero (a ∷ rows) more h = absurd (omega arith)
cut_append {A} (suc t) [] more h = absurd (omega arith)
cut_append {A} (suc t) (a ∷ []) more h = absurd (omega arith)
cut_append {A} (suc t) (a ∷ b ∷ []) more h = absurd (omega arith)
cut_append {A} (suc t) (a ∷ b ∷ c ∷ []) more h = absurd (omega arith)
cut_append {A} (suc t) (a ∷ b ∷ c ∷ d ∷ []) more h = absurd (omega arith)
cut_append {A} (suc t) (a ∷ b ∷ c ∷ d ∷ e ∷ []) more h = absurd (omega arith)
cut_append {A} (suc t) (a ∷ b ∷ c ∷ d ∷ e ∷ slope ∷ rows) more h =
    ap (λ (l : List A). a ∷ b ∷ c ∷ d ∷ e ∷ l) (cut_append t rows more (omega arith))

pub slopes_append : {A : Type 0} (turns : ℕ) (rows more : List A) → length rows ≡ turns * kept_width → slopes_of (rows ++ more) ≡ slopes_of rows ++ slopes_of more
unfolding slopes_of
slopes_append {A} zero [] more h = refl
slopes_append {A} zero (a ∷ rows) more h = absurd (omega arith)
slopes_append {A} (suc t) [] more h = absurd (omega arith)
slopes_append {A} (suc t) (a ∷ []) more h = absurd (omega arith)
slopes_append {A} (suc t) (a ∷ b ∷ []) more h = absurd (omega arith)
slopes_append {A} (suc t) (a ∷ b ∷ c ∷ []) more h = absurd (omega arith)
slopes_append {A} (suc t) (a ∷ b ∷ c ∷ d ∷ []) more h = absurd (omega arith)
slopes_append {A} (suc t) (a ∷ b ∷ c ∷ d ∷ e ∷ []) more h = absurd (omega arith)
slopes_append {A} (suc t) (a ∷ b ∷ c ∷ d ∷ e ∷ slope ∷ rows) more h = ap (λ (l : List A). slope ∷ l) (slopes_append t rows more (omega arith))

-- ---- number by number

pub five_at : (rows : List ℕ) (k f : ℕ) → k * kept_width + kept_width ≤ length rows → f < port_width
    → get_or (without_slopes rows) (k * port_width + f) 0 ≡ get_or rows (k * kept_width + f) 0
unfolding without_slopes
five_at (a ∷ b ∷ c ∷ d ∷ e ∷ slope ∷ rows) zero zero h l = refl
five_at (a ∷ b ∷ c ∷ d ∷ e ∷ slope ∷ rows) zero (suc zero) h l = refl
five_at (a ∷ b ∷ c ∷ d ∷ e ∷ slope ∷ rows) zero (suc (suc zero)) h l = refl
five_at (a ∷ b ∷ c ∷ d ∷ e ∷ slope ∷ rows) zero (suc (suc (suc zero))) h l = refl
five_at (a ∷ b ∷ c ∷ d ∷ e ∷ slope ∷ rows) zero (suc (suc (suc (suc zero)))) h l = refl
five_at (a ∷ b ∷ c ∷ d ∷ e ∷ slope ∷ rows) zero (suc (suc (suc (suc (suc f))))) h l = absurd (omega arith)
five_at (a ∷ b ∷ c ∷ d ∷ e ∷ slope ∷ rows) (suc k) f h l =
    let five : suc k * port_width + f ≡ suc (suc (suc (suc (suc (k * port_width + f))))) = omega arith in
    let six : suc k * kept_width + f ≡ suc (suc (suc (suc (suc (suc (k * kept_width + f)))))) = omega arith in
    rw (five, six) (five_at rows k f (omega arith) l)
five_at (a ∷ b ∷ c ∷ d ∷ e ∷ []) k f h l = absurd (omega arith)
five_at (a ∷ b ∷ c ∷ d ∷ []) k f h l = absurd (omega arith)
five_at (a ∷ b ∷ c ∷ []) k f h l = absurd (omega arith)
five_at (a ∷ b ∷ []) k f h l = absurd (omega arith)
five_at (a ∷ []) k f h l = absurd (omega arith)
five_at [] k f h l = absurd (omega arith)

pub slope_at_row : (rows : List ℕ) (k : ℕ) → k * kept_width + kept_width ≤ length rows → get_or (slopes_of rows) k 0 ≡ get_or rows (k * kept_width + 5) 0
unfolding slopes_of
slope_at_row (a ∷ b ∷ c ∷ d ∷ e ∷ slope ∷ rows) zero h = refl
slope_at_row (a ∷ b ∷ c ∷ d ∷ e ∷ slope ∷ rows) (suc k) h =
    let six : suc k * kept_width + 5 ≡ suc (suc (suc (suc (suc (suc (k * kept_width + 5)))))) = omega arith in
    rw six (slope_at_row rows k (omega arith))
slope_at_row (a ∷ b ∷ c ∷ d ∷ e ∷ []) k h = absurd (omega arith)
slope_at_row (a ∷ b ∷ c ∷ d ∷ []) k h = absurd (omega arith)
slope_at_row (a ∷ b ∷ c ∷ []) k h = absurd (omega arith)
slope_at_row (a ∷ b ∷ []) k h = absurd (omega arith)
slope_at_row (a ∷ []) k h = absurd (omega arith)
slope_at_row [] k h = absurd (omega arith)

pub cut_map : {A B : Type 0} (f : A → B) (rows : List A) → without_slopes (map f rows) ≡ map f (without_slopes rows)
unfolding without_slopes
cut_map f (a ∷ b ∷ c ∷ d ∷ e ∷ slope ∷ rows) = rw (cut_map f rows)
cut_map f (a ∷ b ∷ c ∷ d ∷ e ∷ []) = refl
cut_map f (a ∷ b ∷ c ∷ d ∷ []) = refl
cut_map f (a ∷ b ∷ c ∷ []) = refl
cut_map f (a ∷ b ∷ []) = refl
cut_map f (a ∷ []) = refl
cut_map f [] = refl

-- ---- cut

row_cut : (p : Connection) (l : Option (ℕ × ℕ)) (slope : ℕ) → without_slopes (sloped_by p l slope) ≡ row_by p l
unfolding without_slopes
row_cut p (Some (i, j)) slope = refl
row_cut p None slope = refl

cut_below : (rules : ℕ) (cs ps : List ℤ) (k : ℕ) → without_slopes (sloped_below rules cs ps k) ≡ rows_below rules cs ps k
unfolding rows_below sloped_below without_slopes
cut_below rules cs ps zero = refl
cut_below rules cs ps (suc k) =
    let p = connection ps k in
    let before = sloped_whole rules cs ps k in
    cut_append before.0 (sloped_below rules cs ps k) (sloped_row rules cs ps k) before.1
    ∙ rw (cut_below rules cs ps k, row_cut p (link_of rules cs p) (slope_along cs p))

-- as many
pub sloped_count : (rules : ℕ) (cs ps : List ℤ) → length (sloped_rows rules cs ps) ≡ kept_count rules cs ps * kept_width
sloped_count rules cs ps =
    let whole = sloped_whole rules cs ps (connection_count ps) in
    omega (arith, sloped_long rules cs ps (connection_count ps), whole.1)

-- the ports entry's rows without their slopes are the list that the liveness entry takes
pub cut_sloped : (rules : ℕ) (cs ps : List ℤ) → without_slopes (sloped_rows rules cs ps) ≡ kept_rows rules cs ps
cut_sloped rules cs ps = cut_below rules cs ps (connection_count ps)

-- ---- sizes

pub code_most : (slope : Slope) → slope_code slope ≤ step.Falling
code_most Level = omega arith
code_most Rising = omega arith
code_most Falling = omega arith

pub slopes_most : (cs : List ℤ) (p : Connection) → slope_along cs p ≤ step.Falling
slopes_most cs p = go (place_of cs p.source) (place_of cs p.sink)
  where
    go : (f g : Option ℕ) → slope_at cs f g ≤ step.Falling
    go None g = omega arith
    go (Some a) None = omega arith
    go (Some a) (Some b) =
        let from = component cs a in
        let to = component cs b in
        slope_most from.x from.y from.z to.x to.y to.z

row_small : (cs : List ℤ) (p : Connection) (l : Option (ℕ × ℕ)) (k : ℕ) → get_or (sloped_by p l (slope_along cs p)) (k * kept_width + 5) 0 ≤ step.Falling
row_small cs p (Some (a, b)) zero = slopes_most cs p
row_small cs p (Some (a, b)) (suc k) =
    let past : suc k * kept_width + 5 ≡ suc (suc (suc (suc (suc (suc (k * kept_width + 5)))))) = omega arith in
    rw past (omega arith)
row_small cs p None k = omega arith

-- the sixth number of each row
pub sloped_small : (rules : ℕ) (cs ps : List ℤ) (n k : ℕ) → get_or (sloped_below rules cs ps n) (k * kept_width + 5) 0 ≤ step.Falling
unfolding sloped_below
sloped_small rules cs ps zero k = omega arith
sloped_small rules cs ps (suc n) k =
    let before = sloped_below rules cs ps n in
    let row = sloped_row rules cs ps n in
    let (turns, whole) = sloped_whole rules cs ps n in
    ⊎_elim
    (λ (inside : k * kept_width + 5 < length before).
    rw (get_or-append before row 0 (k * kept_width + 5) inside) (sloped_small rules cs ps n k))
    (λ (past : length before ≤ k * kept_width + 5).
    let there : k * kept_width + 5 ≡ length before + ((k - turns) * kept_width + 5) = omega (arith, whole) in
    rw (there, get_or-append-add before row ((k - turns) * kept_width + 5) 0)
    (row_small cs (connection ps n) (link_of rules cs (connection ps n)) (k - turns)))
    (cases_lt (k * kept_width + 5) (length before))
