-- Rows of six, cut to rows of five and slopes, and put together again.
--     CutTo, cut_none, cut_more, cut_all     cut a row at a time, where they stand
--     sixth_at                               the slope of the next row
--     first_rows, rows_step, rows_all, row_joined      put together a row at a time
-- Assumes nothing.
use mathlib.Core.Path.{◌≡◌, refl, sym, ap, ◌∙◌}
use mathlib.Core.List.{List, [], ◌∷◌, ◌++◌, map, map-append}
use Prim.Native.Nat.{ℕ, zero, suc, ◌+◌, ◌*◌, ◌≤◌, ◌<◌}
use native.Mathlib.Nat.{add-zero}
use native.Mathlib.Omega.{arith}
use lib.Dec.{T}
use lib.Signed.{non_neg}
use lib.IntN.{ℤ, pos}
use lib.ListN.{length-map, length, get_or, take, drop, set, length-drop, get_or-map}
use lib.Seq.{paste, length-take-le}
use Rattle.std.proofs.lemmas.List.{take-take, drop-take, drop-drop, take-map, drop-map, take_all, take_more_set, get_or-drop, get_or-take}
use Rattle.std.proofs.lemmas.List.Edits.{take-paste, drop-paste, length-paste}
use lib.Seq.{take-add}
use Rattle.lists.specs.Limits.{port_width}
use Rattle.lists.specs.Records.{natural_at}
use Rattle.lists.specs.Signed.{at}
use Rattle.scene.specs.Kept.{without_slopes, slopes_of}
use Rattle.scene.proofs.Slopes.{five_at, slope_at_row, cut_append, slopes_append}
use Rattle.assessment.specs.Rows.{Put}
use Rattle.assessment.proofs.Devices.{Few}
use Rattle.report.specs.Printing.{SlopedFront, Cut}
use Rattle.report.proofs.RowText.{natural_in, natural_is}

-- ---- a row of six

record SixIs (l : List ℕ) : Type 0 where
  pub five : without_slopes l ≡ take 5 l
  pub sixth : slopes_of l ≡ get_or l 5 0 ∷ []
  pub is : l ≡ get_or l 0 0 ∷ get_or l 1 0 ∷ get_or l 2 0 ∷ get_or l 3 0 ∷ get_or l 4 0 ∷ get_or l 5 0 ∷ []

six_is : (l : List ℕ) → length l ≡ 6 → SixIs l
unfolding without_slopes slopes_of
six_is (a ∷ b ∷ c ∷ d ∷ e ∷ f ∷ []) h = record { five = refl; sixth = refl; is = refl }
six_is (a ∷ b ∷ c ∷ d ∷ e ∷ f ∷ g ∷ l) h = absurd (omega arith)
six_is (a ∷ b ∷ c ∷ d ∷ e ∷ []) h = absurd (omega arith)
six_is (a ∷ b ∷ c ∷ d ∷ []) h = absurd (omega arith)
six_is (a ∷ b ∷ c ∷ []) h = absurd (omega arith)
six_is (a ∷ b ∷ []) h = absurd (omega arith)
six_is (a ∷ []) h = absurd (omega arith)
six_is [] h = absurd (omega arith)

-- row k of rows of six
abbrev pub six : List ℕ → ℕ → List ℕ
six rows k = take 6 (drop (k * 6) rows)

module _ (rows : List ℕ) (k : ℕ) (h : k * 6 + 6 ≤ length rows) where
  six_long : length (six rows k) ≡ 6
  six_long = length-take-le 6 (drop (k * 6) rows) (omega (arith, length-drop (k * 6) rows))

  six_at : (f : ℕ) → f < 6 → get_or (six rows k) f 0 ≡ get_or rows (k * 6 + f) 0
  six_at f l = get_or-take 6 (drop (k * 6) rows) f 0 l ∙ get_or-drop (k * 6) rows f 0

  front_long : length (take (k * 6) rows) ≡ k * 6
  front_long = length-take-le (k * 6) rows (omega arith)

  one_more : take ((k + 1) * 6) rows ≡ take (k * 6) rows ++ six rows k
  one_more = let next : (k + 1) * 6 ≡ k * 6 + 6 = omega arith in rw next (take-add (k * 6) 6 rows)

  five_more : without_slopes (take ((k + 1) * 6) rows) ≡ without_slopes (take (k * 6) rows) ++ take 5 (six rows k)
  five_more = rw (one_more, cut_append k (take (k * 6) rows) (six rows k) front_long, (six_is (six rows k) six_long).five)

  sixth_more : slopes_of (take ((k + 1) * 6) rows) ≡ slopes_of (take (k * 6) rows) ++ (get_or rows (k * 6 + 5) 0 ∷ [])
  sixth_more =
      rw (one_more, slopes_append k (take (k * 6) rows) (six rows k) front_long, (six_is (six rows k) six_long).sixth, six_at 5 (omega arith))

-- ---- cut where they stand

-- up to row k: the rows from k on are still whole
pub record CutTo (rows : List ℕ) (old new : List ℤ) (slopes : List ℕ) (k : ℕ) : Type 0 where
  pub five : take (k * 5) new ≡ map pos (without_slopes (take (k * 6) rows))
  pub rest : drop (k * 6) new ≡ drop (k * 6) old
  pub sixth : take k slopes ≡ slopes_of (take (k * 6) rows)
  pub long : length new ≡ length old

module _ {rows : List ℕ} {n : ℕ} {old : List ℤ} (front : SlopedFront rows n old) where
  pub cut_none : (slopes : List ℕ) → CutTo rows old old slopes 0
  unfolding without_slopes slopes_of
  cut_none slopes = record { five = refl; rest = refl; sixth = refl; long = refl }

  -- numbers of row k, in the slice as it was
  here : (k f : ℕ) → k < n → f ≤ 6 → take f (drop (k * 6) old) ≡ map pos (take f (drop (k * 6) rows))
  here k f h l =
      sym (drop-take (k * 6) f old)
      ∙ ap (drop (k * 6)) (sym (take-take (k * 6 + f) (n * 6) old (omega arith)) ∙ ap (take (k * 6 + f)) front.is ∙ take-map pos (k * 6 + f) rows)
      ∙ drop-map pos (k * 6) (take (k * 6 + f) rows)
      ∙ ap (map pos) (drop-take (k * 6) f rows)

  module _ {new : List ℤ} {slopes : List ℕ} {k : ℕ} (i : CutTo rows old new slopes k) (h : k < n) where
    pub sixth_at : get_or new (k * 6 + 5) (pos 0) ≡ pos (get_or rows (k * 6 + 5) 0)
    sixth_at =
        sym (get_or-drop (k * 6) new 5 (pos 0))
        ∙ ap (λ (l : List ℤ). get_or l 5 (pos 0)) i.rest
        ∙ get_or-drop (k * 6) old 5 (pos 0)
        ∙ sym (get_or-take (n * 6) old (k * 6 + 5) (pos 0) (omega arith))
        ∙ ap (λ (l : List ℤ). get_or l (k * 6 + 5) (pos 0)) front.is
        ∙ get_or-map pos rows (k * 6 + 5) 0

    pub cut_more : n * 6 ≤ length new → k < length slopes → {newer : List ℤ} {w v : ℕ} → w ≡ 5 → newer ≡ paste new (k * 5) (drop (k * 6) new) w
        → v ≡ get_or rows (k * 6 + 5) 0 → CutTo rows old newer (set slopes k v) (k + 1)
    cut_more room place {newer} {w} {v} five e same =
        let inside : k * 6 + 6 ≤ length rows = omega (arith, front.long) in
        let there : k * 5 ≤ length new = omega (arith, room) in
        let enough : 5 ≤ length (drop (k * 6) new) = omega (arith, room, length-drop (k * 6) new) in
        let is : newer ≡ paste new (k * 5) (drop (k * 6) new) 5 = rw five at e in
        let next : (k + 1) * 5 ≡ k * 5 + 5 = omega arith in
        let past : (k + 1) * 6 ≡ k * 5 + 5 + (k + 1) = omega arith in
        let last : (k + 1) * 6 ≡ k * 6 + 6 = omega arith in
        let moved : take 5 (drop (k * 6) new) ≡ map pos (take 5 (six rows k)) =
        ap (take 5) i.rest ∙ here k 5 h (omega arith) ∙ ap (map pos) (sym (take-take 5 6 (drop (k * 6) rows) (omega arith))) in
        let front-five : take ((k + 1) * 5) newer ≡ map pos (without_slopes (take (k * 6) rows)) ++ map pos (take 5 (six rows k)) =
        rw (is, next) (take-paste new (k * 5) (drop (k * 6) new) 5 there enough ∙ rw (i.five, moved)) in
        record {
          five = front-five ∙ sym (map-append pos (without_slopes (take (k * 6) rows)) (take 5 (six rows k))) ∙ ap (map pos) (sym (five_more rows k inside));
          rest =
              ap (λ (m : ℕ). drop m newer) past
              ∙ sym (drop-drop (k + 1) (k * 5 + 5) newer)
              ∙ ap (drop (k + 1)) (rw is (drop-paste new (k * 5) (drop (k * 6) new) 5 there enough))
              ∙ drop-drop (k + 1) (k * 5 + 5) new
              ∙ ap (λ (m : ℕ). drop m new) (sym past ∙ last)
              ∙ sym (drop-drop 6 (k * 6) new)
              ∙ ap (drop 6) i.rest
              ∙ drop-drop 6 (k * 6) old
              ∙ ap (λ (m : ℕ). drop m old) (sym last);
          sixth = take_more_set slopes k v place ∙ rw (sixth_more rows k inside, i.sixth, same);
          long = rw is (length-paste new (k * 5) (drop (k * 6) new) 5 (omega (arith, room)) enough ∙ i.long);
        }

  pub cut_all : {new : List ℤ} {slopes : List ℕ} {k : ℕ} → n ≡ length slopes → n ≡ k → CutTo rows old new slopes k
      → Cut rows (take (n * port_width) new) slopes
  cut_all {new} {slopes} {k} many all i =
      let whole : take (n * 6) rows ≡ rows = take_all (n * 6) rows (omega (arith, front.long)) in
      let cut : CutTo rows old new slopes n = rw all i in
      record {
        long = rw (← many) front.long;
        five_are = cut.five ∙ ap (λ (l : List ℕ). map pos (without_slopes l)) whole;
        slopes_are = sym (take_all n slopes (omega (arith, many))) ∙ cut.sixth ∙ ap slopes_of whole;
      }

-- ---- put together

cut_long : (rows : List ℕ) (k : ℕ) → length rows ≡ k * 6 → length (without_slopes rows) ≡ k * 5
unfolding without_slopes
cut_long (a ∷ b ∷ c ∷ d ∷ e ∷ f ∷ rows) zero h = absurd (omega arith)
cut_long (a ∷ b ∷ c ∷ d ∷ e ∷ f ∷ rows) (suc k) h = omega (arith, cut_long rows k (omega arith))
cut_long (a ∷ b ∷ c ∷ d ∷ e ∷ []) k h = absurd (omega arith)
cut_long (a ∷ b ∷ c ∷ d ∷ []) k h = absurd (omega arith)
cut_long (a ∷ b ∷ c ∷ []) k h = absurd (omega arith)
cut_long (a ∷ b ∷ []) k h = absurd (omega arith)
cut_long (a ∷ []) k h = absurd (omega arith)
cut_long [] k h = omega (arith, h)

-- the first k rows
abbrev pub first_rows : List ℕ → ℕ → List ℕ
first_rows rows k = take (k * 6) rows

pub rows_step : (rows : List ℕ) (k : ℕ) → first_rows rows (suc k) ≡ first_rows rows k ++ six rows k
rows_step rows k = let next : suc k * 6 ≡ k * 6 + 6 = omega arith in rw next (take-add (k * 6) 6 rows)

module _ {rows : List ℕ} {five : List ℤ} {slopes : List ℕ} (cut : Cut rows five slopes) where
  pub rows_all : (k : ℕ) → length slopes ≤ k → first_rows rows k ≡ rows
  rows_all k h = take_all (k * 6) rows (omega (arith, cut.long))

  pub five_long : length five ≡ length slopes * 5
  five_long = rw cut.five_are (length-map (without_slopes rows) pos ∙ cut_long rows (length slopes) cut.long)

  module _ (k : ℕ) (h : k < length slopes) where
    inside : k * 6 + 6 ≤ length rows
    inside = omega (arith, cut.long)

    pub row_few : Few (six rows k) 6 6
    row_few = record { turns = 1; whole = six_long rows k inside; few = omega (arith, six_long rows k inside) }

    pub number_in : (f : ℕ) → f < 5 → (k * 5 + f < length five) × T (non_neg (at five (k * 5 + f)))
    number_in f l = (omega (arith, five_long), natural_in (without_slopes rows) cut.five_are (k * 5 + f))

    pub first_in : (k * 5 < length five) × T (non_neg (at five (k * 5)))
    first_in = (omega (arith, five_long), natural_in (without_slopes rows) cut.five_are (k * 5))

    number : (f : ℕ) → f < 5 → natural_at five (k * 5 + f) ≡ get_or rows (k * 6 + f) 0
    number f l = natural_is (without_slopes rows) cut.five_are (k * 5 + f) ∙ five_at rows k f inside l

    pub row_joined : {at r : ℕ} {old new : List ℕ} {a b c d e f : ℕ} → a ≡ natural_at five (k * 5) → b ≡ natural_at five (k * 5 + 1)
        → c ≡ natural_at five (k * 5 + 2) → d ≡ natural_at five (k * 5 + 3) → e ≡ natural_at five (k * 5 + 4) → f ≡ get_or slopes k 0
        → Put (a ∷ b ∷ c ∷ d ∷ e ∷ f ∷ []) at old new r → Put (six rows k) at old new r
    row_joined p q r s t u put =
        let first : natural_at five (k * 5) ≡ get_or rows (k * 6 + 0) 0 = rw add-zero at (number 0 (omega arith)) in
        let slope : get_or slopes k 0 ≡ get_or rows (k * 6 + 5) 0 = rw cut.slopes_are (slope_at_row rows k inside) in
        rw (
          (six_is (six rows k) (six_long rows k inside)).is,
          six_at rows k inside 0 (omega arith),
          six_at rows k inside 1 (omega arith),
          six_at rows k inside 2 (omega arith),
          six_at rows k inside 3 (omega arith),
          six_at rows k inside 4 (omega arith),
          six_at rows k inside 5 (omega arith),
          ← first,
          ← number 1 (omega arith),
          ← number 2 (omega arith),
          ← number 3 (omega arith),
          ← number 4 (omega arith),
          ← slope,
          ← p,
          ← q,
          ← r,
          ← s,
          ← t,
          ← u,
        ) put
