-- Rows written one after the other into a slice.
--     small_read, natural_read     numbers read back from their bits
--     part_put                     a row written over a part of its length
--     put_more                     one more row after those that are laid
--     Laid                         the rows kept of the connections below k, none at first, one connection more, and all
-- Assumes nothing.
use Rattle.std.specs.Prelude.{Option, Some, None}
use mathlib.Core.Path.{◌≡◌, refl, sym, ◌∙◌}
use mathlib.Core.List.{List, ◌++◌, map, append_assoc, map-append}
use Prim.Native.Nat.{ℕ, ◌+◌, ◌*◌, ◌≤◌, ◌<◌}
use native.Mathlib.Numerals.{add-one}
use native.Mathlib.Omega.{arith}
use lib.ListN.{length, length-append, length-map}
use lib.Seq.{take-append_seam, drop-append-add, drop-drop}
use lib.IntN.{ℤ, pos, nat_abs}
use lib.Dec.{T}
use lib.Signed.{non_neg, pos-nat_abs}
use borrow.Rule.Slice.PartMut.{put_mid}
use mir.Syntax.{w64}
use mir.Val.{to_z, of_z, SFits}
use mir.Facts.{to_z-of_z}
use Rattle.lists.specs.Limits.{kept_width}
use Rattle.lists.specs.Records.{Connection, connection, connection_count}
use Rattle.lists.specs.Slices.{laid}
use Rattle.scene.specs.Kept.{link_of, slope_along, sloped_by, sloped_row, sloped_below}
use Rattle.scene.specs.Answer.{Put, Filled, AllKept}
use Rattle.scene.proofs.Slopes.{sloped_long}

-- a row written over a part of its length
pub part_put : {part row : List ℤ} (l : List ℤ) (a k : ℕ) → part ≡ row → length row ≡ k → Put row a l (put_mid a k l part)
part_put {part} {row} l a k e n = record { wrote = rw (e, n, drop-drop, append_assoc) }

-- a number that is not negative, read back from its bits
pub small_read : (n : ℕ) → n < 9223372036854775808 → to_z w64 n ≡ pos n
small_read n h = to_z-of_z {w = w64} {z = pos n} (record { sfits = h })

pub natural_read : (z : ℤ) → SFits w64 z → T (non_neg z) → to_z w64 (of_z w64 z) ≡ pos (nat_abs z)
natural_read z f t = to_z-of_z f ∙ sym (pos-nat_abs z t)

-- a row put after rows that are laid
pub put_more : (rows row out out₁ out₂ : List ℤ) → out₁ ≡ laid rows out → Put row (length rows) out₁ out₂ → out₂ ≡ laid (rows ++ row) out
put_more rows row out out₁ out₂ e p =
    p.wrote ∙ rw (e, take-append_seam, drop-append-add, drop-drop, length-append)

-- ---- the rows of the connections below k

-- `count` rows are laid, which are those kept of connections 0, 1, .., k - 1
pub record Laid (rules : ℕ) (cs ps old out : List ℤ) (count k : ℕ) : Type 0 where
  pub rows : out ≡ laid (map pos (sloped_below rules cs ps k)) old
  pub full : count * kept_width ≡ length (map pos (sloped_below rules cs ps k))
  pub few : count ≤ k

pub none_laid : (rules : ℕ) (cs ps old : List ℤ) → Laid rules cs ps old old 0 0
unfolding sloped_below
none_laid rules cs ps old = record { rows = refl; full = refl; few = omega arith }

row_few : (p : Connection) (l : Option (ℕ × ℕ)) (slope : ℕ) → length (sloped_by p l slope) ≤ kept_width
row_few p (Some (i, j)) slope = omega arith
row_few p None slope = omega arith

rows_more : (rules : ℕ) (cs ps : List ℤ) (k : ℕ) → map pos (sloped_below rules cs ps (k + 1)) ≡ map pos (sloped_below rules cs ps k) ++ map pos (sloped_row rules cs ps k)
unfolding sloped_below
rows_more rules cs ps k = rw (add-one k) (map-append pos (sloped_below rules cs ps k) (sloped_row rules cs ps k))

pub one_laid : (rules : ℕ) (cs ps old out out' : List ℤ) (count k r : ℕ) → Laid rules cs ps old out count k
    → Filled (map pos (sloped_row rules cs ps k)) count out out' r → Laid rules cs ps old out' r (k + 1)
one_laid rules cs ps old out out' count k r i f =
    let put = rw i.full at f.put in
    let p = connection ps k in
    let few = row_few p (link_of rules cs p) (slope_along cs p) in
    record {
      rows = rw (rows_more rules cs ps k) (put_more (map pos (sloped_below rules cs ps k)) (map pos (sloped_row rules cs ps k)) old out out' i.rows put);
      full = rw (rows_more rules cs ps k, length-append) (omega (arith, f.count, i.full));
      few = omega (arith, f.count, i.few, few, length-map (sloped_row rules cs ps k) pos);
    }

pub all_laid : (rules : ℕ) (cs ps old out : List ℤ) (count k : ℕ) → connection_count ps ≡ k → Laid rules cs ps old out count k → AllKept rules cs ps old out count
all_laid rules cs ps old out count k e i =
    record { rows = rw e i.rows; count = rw e (omega (arith, i.full, length-map (sloped_below rules cs ps k) pos, sloped_long rules cs ps k)) }
