-- Rows written one after the other into a slice: those of the items that pass a test.
--     Laid                       the rows of the items below k stand at the front; none at first, one item more
--     Parted                     both lists at item k, as the loop of `part` leaves them; and all of both
-- Assumes nothing.
use Rattle.std.specs.Prelude.{Option, Some, None}
use mathlib.Core.Path.{◌≡◌, refl, ap, ◌∙◌}
use mathlib.Core.Bool.{Bool, true, false, not, cond}
use mathlib.Core.List.{List, [], append_assoc, ◌∷◌, ◌++◌}
use Prim.Native.Nat.{ℕ, ◌+◌, ◌*◌, ◌/◌, ◌≤◌, ◌<◌}
use native.Mathlib.Numerals.{add-one}
use native.Mathlib.Omega.{arith}
use lib.ListN.{length, take, drop, length-append}
use lib.Seq.{take-append_seam, drop-append-add, drop-drop}
use lib.IntN.{ℤ}
use borrow.Rule.Slice.PartMut.{put_mid}
use Rattle.std.specs.List.{flat_map}
use Rattle.lists.specs.Limits.{port_width}
use Rattle.lists.specs.Records.{port_count}
use Rattle.lists.specs.Ids.{end_missing, IdTable}
use Rattle.lists.specs.Slices.{laid}
use Rattle.assessment.specs.Rows.{Put}
use Rattle.clearing.proofs.Kept.{rows_more, row_long}
use Rattle.clearing.proofs.Items.{items_below, items_yes, items_no}
use Rattle.clearing.specs.Parts.{port_row, missing_number, dropped_width, dropped_row}
use Rattle.clearing.specs.Written.{fate_of, PartedFor}
use Rattle.clearing.specs.declared.Missing.{Missing}

-- ---- a slice

-- the rows of these items, of a width, stand at the front and take up `at` places
pub record Laid {A : Type 0} (row : ℕ → List A) (width : ℕ) (old out : List A) (items : List ℕ) (at : ℕ) : Type 0 where
  pub rows : out ≡ laid (flat_map row items) old
  pub long : at ≡ length (flat_map row items)
  pub full : at ≡ length items * width

module _ {A : Type 0} (row : ℕ → List A) (width : ℕ) (old : List A) where
  pub none_laid : Laid row width old old [] 0
  none_laid = record { rows = refl; long = refl; full = omega arith }

  pub item_laid : {out out' : List A} {items : List ℕ} {at : ℕ} (k : ℕ) → Laid row width old out items at → length (row k) ≡ width
      → out' ≡ take at out ++ (row k ++ drop (at + length (row k)) out) → Laid row width old out' (items ++ (k ∷ [])) (at + width)
  item_laid {out} {out'} {items} {at} k l w put =
      let before = flat_map row items in
      let there : out' ≡ take (length before) (laid before old) ++ (row k ++ drop (length before + length (row k)) (laid before old)) =
      rw (l.rows, l.long) at put in
      record {
        rows = there ∙ rw (rows_more row items k, take-append_seam, drop-append-add, drop-drop, length-append, append_assoc);
        long = rw (rows_more row items k, length-append, w) (omega (arith, l.long));
        full = rw length-append (omega (arith, l.full));
      }

-- ---- both lists

abbrev pub stays : List ℤ → List ℤ → ℕ → Bool
stays cs ps k = not (end_missing cs ps k)

-- at item k, for whatever components the keys are the table of ids of
pub record Parted (keys : List ℕ) (ps kept₀ kept : List ℤ) (dropped₀ dropped : List ℕ) (kept_end dropped_end k : ℕ) : Type 0 where
  pub kept_few : kept_end ≤ k * port_width
  pub dropped_few : dropped_end ≤ k * dropped_width
  pub kept_long : length kept ≡ length kept₀
  pub dropped_long : length dropped ≡ length dropped₀
  pub kept_laid : (cs : List ℤ) → IdTable cs keys → Laid (port_row ps) port_width kept₀ kept (items_below (stays cs ps) k) kept_end
  pub dropped_laid : (cs : List ℤ) → IdTable cs keys → Laid (dropped_row cs ps) dropped_width dropped₀ dropped (items_below (end_missing cs ps) k) dropped_end

-- what the fate says of the item
fate_none : (t : Bool) (m : Missing) → ◌≡◌ {A = Option Missing} None (cond t (Some m) None) → t ≡ false
fate_none true m e = let z : ◌≡◌ {A = ℕ} 0 1 = cc in absurd (omega arith)
fate_none false m e = refl

fate_some : (t : Bool) (m n : Missing) → ◌≡◌ {A = Option Missing} (Some n) (cond t (Some m) None) → (t ≡ true) × (n ≡ m)
fate_some true m n e = (refl, cc)
fate_some false m n e = let z : ◌≡◌ {A = ℕ} 0 1 = cc in absurd (omega arith)

module _ {keys : List ℕ} {ps kept₀ kept : List ℤ} {dropped₀ dropped : List ℕ} {m n k : ℕ} (p : Parted keys ps kept₀ kept dropped₀ dropped m n k) where
  pub one_kept : {kept' part : List ℤ} {i j : ℕ} → k < port_count ps → ((cs : List ℤ) → IdTable cs keys → None ≡ fate_of cs ps k)
      → length kept' ≡ length kept → i ≡ port_width → j ≡ port_width → part ≡ take i (drop (k * port_width) ps) → kept' ≡ put_mid m j kept part
      → Parted keys ps kept₀ kept' dropped₀ dropped (m + port_width) n (k + 1)
  one_kept {kept'} {part} {i} {j} h fate same wide wide' read wrote =
      let five = row_long ps k h in
      record {
        kept_few = omega (arith, p.kept_few);
        dropped_few = omega (arith, p.dropped_few);
        kept_long = same ∙ p.kept_long;
        dropped_long = p.dropped_long;
        kept_laid = λ cs t.
            rw (add-one k, items_yes (stays cs ps) k (ap not (fate_none (end_missing cs ps k) _ (fate cs t))))
            (item_laid (port_row ps) 5 kept₀ k (p.kept_laid cs t) five (wrote ∙ rw (read, wide, wide', five, drop-drop)));
        dropped_laid = λ cs t. rw (add-one k, items_no (end_missing cs ps) k (fate_none (end_missing cs ps k) _ (fate cs t))) (p.dropped_laid cs t);
      }

  pub one_dropped : {x : Missing} {dropped' : List ℕ} {r : ℕ} → ((cs : List ℤ) → IdTable cs keys → Some x ≡ fate_of cs ps k) → length dropped' ≡ length dropped
      → Put (k ∷ missing_number x ∷ []) n dropped dropped' r → Parted keys ps kept₀ kept dropped₀ dropped' m r (k + 1)
  one_dropped {x} {dropped'} {r} fate same put =
      rw put.place (record {
        kept_few = omega (arith, p.kept_few);
        dropped_few = omega (arith, p.dropped_few);
        kept_long = p.kept_long;
        dropped_long = same ∙ p.dropped_long;
        kept_laid = λ cs t. rw (add-one k, items_no (stays cs ps) k (ap not (fate_some (end_missing cs ps k) _ x (fate cs t)).0)) (p.kept_laid cs t);
        dropped_laid = λ cs t.
            let f = fate_some (end_missing cs ps k) _ x (fate cs t) in
            rw (add-one k, items_yes (end_missing cs ps) k f.0)
            (item_laid (dropped_row cs ps) 2 dropped₀ k (p.dropped_laid cs t) refl (rw f.1 at put.is));
      })

  pub all_parted : port_count ps ≡ k → (cs : List ℤ) → IdTable cs keys
      → PartedFor cs ps kept₀ kept dropped₀ dropped (record { kept = m / port_width; dropped = n / dropped_width })
  all_parted e cs t =
      let a = p.kept_laid cs t in
      let b = p.dropped_laid cs t in
      record {
        counts = record { kept_count = rw e (omega (arith, a.full)); dropped_count = rw e (omega (arith, b.full)) };
        kept_left = rw e a.rows;
        dropped_left = rw e b.rows;
      }
