-- Laws of places: what stands where, which ids are present, how many blocks there are, and one place changed.
--     taken_below                       a block stands at a place that was used
--     present_at, present_found         an id is present exactly if a block with it stands somewhere
--     place_is, place_found             its place
--     Changed, set_changed, snoc_changed   one place changed, the others as they were
--     count_set_taken, count_set_free, count_snoc, count_all, count_less    the number present
-- Assumes nothing.
use Rattle.std.specs.Prelude.{Option, Some, None}
use mathlib.Core.Path.{◌≡◌, refl, sym, ap, ◌∙◌}
use mathlib.Core.Bool.{Bool, true, false}
use mathlib.Core.List.{List, [], ◌∷◌, ◌++◌}
use mathlib.Core.Logic.{◌⊎◌, inl, inr}
use Prim.Native.Nat.{ℕ, zero, suc, ◌≤◌, ◌<◌}
use native.Mathlib.Omega.{arith}
use lib.ListN.{length, set, length-append, get_or-eq_default, get_or-append}
use lib.Seq.{get_or-set_same, get_or-set_other, get_or-append_seam}
use lib.Dec.{eqb, ltb}
use borrow.Author.Tests.{eqb-true, eqb-false, eq-eqb, ltb-true, ltb-false}
use Rattle.lists.specs.First.{is_found}
use Rattle.lists.proofs.Search.{never, none_found, found_at}
use Rattle.held.specs.Plot.{Record, Place, free, taken, at, blocks, present, id_of, holds, place_of, is_present}
use Rattle.held.proofs.Lists.{true_not_false}

-- ---- numbers and places

pub same_or_not : (j k : ℕ) → (j ≡ k) ⊎ (j ≡ k → ⊥)
same_or_not j k = go (eqb j k) refl
  where
    go : (t : Bool) → eqb j k ≡ t → (j ≡ k) ⊎ (j ≡ k → ⊥)
    go true e = inl (eqb-true j k e)
    go false e = inr (eqb-false j k e)

pub not_both : {X : Type 0} (p : Place) (r : Record) → p ≡ taken r → p ≡ free → X
not_both p r e f = let z : ◌≡◌ {A = ℕ} 0 1 = cc in absurd (omega arith)

pub same_block : (r s : Record) → taken r ≡ taken s → r ≡ s
same_block r s e = cc

-- a block stands at a place that was used
pub taken_below : (ps : List Place) (k : ℕ) (r : Record) → at ps k ≡ taken r → k < length ps
taken_below ps k r e = go (ltb k (length ps)) refl
  where
    go : (t : Bool) → ltb k (length ps) ≡ t → k < length ps
    go true h = ltb-true k (length ps) h
    go false h = not_both (at ps k) r e (get_or-eq_default ps free (ltb-false k (length ps) h))

-- ---- ids that are present

-- a block with the id stands at place k
pub record Stands (ps : List Place) (id k : ℕ) : Type 0 where
  pub block : Record
  pub here : at ps k ≡ taken block
  pub named : id_of block ≡ id

holds_stands : (ps : List Place) (id k : ℕ) → holds id (at ps k) ≡ true → Stands ps id k
holds_stands ps id k e = go (at ps k) refl e
  where
    go : (p : Place) → at ps k ≡ p → holds id p ≡ true → Stands ps id k
    go free q h = never h
    go (taken r) q h = record { block = r; here = q; named = eqb-true (id_of r) id h }

pub stands_holds : (ps : List Place) (id k : ℕ) → Stands ps id k → holds id (at ps k) ≡ true
stands_holds ps id k s = rw s.here (eq-eqb (id_of s.block) id s.named)

module _ (ps : List Place) (id : ℕ) where
  pub place_found : (k : ℕ) → place_of ps id ≡ Some k → Stands ps id k
  unfolding place_of
  place_found k e = holds_stands ps id k (found_at (λ k. holds id (at ps k)) 0 (length ps) k e).passes

  pub present_found : is_present ps id ≡ true → (k : ℕ) × Stands ps id k
  present_found e = go (place_of ps id) refl e
    where
      go : (f : Option ℕ) → place_of ps id ≡ f → is_found f ≡ true → (k : ℕ) × Stands ps id k
      go (Some k) q h = (k, place_found k q)
      go None q h = never h

  pub present_at : (k : ℕ) → Stands ps id k → is_present ps id ≡ true
  unfolding place_of
  present_at k s = go (place_of ps id) refl
    where
      go : (f : Option ℕ) → place_of ps id ≡ f → is_found f ≡ true
      go (Some j) q = refl
      go None q =
          let below = taken_below ps k s.block s.here in
          true_not_false (sym (stands_holds ps id k s) ∙ none_found (λ k. holds id (at ps k)) 0 (length ps) q k (omega arith) (omega arith))

  pub absent : is_present ps id ≡ false → (k : ℕ) → Stands ps id k → ⊥
  absent e k s = true_not_false (sym (present_at k s) ∙ e)

  pub absent_is : ((k : ℕ) → Stands ps id k → ⊥) → is_present ps id ≡ false
  absent_is none = go (is_present ps id) refl
    where
      go : (b : Bool) → is_present ps id ≡ b → is_present ps id ≡ false
      go true e = let s = present_found e in absurd (none s.0 s.1)
      go false e = e

  -- the place of an id that stands at one place only
  pub place_is : (k : ℕ) → Stands ps id k → ((j : ℕ) → Stands ps id j → j ≡ k) → place_of ps id ≡ Some k
  place_is k s one = go (place_of ps id) refl
    where
      go : (f : Option ℕ) → place_of ps id ≡ f → place_of ps id ≡ Some k
      go (Some j) q = q ∙ ap Some (one j (place_found j q))
      go None q = true_not_false (sym (present_at k s) ∙ ap is_found q)

-- ---- one place changed

pub record Changed (old new : List Place) (k : ℕ) (p : Place) : Type 0 where
  pub here : at new k ≡ p
  pub other : (j : ℕ) → (j ≡ k → ⊥) → at new j ≡ at old j

pub set_changed : (ps : List Place) (k : ℕ) (p : Place) → k < length ps → Changed ps (set ps k p) k p
set_changed ps k p h = record { here = get_or-set_same ps k p free h; other = λ j n. get_or-set_other ps k j p free n }

pub snoc_changed : (ps : List Place) (p : Place) → Changed ps (ps ++ (p ∷ [])) (length ps) p
snoc_changed ps p = record { here = get_or-append_seam ps p [] free; other = λ j n. go j n (ltb j (length ps)) refl }
  where
    go : (j : ℕ) → (j ≡ length ps → ⊥) → (t : Bool) → ltb j (length ps) ≡ t → at (ps ++ (p ∷ [])) j ≡ at ps j
    go j n true e = get_or-append ps (p ∷ []) free j (ltb-true j (length ps) e)
    go j n false e =
        let l = ltb-false j (length ps) e in
        let m : length ps < j = omega arith in
        let out : length (ps ++ (p ∷ [])) ≤ j = omega (arith, length-append ps (p ∷ [])) in
        get_or-eq_default (ps ++ (p ∷ [])) free out ∙ sym (get_or-eq_default ps free l)

-- a block that stands elsewhere stands there still, and the other way round
pub still_stands : {old new : List Place} {k : ℕ} {p : Place} → Changed old new k p → (id j : ℕ) → (j ≡ k → ⊥) → Stands old id j → Stands new id j
still_stands c id j n s = record { block = s.block; here = c.other j n ∙ s.here; named = s.named }

pub stood_before : {old new : List Place} {k : ℕ} {p : Place} → Changed old new k p → (id j : ℕ) → (j ≡ k → ⊥) → Stands new id j → Stands old id j
stood_before c id j n s = record { block = s.block; here = sym (c.other j n) ∙ s.here; named = s.named }

-- ---- how many

pub count_set_taken : (ps : List Place) (k : ℕ) (r : Record) → k < length ps → at ps k ≡ free → present (set ps k (taken r)) ≡ suc (present ps)
unfolding blocks
count_set_taken [] k r h e = absurd (omega arith)
count_set_taken (free ∷ ps) zero r h e = refl
count_set_taken (taken s ∷ ps) zero r h e = not_both (taken s) s refl e
count_set_taken (free ∷ ps) (suc k) r h e = count_set_taken ps k r (omega arith) e
count_set_taken (taken s ∷ ps) (suc k) r h e = ap suc (count_set_taken ps k r (omega arith) e)

pub count_set_free : (ps : List Place) (k : ℕ) (r : Record) → at ps k ≡ taken r → suc (present (set ps k free)) ≡ present ps
unfolding blocks
count_set_free [] k r e = not_both free r e refl
count_set_free (free ∷ ps) zero r e = not_both free r e refl
count_set_free (taken s ∷ ps) zero r e = refl
count_set_free (free ∷ ps) (suc k) r e = count_set_free ps k r e
count_set_free (taken s ∷ ps) (suc k) r e = ap suc (count_set_free ps k r e)

pub count_snoc : (ps : List Place) (r : Record) → present (ps ++ (taken r ∷ [])) ≡ suc (present ps)
unfolding blocks
count_snoc [] r = refl
count_snoc (free ∷ ps) r = count_snoc ps r
count_snoc (taken s ∷ ps) r = ap suc (count_snoc ps r)

pub count_most : (ps : List Place) → present ps ≤ length ps
unfolding blocks
count_most [] = omega arith
count_most (free ∷ ps) = omega (arith, count_most ps)
count_most (taken s ∷ ps) = omega (arith, count_most ps)

-- a place is free: fewer blocks than places
pub count_less : (ps : List Place) (k : ℕ) → k < length ps → at ps k ≡ free → present ps < length ps
unfolding blocks
count_less [] k h e = absurd (omega arith)
count_less (free ∷ ps) zero h e = omega (arith, count_most ps)
count_less (taken s ∷ ps) zero h e = not_both (taken s) s refl e
count_less (free ∷ ps) (suc k) h e = omega (arith, count_less ps k (omega arith) e)
count_less (taken s ∷ ps) (suc k) h e = omega (arith, count_less ps k (omega arith) e)

-- none is free: as many blocks as places
pub count_all : (ps : List Place) → ((k : ℕ) → k < length ps → at ps k ≡ free → ⊥) → present ps ≡ length ps
unfolding blocks
count_all [] none = refl
count_all (free ∷ ps) none = absurd (none 0 (omega arith) refl)
count_all (taken s ∷ ps) none = ap suc (count_all ps (λ k h e. none (suc k) (omega arith) e))
