-- Arrays of flags and counts, a place at a time.
--     set_marked, or_marked                            a flag that is set; or that is where a value holds
--     flags_none, flags_more                           `Flags`: one flag written more
--     by_none, by_or, by_more                          `GatheredBy`: one test more
--     gathered_none, gathered_more                      `Gathered`: one test more
--     counted_none, counted_more, counted_most         `Counted`: one index more
-- Assumes nothing.
use mathlib.Core.Path.{◌≡◌, sym, ap, ◌∙◌}
use mathlib.Core.Bool.{Bool, true, false, ◌&&◌, ◌||◌}
use mathlib.Core.List.{List}
use mathlib.Core.Logic.{⊎_elim}
use Prim.Native.Nat.{ℕ, ◌+◌, ◌≤◌, ◌<◌}
use native.Mathlib.Nat.{add-zero, eq-or-lt_of_le}
use native.Mathlib.Omega.{arith}
use lib.Dec.{eqb}
use lib.ListN.{length, get_or, set, replicate, length-set, length-replicate, get_or-replicate}
use lib.Seq.{get_or-set_same, get_or-set_other, set-get_or}
use borrow.Author.Tests.{eq-eqb, ne_eqb}
use Rattle.sets.specs.Members.{count_below}
use Rattle.sets.proofs.Counts.{count_suc, count_le}
use Rattle.tables.specs.Laws.{same?}
use Rattle.lists.specs.First.{first_from}
use Rattle.lists.proofs.Search.{or_true, or_false, some_more}
use Rattle.regions.specs.Graph.{marked}
use Rattle.signals.specs.Flags.{Flags, Gathered, GatheredBy, Counted}

pub set_marked : (l : List Bool) (i j : ℕ) → i < length l → marked (set l i true) j ≡ (marked l j || eqb i j)
set_marked l i j h =
    ⊎_elim
    (λ (e : i ≡ j). rw (eq-eqb i j e) (ap (marked (set l i true)) (sym e) ∙ get_or-set_same l i true false h ∙ or_true (marked l j)))
    (λ (n : i ≡ j → ⊥). rw (ne_eqb i j n) (get_or-set_other l i j true false (λ e. n (sym e)) ∙ or_false (marked l j)))
    (same? i j)

-- ---- flags by number

pub flags_none : (P : ℕ → Bool) (out : List Bool) → Flags 0 P out
flags_none P out = record { long = omega arith; at = λ p h. absurd (omega arith) }

pub flags_more : {P : ℕ → Bool} {out : List Bool} (p : ℕ) → Flags p P out → p < length out → (v : Bool) → v ≡ P p → Flags (p + 1) P (set out p v)
flags_more {P} {out} p f h v e = record {
  long = simp length-set (omega arith);
  at = λ j l. ⊎_elim
      (λ (same : j ≡ p). rw same (get_or-set_same out p v false h ∙ e))
      (λ (less : j < p). get_or-set_other out p j v false (λ q. omega arith) ∙ f.at j less)
      (eq-or-lt_of_le (let m : j ≤ p = omega arith in m));
}

-- ---- flags by index

-- a flag that is set where the value holds, without a branch on it
pub or_marked : (l : List Bool) (i j : ℕ) (v : Bool) → i < length l → marked (set l i (marked l i || v)) j ≡ (marked l j || (v && eqb i j))
or_marked l i j true h = rw (← or_true (marked l i)) (set_marked l i j h)
or_marked l i j false h = rw (← or_false (marked l i), set-get_or l i false) (or_false (marked l j))

module _ (index : ℕ → ℕ) (test : ℕ → Bool) where
  pub by_none : (n : ℕ) → GatheredBy 0 index test (replicate n false)
  unfolding first_from
  by_none n = record { at = λ j h. get_or-replicate n j false false (rw length-replicate at h) }

  pub by_or : (p : ℕ) {out : List Bool} → GatheredBy p index test out → index p < length out
      → GatheredBy (p + 1) index test (set out (index p) (marked out (index p) || test p))
  by_or p {out} g l = record {
    at = λ j h.
        or_marked out (index p) j (test p) l ∙ ap (λ (t : Bool). t || (test p && eqb (index p) j)) (g.at j (rw length-set at h))
        ∙ sym (some_more (λ q. test q && eqb (index q) j) p);
  }

  -- the same of an index and a test that were computed
  pub by_more : (p : ℕ) {out : List Bool} → GatheredBy p index test out → (i : ℕ) (v : Bool) → i ≡ index p → v ≡ test p → i < length out
      → GatheredBy (p + 1) index test (set out i (marked out i || v))
  by_more p {out} g i v e f l = rw (e, f) (by_or p g (rw e at l))

module _ (index : List ℕ) (tests : List Bool) where
  pub gathered_none : (n : ℕ) → Gathered 0 index tests (replicate n false)
  gathered_none n = record { at = (by_none (λ p. get_or index p 0) (marked tests) n).at }

  pub gathered_more : (p : ℕ) {out : List Bool} → Gathered p index tests out → (i : ℕ) (v : Bool) → i ≡ get_or index p 0 → v ≡ marked tests p → i < length out
      → Gathered (p + 1) index tests (set out i (marked out i || v))
  gathered_more p {out} g i v e f l = record { at = (by_more (λ q. get_or index q 0) (marked tests) p {out = out} (record { at = g.at }) i v e f l).at }

-- ---- counts

module _ (index : List ℕ) where
  pub counted_none : (n : ℕ) → Counted 0 index (replicate n 0)
  unfolding count_below
  counted_none n = record { at = λ j h. get_or-replicate n j 0 0 (rw length-replicate at h) }

  module _ (p : ℕ) {counts : List ℕ} (g : Counted p index counts) (l : get_or index p 0 < length counts) where
    pub counted_most : get_or counts (get_or index p 0) 0 ≤ p
    counted_most = omega (arith, g.at (get_or index p 0) l, count_le (λ q. eqb (get_or index q 0) (get_or index p 0)) p)

    pub counted_more : Counted (p + 1) index (set counts (get_or index p 0) (get_or counts (get_or index p 0) 0 + 1))
    counted_more = record {
      at = λ j h.
          let i = get_or index p 0 in
          let before = g.at j (rw length-set at h) in
          let more = count_suc (λ q. eqb (get_or index q 0) j) p in
          ⊎_elim
          (λ (e : i ≡ j). ap (λ (x : ℕ). get_or (set counts i (get_or counts i 0 + 1)) x 0) (sym e) ∙ get_or-set_same counts i (get_or counts i 0 + 1) 0 l
          ∙ ap (λ (x : ℕ). x + 1) (ap (λ (x : ℕ). get_or counts x 0) e ∙ before) ∙ sym (more ∙ rw (eq-eqb i j e)))
          (λ (n : i ≡ j → ⊥). get_or-set_other counts i j (get_or counts i 0 + 1) 0 (λ e. n (sym e)) ∙ before ∙ sym (more ∙ rw (ne_eqb i j n) (add-zero _)))
          (same? i j);
    }
